-- All definitions of this crate opened at once, for theorems that are closed by computation.
use Rattle.octets.proofs.Computing.{octets_computes}
use Rattle.grammar.specs.code.Finding.{has_empty, has_text, ◌and_then◌, ◌or_else◌, following, fault_from, fault, shortest_text_from, shortest_text}

unfoldable pub grammar_computes : Unit {0}
unfolding octets_computes has_empty has_text ◌and_then◌ ◌or_else◌ following fault_from fault shortest_text_from shortest_text
grammar_computes = tt
