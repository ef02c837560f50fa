-- `alignment_settle::mode_of` meets its contract.
use borrow.Author.Rules.{rules}
use Rattle.alignment.specs.Alignments.{mode_of}
use Rattle.alignment_settle.proofs.mode_of.Goals as goal

pub returns-in-Spf : goal.returns-in-Spf
unfolding mode_of
returns-in-Spf c = search rules

pub returns-in-Dkim : goal.returns-in-Dkim
unfolding mode_of
returns-in-Dkim c = search rules
