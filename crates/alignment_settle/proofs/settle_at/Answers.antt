-- `alignment_settle::settle_at` meets its contract.
use mathlib.Core.Path.{◌∙◌}
use Rattle.alignment.specs.Alignments.{settled_alignment}
use Rattle.alignment_stored.specs.code.Stored.{identifier_at}
use Rattle.alignment_settle.proofs.settle_at.Goals as goal

pub returns : goal.returns
unfolding settled_alignment identifier_at
returns c = c.settle.ensures ∙ rw (c.same_octets-equal.ensures, c.slot.ensures, c.outcome_at.ensures, c.mode_of.ensures, c.kind_at.ensures)
