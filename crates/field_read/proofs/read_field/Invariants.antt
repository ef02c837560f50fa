-- `field_read::read_field` meets its contract: what is left to read says what the whole says.
use Rattle.field_read.proofs.ReadLaws.{Reads}
use Rattle.field_read.proofs.read_field.Given as goal

abbrev pub invariant-loop-at : goal.invariant-loop-at
invariant-loop-at l = Reads l.text l.r l.at
