-- `reporting_field::write_field` meets its contract: a text for each answer on the two methods.
use Rattle.std.proofs.Common.{sym}
use Rattle.octets.specs.Octets.{octets}
use Rattle.reporting.specs.Field.{methods}
use Rattle.reporting_field.proofs.FieldLaws.{field_by}
use Rattle.reporting_field.proofs.write_field.Goals as goal

pub returns-in-true-true : goal.returns-in-true-true
unfolding octets methods
returns-in-true-true c = rw (field_by c.args.dkim c.args.spf (sym c.in-true-true.ensures) (sym c.in-true-true.ensures')) c.write.ensures

pub returns-in-true-false : goal.returns-in-true-false
unfolding octets methods
returns-in-true-false c = rw (field_by c.args.dkim c.args.spf (sym c.in-true-false.ensures) (sym c.in-true-false.ensures')) c.write-in-true-false.ensures

pub returns-in-false-true : goal.returns-in-false-true
unfolding octets methods
returns-in-false-true c = rw (field_by c.args.dkim c.args.spf (sym c.in-false-true.ensures) (sym c.in-false-true.ensures')) c.write-in-false-true.ensures

pub returns-in-false-false : goal.returns-in-false-false
unfolding octets methods
returns-in-false-false c = rw (field_by c.args.dkim c.args.spf (sym c.in-false-false.ensures) (sym c.in-false-false.ensures')) c.write-in-false-false.ensures
