-- `reporting_name::put_name` meets its contract.
use Rattle.octets.specs.Octets.{octets}
use Rattle.reporting_name.proofs.FileNameLaws.{name_puts, name_puts_alone}
use Rattle.reporting_name.proofs.put_name.Goals as goal

pub returns-in-Some : goal.returns-in-Some
unfolding octets
returns-in-Some c =
    let a = c.args in
    rw c.in-Some.is
    (name_puts a.receiver.now a.policy_domain.now a.begin a.end a.out.now c.put_lower_then-second.ensures c.put_lower_then-times.ensures c.put_decimal_then-last.ensures c.in-Some.id.now
    c.put_decimal_then-ending.ensures c.put_then.ensures)

pub returns-in-None : goal.returns-in-None
unfolding octets
returns-in-None c =
    let a = c.args in
    rw c.in-None.is
    (name_puts_alone a.receiver.now a.policy_domain.now a.begin a.end a.out.now c.put_lower_then-second.ensures c.put_lower_then-times.ensures c.put_decimal_then-last.ensures
    c.put_decimal_then.ensures)
