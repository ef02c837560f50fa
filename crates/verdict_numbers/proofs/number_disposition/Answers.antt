-- `verdict_numbers::number_disposition` meets its contract.
use Rattle.rows.specs.Rows.{disposition_number}
use Rattle.verdict_numbers.proofs.number_disposition.Goals as goal

pub returns-in-Apply : goal.returns-in-Apply
returns-in-Apply c = rw c.in-Apply.is c.number_policy.ensures

pub returns-in-Defer : goal.returns-in-Defer
unfolding disposition_number
returns-in-Defer c = rw c.in-Defer.is
