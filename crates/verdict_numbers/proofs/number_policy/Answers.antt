-- `verdict_numbers::number_policy` meets its contract.
use Rattle.rows.specs.Rows.{disposition_number}
use Rattle.verdict_numbers.proofs.number_policy.Goals as goal

pub returns-in-None : goal.returns-in-None
unfolding disposition_number
returns-in-None c = rw c.in-None.is

pub returns-in-Quarantine : goal.returns-in-Quarantine
unfolding disposition_number
returns-in-Quarantine c = rw c.in-Quarantine.is

pub returns-in-Reject : goal.returns-in-Reject
unfolding disposition_number
returns-in-Reject c = rw c.in-Reject.is
