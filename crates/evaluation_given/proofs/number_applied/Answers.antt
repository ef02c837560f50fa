-- `evaluation_given::number_applied` meets its contract.
use Rattle.evaluation_numbers.specs.Numbers.{policy_number}
use Rattle.evaluation_given.proofs.number_applied.Goals as goal

pub returns-in-Known : goal.returns-in-Known
unfolding policy_number
returns-in-Known c = rw c.in-Known.is c.number_policy.ensures

pub returns-in-Unknown : goal.returns-in-Unknown
unfolding policy_number
returns-in-Unknown c = rw c.in-Unknown.is
