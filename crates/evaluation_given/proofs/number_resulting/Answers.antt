-- `evaluation_given::number_resulting` meets its contract.
use Rattle.evaluation_numbers.specs.Numbers.{resulting_numbers}
use Rattle.evaluation_given.proofs.number_resulting.Goals as goal

pub returns-in-Ok : goal.returns-in-Ok
unfolding resulting_numbers
returns-in-Ok c = rw c.in-Ok.is c.judge.ensures

pub returns-in-Err : goal.returns-in-Err
unfolding resulting_numbers
returns-in-Err c = rw c.in-Err.is c.refuse.ensures
