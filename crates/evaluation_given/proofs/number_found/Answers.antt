-- `evaluation_given::number_found` meets its contract.
use Rattle.evaluation_numbers.specs.Numbers.{found_numbers}
use Rattle.evaluation_given.proofs.number_found.Goals as goal

pub returns-in-Ok : goal.returns-in-Ok
unfolding found_numbers
returns-in-Ok c = rw c.in-Ok.is

pub returns-in-Err : goal.returns-in-Err
unfolding found_numbers
returns-in-Err c = rw c.in-Err.is
