-- `evaluation_given::number_field` meets its contract.
use Rattle.evaluation_numbers.specs.Numbers.{field_numbers}
use Rattle.evaluation_given.proofs.number_field.Goals as goal

pub returns-in-Ok : goal.returns-in-Ok
unfolding field_numbers
returns-in-Ok c = rw c.in-Ok.is c.accept.ensures

pub returns-in-Err : goal.returns-in-Err
unfolding field_numbers
returns-in-Err c = rw c.in-Err.is c.refuse.ensures
