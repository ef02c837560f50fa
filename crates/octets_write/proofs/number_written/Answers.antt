-- `octets_write::number_written` meets its contract, case by case.
use Rattle.octets.specs.Lent.{written_numbers}
use Rattle.octets_write.proofs.number_written.Goals as goal

pub returns-in-Ok : goal.returns-in-Ok
unfolding written_numbers
returns-in-Ok c = rw c.in-Ok.is

pub returns-in-Err : goal.returns-in-Err
unfolding written_numbers
returns-in-Err c = rw c.in-Err.is
