-- `verdict_numbers::number_result` meets its contract.
use Rattle.rows.specs.Rows.{result_number}
use Rattle.verdict_numbers.proofs.number_result.Goals as goal

pub returns-in-None : goal.returns-in-None
unfolding result_number
returns-in-None c = rw c.in-None.is

pub returns-in-Pass : goal.returns-in-Pass
unfolding result_number
returns-in-Pass c = rw c.in-Pass.is

pub returns-in-Fail : goal.returns-in-Fail
unfolding result_number
returns-in-Fail c = rw c.in-Fail.is

pub returns-in-Temperror : goal.returns-in-Temperror
unfolding result_number
returns-in-Temperror c = rw c.in-Temperror.is

pub returns-in-Permerror : goal.returns-in-Permerror
unfolding result_number
returns-in-Permerror c = rw c.in-Permerror.is
