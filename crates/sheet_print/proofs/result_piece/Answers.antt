-- `sheet_print::result_piece` meets its contract, case by case.
use Rattle.octets.specs.Octets.{octets}
use Rattle.sheet.specs.Printed.{result_word}
use Rattle.sheet_print.specs.code.Words.{words}
use Rattle.sheet_print.proofs.result_piece.Goals as goal

pub returns-in-None : goal.returns-in-None
unfolding words result_word octets
returns-in-None c = rw c.in-None.is

pub returns-in-Pass : goal.returns-in-Pass
unfolding words result_word octets
returns-in-Pass c = rw c.in-Pass.is

pub returns-in-Fail : goal.returns-in-Fail
unfolding words result_word octets
returns-in-Fail c = rw c.in-Fail.is

pub returns-in-Temperror : goal.returns-in-Temperror
unfolding words result_word octets
returns-in-Temperror c = rw c.in-Temperror.is

pub returns-in-Permerror : goal.returns-in-Permerror
unfolding words result_word octets
returns-in-Permerror c = rw c.in-Permerror.is
