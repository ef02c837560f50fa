-- `sheet_print::applied_piece` meets its contract, case by case.
use Rattle.octets.specs.Octets.{octets}
use Rattle.sheet.specs.Printed.{applied_word}
use Rattle.sheet_print.specs.code.Words.{words}
use Rattle.sheet_print.proofs.applied_piece.Goals as goal

pub returns-in-Known : goal.returns-in-Known
unfolding applied_word
returns-in-Known c = rw c.in-Known.is c.policy_piece.ensures

pub returns-in-Unknown : goal.returns-in-Unknown
unfolding words applied_word octets
returns-in-Unknown c = rw c.in-Unknown.is
