-- `sheet_print::disposition_piece` meets its contract, case by case.
use Rattle.octets.specs.Octets.{octets}
use Rattle.sheet.specs.Printed.{disposition_word}
use Rattle.sheet_print.specs.code.Words.{words}
use Rattle.sheet_print.proofs.disposition_piece.Goals as goal

pub returns-in-Apply : goal.returns-in-Apply
unfolding disposition_word
returns-in-Apply c = rw c.in-Apply.is c.policy_piece.ensures

pub returns-in-Defer : goal.returns-in-Defer
unfolding words disposition_word octets
returns-in-Defer c = rw c.in-Defer.is
