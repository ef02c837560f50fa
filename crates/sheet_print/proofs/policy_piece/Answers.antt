-- `sheet_print::policy_piece` meets its contract, case by case.
use Rattle.octets.specs.Octets.{octets}
use Rattle.sheet.specs.Printed.{policy_word}
use Rattle.sheet_print.specs.code.Words.{words}
use Rattle.sheet_print.proofs.policy_piece.Goals as goal

pub returns-in-None : goal.returns-in-None
unfolding words policy_word octets
returns-in-None c = rw c.in-None.is

pub returns-in-Quarantine : goal.returns-in-Quarantine
unfolding words policy_word octets
returns-in-Quarantine c = rw c.in-Quarantine.is

pub returns-in-Reject : goal.returns-in-Reject
unfolding words policy_word octets
returns-in-Reject c = rw c.in-Reject.is
