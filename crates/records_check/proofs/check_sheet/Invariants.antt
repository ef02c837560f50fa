-- `records_check::check_sheet` meets its contract: what is left decides, record by record.
use lib.ListN.{length}
use Rattle.records_check.proofs.ScanningLaws.{Reading}
use Rattle.records_check.proofs.check_sheet.Given as goal

abbrev pub invariant-loop-t : goal.invariant-loop-t
invariant-loop-t l = Reading l.records l.phase l.t l.sheet

abbrev pub decreases-loop-t : goal.decreases-loop-t
decreases-loop-t l = length l.t
