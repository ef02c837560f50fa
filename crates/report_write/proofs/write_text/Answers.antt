-- `report_write::write_text` meets its contract.
use Rattle.report_write.proofs.WholeLaws.{too_long, counted_fits, longest_fits}
use Rattle.report_write.proofs.write_text.Goals as goal
use Rattle.report_write.proofs.write_text.Goals.{then-out-lt-LONGEST+else-out-needed, else-out-lt-LONGEST}

pub returns-then-out-needed : goal.returns-then-out-needed
returns-then-out-needed c =
    λ longest. too_long longest c.put_report-needed.ensures c.if-out-needed.true c.too_short.ensures

pub returns : goal.returns
returns c =
    λ longest. elim c.if-out-lt-LONGEST.branch [
      | then-out-lt-LONGEST+else-out-needed w ↦ counted_fits longest w.put_report-needed.ensures w.if-out-needed.false c.put_report.ensures
      | else-out-lt-LONGEST w ↦ longest_fits longest w.if-out-lt-LONGEST.false c.put_report.ensures
    ]
