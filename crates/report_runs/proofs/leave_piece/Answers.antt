-- `report_runs::leave_piece` meets its contract.
use Rattle.report_runs.proofs.RunLaws.{leads_on}
use Rattle.report_runs.proofs.leave_piece.Goals as goal

pub returns-then-node-lt28 : goal.returns-then-node-lt28
returns-then-node-lt28 c = leads_on _ _ c.if-node-ge22.true c.if-node-lt28.true c.lead_on.ensures
