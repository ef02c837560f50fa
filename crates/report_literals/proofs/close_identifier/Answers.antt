-- `report_literals::close_identifier` meets its contract.
use Rattle.report_literals.proofs.LiteralLaws.{closes_none, closes_some}
use Rattle.report_kept.specs.code.View.{closed_state}
use Rattle.report_literals.proofs.close_identifier.Goals as goal

pub returns-then-n-ge16 : goal.returns-then-n-ge16
returns-then-n-ge16 c = closes_none c.args.kind c.args.s c.if-n-ge16.true

pub returns : goal.returns
unfolding closed_state
returns c = closes_some c.args.kind c.args.s _ _ c.find_behind.ensures c.arrive-after.ensures c.if-n-ge16.false
