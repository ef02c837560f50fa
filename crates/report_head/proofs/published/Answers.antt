-- `report_head::published` meets its contract.
use Rattle.std.proofs.Common.{arith}
use Rattle.std.proofs.lemmas.Grind.{common_steps}
use Rattle.force.specs.InForce.{as_none}
use Rattle.report.specs.Report.{published}
use Rattle.report_head.proofs.published.Goals as goal

pub returns-then-is_usable : goal.returns-then-is_usable
unfolding published
returns-then-is_usable c = grind (arith, common_steps)

pub returns-else-is_usable : goal.returns-else-is_usable
unfolding published as_none
returns-else-is_usable c = grind (arith, common_steps)
