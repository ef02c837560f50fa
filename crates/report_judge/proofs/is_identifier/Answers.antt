-- `report_judge::is_identifier` meets its contract.
use Rattle.std.proofs.Common.{arith}
use Rattle.std.proofs.lemmas.Grind.{common_steps}
use Rattle.rows.specs.Lists.{reported}
use Rattle.report.specs.Report.{good_identifier}
use Rattle.report_judge.proofs.is_identifier.Goals as goal

pub returns-then-octet_at-ne1 : goal.returns-then-octet_at-ne1
unfolding good_identifier reported
returns-then-octet_at-ne1 c = grind (arith, common_steps)

pub returns-else-octet_at-ne1 : goal.returns-else-octet_at-ne1
unfolding good_identifier reported
returns-else-octet_at-ne1 c = grind (arith, common_steps)

pub returns-else-is_domain : goal.returns-else-is_domain
unfolding good_identifier reported
returns-else-is_domain c = grind (arith, common_steps)
