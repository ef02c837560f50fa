-- `report_judge::is_line` meets its contract.
use Rattle.std.proofs.Common.{arith}
use Rattle.std.proofs.lemmas.Grind.{common_steps}
use Rattle.report.specs.Report.{good_line}
use Rattle.report_rows.specs.code.Lines.{names_at, line_of}
use Rattle.report_judge.proofs.is_line.Goals as goal

pub returns-then-is_domain : goal.returns-then-is_domain
unfolding good_line line_of names_at
returns-then-is_domain c = grind (arith, common_steps)

pub returns-else-is_domain : goal.returns-else-is_domain
unfolding good_line line_of names_at
returns-else-is_domain c = grind (arith, common_steps)
