-- `report_subject::is_subject` meets its contract.
use Rattle.std.proofs.Common.{arith}
use Rattle.std.proofs.lemmas.Grind.{common_steps}
use Rattle.reporting.specs.FileName.{alphanumeric, good_id}
use Rattle.report_subject.proofs.is_subject.Goals as goal

pub returns-then-is_domain-2 : goal.returns-then-is_domain-2
unfolding good_id alphanumeric
returns-then-is_domain-2 c = grind (arith, common_steps)
