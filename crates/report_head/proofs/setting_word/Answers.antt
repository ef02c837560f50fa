-- `report_head::setting_word` meets its contract.
use Rattle.std.proofs.Common.{arith}
use Rattle.std.proofs.lemmas.Grind.{common_steps}
use Rattle.octets.specs.Octets.{octets}
use Rattle.publishing.specs.Publishing.{setting_value}
use Rattle.report_head.proofs.setting_word.Goals as goal

pub returns-in-Set-None : goal.returns-in-Set-None
unfolding setting_value octets
returns-in-Set-None c = grind (arith, common_steps)

pub returns-in-Set-Quarantine : goal.returns-in-Set-Quarantine
unfolding setting_value octets
returns-in-Set-Quarantine c = grind (arith, common_steps)

pub returns-in-Set-Reject : goal.returns-in-Set-Reject
unfolding setting_value octets
returns-in-Set-Reject c = grind (arith, common_steps)

pub returns-in-Absent : goal.returns-in-Absent
unfolding setting_value octets
returns-in-Absent c = grind (arith, common_steps)
