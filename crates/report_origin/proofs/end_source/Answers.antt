-- `report_origin::end_source` meets its contract.
use mathlib.Core.Path.{ap, ◌∙◌}
use Rattle.report_origin.proofs.OriginLaws.{ended_octet, ended_group}
use Rattle.report_origin.specs.code.Origins.{octet_put, group_put}
use Rattle.report_origin.proofs.end_source.Goals as goal

pub returns-then-s-eq1 : goal.returns-then-s-eq1
returns-then-s-eq1 c = let a = c.args in c.put_octet.ensures ∙ ap (λ t. octet_put t 15 a.s.ten) c.arrive-after.ensures ∙ ended_octet a.s c.if-s-eq1.true

pub returns-else-s-eq1 : goal.returns-else-s-eq1
returns-else-s-eq1 c = let a = c.args in c.put_group.ensures ∙ ap (λ t. group_put t 14 a.s.sixteen) c.arrive-after.ensures ∙ ended_group a.s c.if-s-eq1.false
