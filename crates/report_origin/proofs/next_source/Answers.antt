-- `report_origin::next_source` meets its contract.
use mathlib.Core.Path.{ap, ◌∙◌}
use Prim.Native.Nat.{◌+◌, ◌*◌}
use Rattle.std.specs.Prelude.{Ok}
use Rattle.report_origin.proofs.OriginLaws.{next_none, next_octet, next_group}
use Rattle.report_origin.specs.code.Origins.{octet_put, group_put}
use Rattle.report_origin.proofs.next_source.Goals as goal

pub returns-then-numbers-ge7 : goal.returns-then-numbers-ge7
returns-then-numbers-ge7 c = let a = c.args in next_none a.s a.kind a.value c.if-numbers-ge7.true

pub returns-then-kind-eq1 : goal.returns-then-kind-eq1
returns-then-kind-eq1 c = let a = c.args in ap Ok (c.put_octet.ensures ∙ ap (λ t. octet_put t (12 + a.s.numbers) a.value) c.move_on.ensures) ∙ next_octet a.s a.kind a.value c.if-numbers-ge7.false c.if-kind-eq1.true

pub returns-else-kind-eq1 : goal.returns-else-kind-eq1
returns-else-kind-eq1 c = let a = c.args in ap Ok (c.put_group.ensures ∙ ap (λ t. group_put t (2 * a.s.numbers) a.value) c.move_on-else-kind-eq1.ensures) ∙ next_group a.s a.kind a.value c.if-numbers-ge7.false c.if-kind-eq1.false
