-- `report_store::five_before` meets its contract.
use mathlib.Core.Path.{◌∙◌}
use Rattle.report_store.proofs.StoreLaws.{not_five, five_dotted, five_grouped}
use Rattle.report_store.proofs.five_before.Goals as goal

pub returns-then-numbers-ne5 : goal.returns-then-numbers-ne5
returns-then-numbers-ne5 c = let a = c.args in not_five a.kind a.numbers a.row.now c.if-numbers-ne5.true

pub returns-then-kind-eq1 : goal.returns-then-kind-eq1
returns-then-kind-eq1 c = let a = c.args in c.five_octets.ensures ∙ five_dotted a.kind a.numbers a.row.now c.if-numbers-ne5.false c.if-kind-eq1.true

pub returns-else-kind-eq1 : goal.returns-else-kind-eq1
returns-else-kind-eq1 c = let a = c.args in c.five_groups.ensures ∙ five_grouped a.kind a.numbers a.row.now c.if-numbers-ne5.false c.if-kind-eq1.false
