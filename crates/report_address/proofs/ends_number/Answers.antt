-- `report_address::ends_number` meets its contract.
use Rattle.std.proofs.Common.{◌≡◌, sym, ◌∙◌, arith}
use Rattle.report_address.proofs.AddressTests.{end_none, end_less, end_dot, end_no_dot, end_colon, end_no_colon, end_other}
use Rattle.report_address.proofs.ends_number.Goals as goal

pub returns-then-digits-eq0 : goal.returns-then-digits-eq0
returns-then-digits-eq0 c = let a = c.args in end_none a.kind a.numbers a.digits a.x c.if-digits-eq0.true

pub returns-in-60 : goal.returns-in-60
returns-in-60 c = let a = c.args in c.is_last_number.ensures ∙ end_less a.kind a.numbers a.digits a.x c.if-digits-eq0.false c.in-60.is

pub returns-then-can_dot : goal.returns-then-can_dot
returns-then-can_dot c = let a = c.args in end_dot a.kind a.numbers a.digits a.x c.if-digits-eq0.false c.in-46.is (sym c.can_dot.ensures ∙ c.if-can_dot.true)

pub returns-else-can_dot : goal.returns-else-can_dot
returns-else-can_dot c = let a = c.args in c.if-can_dot.false ∙ end_no_dot a.kind a.numbers a.digits a.x c.if-digits-eq0.false c.in-46.is (sym c.can_dot.ensures ∙ c.if-can_dot.false)

pub returns-then-can_group : goal.returns-then-can_group
returns-then-can_group c = let a = c.args in end_colon a.kind a.numbers a.digits a.x c.if-digits-eq0.false c.in-58.is (sym c.can_group.ensures ∙ c.if-can_group.true)

pub returns-else-can_group : goal.returns-else-can_group
returns-else-can_group c = let a = c.args in c.if-can_group.false ∙ end_no_colon a.kind a.numbers a.digits a.x c.if-digits-eq0.false c.in-58.is (sym c.can_group.ensures ∙ c.if-can_group.false)

pub returns-in_default : goal.returns-in_default
returns-in_default c =
    let a = c.args in
    let x = a.x in
    end_other a.kind a.numbers a.digits x c.if-digits-eq0.false (λ (e : x ≡ 60). omega arith) (λ (e : x ≡ 46). omega arith) (λ (e : x ≡ 58). omega arith)
