-- `report_source::step_source` meets its contract.
use mathlib.Core.Path.{sym, ◌∙◌, refl, subst}
use Rattle.std.specs.Prelude.{Ok}
use native.Mathlib.Omega.{arith}
use Rattle.report_source.specs.code.Sources.{Turns}
use Rattle.report_source.proofs.SourceLaws.{sound_below, dotted_value, grouped_value, is_refused, is_grown, not_dotted_kind, says_unsound, says_full, says_outside, says_dotted, says_grouped, turns_ended}
use Rattle.report_source.proofs.step_source.Goals as goal

pub returns-then-not-can_be_open : goal.returns-then-not-can_be_open
returns-then-not-can_be_open c = let a = c.args in is_refused a.kind a.numbers a.five a.digits a.ten a.sixteen a.x (says_unsound a.kind a.numbers a.five a.digits a.ten a.sixteen a.x (sym c.can_be_open.ensures ∙ c.if-not-can_be_open.true))

pub returns-then-ends_number : goal.returns-then-ends_number
returns-then-ends_number c = let a = c.args in subst (λ t. Turns a.kind a.numbers a.five a.digits a.ten a.sixteen a.x (Ok t)) (sym c.end_number.ensures) (turns_ended a.kind a.numbers a.five a.digits a.ten a.sixteen a.x (sym c.can_be_open.ensures ∙ c.if-not-can_be_open.false) (sym c.ends_number.ensures ∙ c.if-ends_number.true))

pub returns-then-digits-ge4 : goal.returns-then-digits-ge4
returns-then-digits-ge4 c = let a = c.args in is_refused a.kind a.numbers a.five a.digits a.ten a.sixteen a.x (says_full a.kind a.numbers a.five a.digits a.ten a.sixteen a.x (sym c.can_be_open.ensures ∙ c.if-not-can_be_open.false) (sym c.ends_number.ensures ∙ c.if-ends_number.false) c.if-digits-ge4.true)

pub grow-requires : goal.grow-requires
grow-requires c = let a = c.args in let few = sound_below a.kind a.numbers a.digits a.ten a.sixteen (sym c.can_be_open.ensures ∙ c.if-not-can_be_open.false) in (omega (arith, c.if-digits-ge4.false), few.0, few.1, (dotted_value a.kind a.digits a.ten a.sixteen a.x (sym c.goes_dotted.ensures ∙ c.if-goes_dotted.true)).0)

pub returns-then-goes_dotted : goal.returns-then-goes_dotted
returns-then-goes_dotted c = let a = c.args in subst (λ t. Turns a.kind a.numbers a.five a.digits a.ten a.sixteen a.x (Ok t)) (sym c.grow.ensures) (is_grown a.kind a.numbers a.five a.digits a.ten a.sixteen a.x a.kind refl (says_dotted a.kind a.numbers a.five a.digits a.ten a.sixteen a.x (sym c.can_be_open.ensures ∙ c.if-not-can_be_open.false) (sym c.ends_number.ensures ∙ c.if-ends_number.false) (omega (arith, c.if-digits-ge4.false)) (sym c.goes_dotted.ensures ∙ c.if-goes_dotted.true)))

pub grow-requires-then-goes_grouped : goal.grow-requires-then-goes_grouped
grow-requires-then-goes_grouped c = let a = c.args in let few = sound_below a.kind a.numbers a.digits a.ten a.sixteen (sym c.can_be_open.ensures ∙ c.if-not-can_be_open.false) in (omega (arith, c.if-digits-ge4.false), few.0, few.1, grouped_value a.kind a.five a.digits a.sixteen a.x (sym c.goes_grouped.ensures ∙ c.if-goes_grouped.true))

pub returns-then-goes_grouped : goal.returns-then-goes_grouped
returns-then-goes_grouped c = let a = c.args in subst (λ t. Turns a.kind a.numbers a.five a.digits a.ten a.sixteen a.x (Ok t)) (sym c.grow-then-goes_grouped.ensures) (is_grown a.kind a.numbers a.five a.digits a.ten a.sixteen a.x 2 (not_dotted_kind a.kind a.five a.digits a.sixteen a.x (sym c.goes_grouped.ensures ∙ c.if-goes_grouped.true)) (says_grouped a.kind a.numbers a.five a.digits a.ten a.sixteen a.x (sym c.can_be_open.ensures ∙ c.if-not-can_be_open.false) (sym c.ends_number.ensures ∙ c.if-ends_number.false) (omega (arith, c.if-digits-ge4.false)) (sym c.goes_dotted.ensures ∙ c.if-goes_dotted.false) (sym c.goes_grouped.ensures ∙ c.if-goes_grouped.true)))

pub returns : goal.returns
returns c = let a = c.args in is_refused a.kind a.numbers a.five a.digits a.ten a.sixteen a.x (says_outside a.kind a.numbers a.five a.digits a.ten a.sixteen a.x (sym c.can_be_open.ensures ∙ c.if-not-can_be_open.false) (sym c.ends_number.ensures ∙ c.if-ends_number.false) (sym c.goes_dotted.ensures ∙ c.if-goes_dotted.false) (sym c.goes_grouped.ensures ∙ c.if-goes_grouped.false))
