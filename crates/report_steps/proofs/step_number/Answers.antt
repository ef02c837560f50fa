-- `report_steps::step_number` meets its contract.
use mathlib.Core.Path.{sym, ◌∙◌}
use mathlib.Core.Logic.{inl, inr}
use Rattle.report_steps.proofs.StepLaws.{is_low, ended, not_yet, outside, over, goes_on}
use Rattle.report_steps.proofs.step_number.Goals as goal

pub returns-then-floor-value : goal.returns-then-floor-value
returns-then-floor-value c =
    let a = c.args in
    ended a.least a.most a.floor a.value a.some a.x c.if-x-eq60.true c.if-some.true c.if-floor-value.true

pub returns-else-some : goal.returns-else-some
returns-else-some c =
    let a = c.args in
    not_yet a.least a.most a.floor a.value a.some a.x c.if-x-eq60.true (elim c.else-some.either [ inl h ↦ inl h | inr h ↦ inr h ])

pub returns-then-not-is_next_digit : goal.returns-then-not-is_next_digit
returns-then-not-is_next_digit c =
    let a = c.args in
    outside a.least a.most a.floor a.value a.some a.x c.if-x-eq60.false (sym c.is_next_digit.ensures ∙ c.if-not-is_next_digit.true)

pub overflow_sub-digit : goal.overflow_sub-digit
overflow_sub-digit c =
    let a = c.args in
    is_low a.least a.value a.some a.x (sym c.is_next_digit.ensures ∙ c.if-not-is_next_digit.false)

pub returns-then-is_within : goal.returns-then-is_within
returns-then-is_within c =
    let a = c.args in
    goes_on a.least a.most a.floor a.value a.some a.x c.if-x-eq60.false
    (sym c.is_next_digit.ensures ∙ c.if-not-is_next_digit.false) (sym c.is_within.ensures ∙ c.if-is_within.true)

pub returns-else-is_within : goal.returns-else-is_within
returns-else-is_within c =
    let a = c.args in
    over a.least a.most a.floor a.value a.some a.x c.if-x-eq60.false
    (sym c.is_next_digit.ensures ∙ c.if-not-is_next_digit.false) (sym c.is_within.ensures ∙ c.if-is_within.false)
