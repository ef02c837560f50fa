-- `report_turns::turn_number` meets its contract.
use mathlib.Core.Path.{◌≡◌, sym, ap, ◌∙◌, subst}
use borrow.Author.Rules.{rules}
use Rattle.std.specs.Prelude.{Ok, Err, false}
use Rattle.std.specs.Option.{unwrap_or}
use Rattle.report_turns.proofs.ValueTurns.{NumberSays, read_number, number_more, number_ended, number_refused}
use Rattle.report_kept.specs.code.View.{at_number, plain}
use Rattle.report_turns.specs.code.Values.{TurnsNumber, number_left_at}
use Rattle.report_turns.proofs.turn_number.Goals as goal

pub returns-in_err-value : goal.returns-in_err-value
returns-in_err-value c =
    let a = c.args in
    let same : c.from_residual.result ≡ Err c.in_err-value.field-0.0 = search (rules, c.from_residual.ensures) in
    let says = read_number a.s _ _ _ _ a.x _ c.find_least-least.ensures c.find_most-most.ensures c.find_floor.ensures c.find_read-read.ensures c.in_err-value.ensures in
    subst (TurnsNumber a.s a.x) (sym same) (λ h l. number_refused a.s h l a.x _ _ says)

pub returns-in-More : goal.returns-in-More
unfolding at_number
returns-in-More c =
    let a = c.args in
    let says = read_number a.s _ _ _ _ a.x _ c.find_least-least.ensures c.find_most-most.ensures c.find_floor.ensures c.find_read-read.ensures c.in_ok-value.ensures in
    subst (λ t. TurnsNumber a.s a.x (Ok t)) (sym c.go_on.ensures) (λ h l. number_more a.s h l a.x _ _ (subst (λ r. NumberSays a.s h l a.x (unwrap_or c.find_read-read.result 0) (Ok r)) c.in-More.is says))

pub returns-in-Ended : goal.returns-in-Ended
returns-in-Ended c =
    let a = c.args in
    let says = read_number a.s _ _ _ _ a.x _ c.find_least-least.ensures c.find_most-most.ensures c.find_floor.ensures c.find_read-read.ensures c.in_ok-value.ensures in
    subst (λ t. TurnsNumber a.s a.x (Ok t)) (sym (c.go_on-in-Ended.ensures ∙ ap (plain false) (c.leave_number.ensures ∙ ap (number_left_at a.s) c.unwrap_or.ensures)))
    (λ h l. number_ended a.s h l a.x _ (subst (λ r. NumberSays a.s h l a.x (unwrap_or c.find_read-read.result 0) (Ok r)) c.in-Ended.is says))
