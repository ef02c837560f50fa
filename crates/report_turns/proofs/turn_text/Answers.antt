-- `report_turns::turn_text` meets its contract.
use mathlib.Core.Path.{◌≡◌, sym, ap, ◌∙◌, subst}
use borrow.Author.Rules.{rules}
use Rattle.std.specs.Prelude.{Ok, Err, false}
use Rattle.report_leaves.specs.code.Leaves.{said, text_at}
use Rattle.report_turns.proofs.ValueTurns.{text_more, text_ended, text_refused}
use Rattle.report_kept.specs.code.View.{arrived, longer, plain}
use Rattle.report_turns.specs.code.Values.{TurnsText}
use Rattle.report_turns.proofs.turn_text.Goals as goal

pub returns-in_err-place : goal.returns-in_err-place
returns-in_err-place c =
    let a = c.args in
    let same : c.from_residual.result ≡ Err c.in_err-place.field-0.0 = search (rules, c.from_residual.ensures) in
    subst (TurnsText a.s a.x) (sym same) (λ h l. text_refused a.s h l a.x _ c.in_err-place.ensures)

pub returns-in-More : goal.returns-in-More
unfolding longer
returns-in-More c =
    let a = c.args in
    let says = c.in_ok-place.ensures ∙ ap (λ l. said text_at tt (Ok l)) c.in-More.is in
    subst (λ t. TurnsText a.s a.x (Ok t)) (sym c.go_on.ensures) (λ h l. text_more a.s h l a.x _ says)

pub returns-in-Ended : goal.returns-in-Ended
returns-in-Ended c =
    let a = c.args in
    let says = c.in_ok-place.ensures ∙ ap (λ l. said text_at tt (Ok l)) c.in-Ended.is in
    subst (λ t. TurnsText a.s a.x (Ok t)) (sym (c.go_on-in-Ended.ensures ∙ ap (plain false) (c.arrive.ensures ∙ ap (λ n. arrived n a.s) c.saturating_sub.ensures))) (λ h l. text_ended a.s h l a.x says)
