-- `report_turns::turn_id` meets its contract.
use mathlib.Core.Path.{◌≡◌, sym, ap, ◌∙◌, subst}
use borrow.Author.Rules.{rules}
use Rattle.std.specs.Prelude.{Ok, Err, false}
use Rattle.report_states.specs.Standing.{id_left}
use Rattle.report_leaves.specs.code.Leaves.{said}
use Rattle.report_turns.proofs.ValueTurns.{id_more, id_ended, id_refused}
use Rattle.report_kept.specs.code.View.{longer, plain}
use Rattle.report_turns.specs.code.Values.{TurnsId}
use Rattle.report_turns.proofs.turn_id.Goals as goal

pub returns-in_err-length : goal.returns-in_err-length
returns-in_err-length c =
    let a = c.args in
    let same : c.from_residual.result ≡ Err c.in_err-length.field-0.0 = search (rules, c.from_residual.ensures) in
    subst (TurnsId a.s a.x) (sym same) (λ h. id_refused a.s h a.x _ c.in_err-length.ensures)

pub returns-in-More : goal.returns-in-More
unfolding longer
returns-in-More c =
    let a = c.args in
    let says = c.in_ok-length.ensures ∙ ap (λ l. said id_left tt (Ok l)) c.in-More.is in
    subst (λ t. TurnsId a.s a.x (Ok t)) (sym c.go_on.ensures) (λ h. id_more a.s h a.x _ says)

pub returns-in-Ended : goal.returns-in-Ended
returns-in-Ended c =
    let a = c.args in
    let says = c.in_ok-length.ensures ∙ ap (λ l. said id_left tt (Ok l)) c.in-Ended.is in
    subst (λ t. TurnsId a.s a.x (Ok t)) (sym (c.go_on-in-Ended.ensures ∙ ap (plain false) c.arrive.ensures)) (λ h. id_ended a.s h a.x says)
