-- `report_names::turn_name` meets its contract.
use mathlib.Core.Path.{◌≡◌, refl, sym, ap, ◌∙◌, subst}
use borrow.Author.Rules.{rules}
use Rattle.std.specs.Prelude.{Ok, Err, false}
use Rattle.report_leaves.specs.code.Leaves.{Names, NameTurns}
use Rattle.report_names.proofs.NameTurns.{name_ended, name_refused, name_skipped, name_kept, name_stands, kept_at}
use Rattle.report_kept.specs.code.View.{longer, plain}
use Rattle.report_names.specs.code.Names.{TurnsName}
use Rattle.report_names.proofs.turn_name.Goals as goal

pub returns-in_err-step_name : goal.returns-in_err-step_name
returns-in_err-step_name c =
    let a = c.args in
    let same : c.from_residual.result ≡ Err c.in_err-step_name.field-0.0 = search (rules, c.from_residual.ensures) in
    subst (TurnsName a.s a.x) (sym same) (λ h l calm. name_refused a.s h l calm a.x _ c.in_err-step_name.ensures.0)

pub returns-in-Ended : goal.returns-in-Ended
returns-in-Ended c =
    let a = c.args in
    let says = subst (λ r. Names a.s.length a.s.label a.x (Ok r)) c.in-Ended.is c.in_ok-step_name.ensures.0 in
    subst (λ t. TurnsName a.s a.x (Ok t)) (sym (c.go_on.ensures ∙ ap (plain false) c.leave_name.ensures)) (λ h l calm. name_ended a.s h l calm a.x says)

pub returns-then-s-eq59 : goal.returns-then-s-eq59
unfolding longer
returns-then-s-eq59 c =
    let a = c.args in
    let says = subst (λ r. NameTurns a.s.length a.s.label a.x (Ok r)) c.in-More.is c.in_ok-step_name.ensures in
    subst (λ t. TurnsName a.s a.x (Ok t)) (sym c.go_on-then-s-eq59.ensures) (λ h l calm. name_skipped a.s h l calm a.x _ says.0 c.if-s-eq59.true)

pub returns-else-s-eq59 : goal.returns-else-s-eq59
unfolding longer
returns-else-s-eq59 c =
    let a = c.args in
    let says = subst (λ r. NameTurns a.s.length a.s.label a.x (Ok r)) c.in-More.is c.in_ok-step_name.ensures in
    λ h l calm. kept_at a.s a.x _ _ (c.find_name.ensures.1 (name_stands a.s h l calm c.if-s-eq59.false)) (name_kept a.s h l calm a.x _ says.0 (says.1 _ refl) c.if-s-eq59.false)
