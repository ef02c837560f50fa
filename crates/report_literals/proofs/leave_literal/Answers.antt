-- `report_literals::leave_literal` meets its contract.
use mathlib.Core.Path.{sym, ap, ◌∙◌, subst}
use Rattle.std.specs.Prelude.{Ok, true, false}
use Rattle.report_literals.proofs.LiteralLaws.{leaves_row, leaves_record, leaves_others, closed_signature, closed_sender, next_33}
use Rattle.report_kept.specs.code.View.{arrived, plain}
use Rattle.report_literals.specs.code.Literals.{LeavesLiteral}
use Rattle.report_literals.proofs.leave_literal.Goals as goal

pub returns-in-14 : goal.returns-in-14
returns-in-14 c = let a = c.args in subst (λ t. LeavesLiteral a.s (Ok t)) (sym (c.go_on.ensures ∙ ap (plain false) c.begin_address.ensures)) (λ h calm. leaves_row a.s h calm c.in-14.is)

pub returns-in-28 : goal.returns-in-28
returns-in-28 c = let a = c.args in subst (LeavesLiteral a.s) (sym c.close_identifier.ensures) (λ h calm. closed_signature a.s h calm c.in-28.is)

pub returns-in-31 : goal.returns-in-31
returns-in-31 c = let a = c.args in subst (LeavesLiteral a.s) (sym c.close_identifier-in-31.ensures) (λ h calm. closed_sender a.s h calm c.in-31.is)

pub returns-in-33 : goal.returns-in-33
returns-in-33 c =
    let a = c.args in
    let next = c.find_next-next.ensures ∙ next_33 a.s.node a.s.disposition a.s.dkim a.s.identifiers a.s.left c.in-33.is in
    subst (λ t. LeavesLiteral a.s (Ok t)) (sym (c.hand_out.ensures ∙ ap (plain true) (c.arrive.ensures ∙ ap (λ n. arrived n a.s) next))) (λ h calm. leaves_record a.s h calm c.in-33.is)

pub returns-in_default : goal.returns-in_default
returns-in_default c =
    let a = c.args in
    let others = c.in_default.in_default-own.rest in
    subst (λ t. LeavesLiteral a.s (Ok t)) (sym (c.go_on-in_default.ensures ∙ ap (plain false) (c.arrive-in_default.ensures ∙ (λ j. arrived (c.find_next-next.ensures j) (c.set_flags.ensures j)))))
    (λ h calm. leaves_others a.s h calm others.0.0.0.1 others.0.0.1 others.0.1 others.1)
