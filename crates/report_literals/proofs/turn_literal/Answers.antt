-- `report_literals::turn_literal` meets its contract.
use mathlib.Core.Path.{◌≡◌, sym, ap, subst, ◌∙◌}
use mathlib.Core.List.{[]}
use Prim.Native.Nat.{◌+◌}
use lib.ListN.{get_or}
use borrow.Author.Rules.{rules}
use Rattle.std.specs.Prelude.{Ok, Err}
use Rattle.parsing_steps.specs.Stepping.{behind}
use Rattle.report_leaves.specs.code.Leaves.{said}
use Rattle.report_words.specs.code.Table.{texts}
use Rattle.report_literals.proofs.LiteralLaws.{turns_past, turns_ended, turns_on, turns_refused}
use Rattle.report_kept.specs.code.View.{further}
use Rattle.report_literals.specs.code.Literals.{TurnsLiteral}
use Rattle.report_literals.proofs.turn_literal.Goals as goal

pub returns-then-at-ge116 : goal.returns-then-at-ge116
returns-then-at-ge116 c = let a = c.args in λ h calm. turns_past a.s h calm a.x c.if-at-ge116.true

pub returns-in_err-step_piece : goal.returns-in_err-step_piece
returns-in_err-step_piece c =
    let a = c.args in
    let same : c.from_residual.result ≡ Err c.in_err-step_piece.field-0.0 = search (rules, c.from_residual.ensures) in
    subst (TurnsLiteral a.s a.x) (sym same) (λ h calm. turns_refused a.s h calm a.x _ c.in_err-step_piece.ensures)

pub returns-in-More : goal.returns-in-More
unfolding further
returns-in-More c =
    let a = c.args in
    let says = c.in_ok-step_piece.ensures ∙ ap (λ l. said (λ _. behind (a.s.at + 1) (get_or texts a.s.node [])) tt (Ok l)) c.in-More.is in
    subst (λ t. TurnsLiteral a.s a.x (Ok t)) (sym c.go_on.ensures) (λ h calm. turns_on a.s h calm a.x says)

pub returns-in-Ended : goal.returns-in-Ended
returns-in-Ended c =
    let a = c.args in
    let says = c.in_ok-step_piece.ensures ∙ ap (λ l. said (λ _. behind (a.s.at + 1) (get_or texts a.s.node [])) tt (Ok l)) c.in-Ended.is in
    λ h calm. turns_ended a.s h calm a.x _ says (c.leave_literal.ensures h calm)
