-- `report_picks::turn_word` meets its contract.
use mathlib.Core.Path.{◌≡◌, sym, subst}
use native.Mathlib.Omega.{arith}
use borrow.Author.Rules.{rules}
use mathlib.Core.Logic.{inl, inr}
use mathlib.Core.List.{[]}
use Prim.Native.Nat.{suc, ◌+◌, ◌-◌}
use lib.ListN.{get_or}
use Rattle.std.specs.Prelude.{Ok, Err}
use Rattle.report_words.specs.code.Table.{texts}
use Rattle.report_words.proofs.PieceSteps.{PieceSays}
use Rattle.report_choices.proofs.ChoiceLaws.{turns_no_word, turns_past, turns_ended, turns_on, turns_refused, first_small, count_small}
use Rattle.report_kept.specs.code.View.{on_word}
use Rattle.report_choices.specs.code.Choices.{TurnsWord, first_number}
use Rattle.report_picks.proofs.turn_word.Goals as goal

pub returns-then-count_words-which : goal.returns-then-count_words-which
returns-then-count_words-which c =
    let a = c.args in
    let is : a.s.which ≡ suc (a.s.which - 1) = omega (arith, c.if-which-eq0.false) in
    λ h l calm. elim c.then-count_words-which.either [
      | inl many ↦ turns_no_word a.s h l calm (a.s.which - 1) is a.x (omega (arith, c.count_words.ensures, many))
      | inr far ↦ turns_past a.s h l calm (a.s.which - 1) is a.x far.1
    ]

pub overflow_add-find_first : goal.overflow_add-find_first
overflow_add-find_first c = let a = c.args in search (rules, first_small a.s.node, count_small a.s.node, c.find_first.ensures, c.count_words.ensures, c.if-count_words-which.false)

pub returns-in_err-step_piece : goal.returns-in_err-step_piece
returns-in_err-step_piece c =
    let a = c.args in
    let same : c.from_residual.result ≡ Err c.in_err-step_piece.field-0.0 = search (rules, c.from_residual.ensures) in
    let says = subst (λ n. PieceSays (get_or texts (n + (a.s.which - 1)) []) a.s.at a.x (Err c.in_err-step_piece.field-0.0)) c.find_first.ensures c.in_err-step_piece.ensures in
    subst (TurnsWord a.s a.x) (sym same) (λ h l calm. turns_refused a.s h l calm (a.s.which - 1) (omega (arith, c.if-which-eq0.false)) (omega (arith, c.count_words.ensures, c.if-count_words-which.false)) a.x _ says)

pub returns-in-More : goal.returns-in-More
unfolding on_word
returns-in-More c =
    let a = c.args in
    let says = subst (λ n. PieceSays (get_or texts (n + (a.s.which - 1)) []) a.s.at a.x (Ok c.in_ok-step_piece.field-0)) c.find_first.ensures c.in_ok-step_piece.ensures in
    let more = subst (λ l. PieceSays (get_or texts (first_number a.s.node + (a.s.which - 1)) []) a.s.at a.x (Ok l)) c.in-More.is says in
    subst (λ t. TurnsWord a.s a.x (Ok t)) (sym c.go_on.ensures)
    (λ h l calm. turns_on a.s h l calm (a.s.which - 1) (omega (arith, c.if-which-eq0.false)) (omega (arith, c.count_words.ensures, c.if-count_words-which.false)) a.x more)

pub returns-in-Ended : goal.returns-in-Ended
returns-in-Ended c =
    let a = c.args in
    let says = subst (λ n. PieceSays (get_or texts (n + (a.s.which - 1)) []) a.s.at a.x (Ok c.in_ok-step_piece.field-0)) c.find_first.ensures c.in_ok-step_piece.ensures in
    let ended = subst (λ l. PieceSays (get_or texts (first_number a.s.node + (a.s.which - 1)) []) a.s.at a.x (Ok l)) c.in-Ended.is says in
    λ h l calm. turns_ended a.s h l calm (a.s.which - 1) (omega (arith, c.if-which-eq0.false)) (omega (arith, c.count_words.ensures, c.if-count_words-which.false)) a.x _ ended (c.leave_word.ensures h l calm)
