-- `report_runs::find_open` meets its contract.
use mathlib.Core.Path.{sym, ap, ◌∙◌}
use Prim.Native.Nat.{◌+◌, ◌-◌}
use native.Mathlib.Omega.{arith}
use borrow.Author.Rules.{rules}
use Rattle.report_choices.proofs.ChoiceLaws.{first_small, count_small}
use Rattle.report_runs.specs.code.Runs.{OpenPiece}
use Rattle.report_runs.proofs.RunLaws.{literal_open, word_open}
use Rattle.report_runs.proofs.find_open.Goals as goal

pub returns-then-cannot_be : goal.returns-then-cannot_be
unfolding OpenPiece
returns-then-cannot_be c = tt

pub returns-then-node-lt36 : goal.returns-then-node-lt36
returns-then-node-lt36 c = let a = c.args in literal_open a.s c.if-node-lt36.true (sym c.cannot_be.ensures ∙ c.if-cannot_be.false)

pub overflow_add-result : goal.overflow_add-result
overflow_add-result c =
    let a = c.args in
    search (rules, first_small a.s.node, count_small a.s.node, c.find_first.ensures, c.count_words.ensures, c.if-which-count_words.true)

pub returns-then-which-count_words : goal.returns-then-which-count_words
returns-then-which-count_words c =
    let a = c.args in
    word_open a.s _ (omega (arith, c.if-node-lt36.false)) c.if-node-lt52.true (sym c.cannot_be.ensures ∙ c.if-cannot_be.false) c.if-which-ne0.true
    (omega (arith, c.count_words.ensures, c.if-which-count_words.true)) (ap (λ n. n + (a.s.which - 1)) c.find_first.ensures)

pub returns-else-node-lt52 : goal.returns-else-node-lt52
unfolding OpenPiece
returns-else-node-lt52 c = tt
