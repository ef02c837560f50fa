-- `report_words::pick_word` meets its contract.
use mathlib.Core.Path.{refl, sym, ◌∙◌}
use native.Mathlib.Omega.{arith}
use Rattle.report_words.proofs.PieceSteps.{picked, not_picked, none_picked}
use Rattle.report_words.proofs.pick_word.Goals as goal

pub returns-then-piece_begins : goal.returns-then-piece_begins
returns-then-piece_begins c =
    let a = c.args in
    let l = c.loop-k in
    picked a.first a.count a.x l.k c.ranges.first.fits (omega (arith, c.loop-k-test.true, c.min-k-end.ensures)) (omega (arith, c.loop-k-test.true, c.min-k-end.ensures))
    _ _ refl c.piece_begins.ensures c.if-piece_begins.true
    ∙ sym l.invariant

pub loop-k-preserved : goal.loop-k-preserved
loop-k-preserved c =
    let a = c.args in
    let l = c.loop-k in
    l.invariant
    ∙ not_picked a.first a.count a.x l.k c.ranges.first.fits (omega (arith, c.loop-k-test.true, c.min-k-end.ensures)) (omega (arith, c.loop-k-test.true, c.min-k-end.ensures))
    _ _ refl c.piece_begins.ensures c.if-piece_begins.false

pub returns : goal.returns
returns c =
    let a = c.args in
    let l = c.loop-k in
    none_picked a.first a.count a.x l.k (omega (arith, c.loop-k-test.false, c.min-k-end.ensures)) ∙ sym l.invariant
