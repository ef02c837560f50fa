-- `txt_take::copy_strings` meets its contract. The loop's invariant: what was read stands in front, and the others are to come.
use native.Mathlib.Omega.{arith}
use Rattle.txt.specs.Answers.{joined}
use Rattle.txt_read.proofs.CopyLaws.{none_yet, all_copied, next_within, one_more}
use Rattle.txt_take.proofs.copy_strings.Goals as goal

pub loop-rest-init : goal.loop-rest-init
loop-rest-init c = none_yet (joined 0 c.args.strings.now) c.args.out.now c.requires

pub slice_bounds-write-end : goal.slice_bounds-write-end
slice_bounds-write-end c =
    let a = c.args in
    let m = c.loop-rest in
    let k = c.from-k in
    omega (arith, next_within (joined 0 a.strings.now) m.rest.now a.out.now m.out m.at m.invariant k.result k.ensures (omega arith))

pub slice_bounds-write-count-in-len1-up : goal.slice_bounds-write-count-in-len1-up
slice_bounds-write-count-in-len1-up c = c.loop-rest.invariant.within

pub slice_bounds-write-start-in-len1-up : goal.slice_bounds-write-start-in-len1-up
slice_bounds-write-start-in-len1-up c = omega (arith, c.loop-rest.invariant.within)

pub overflow_add-at : goal.overflow_add-at
overflow_add-at c =
    let a = c.args in
    let m = c.loop-rest in
    let k = c.from-k in
    let w = c.write in
    let o = one_more (joined 0 a.strings.now) m.rest.now a.out.now m.out m.at m.invariant k.result k.ensures (omega arith) w.result w.new.out w.ensures in
    omega (arith, o.within, o.long)

pub slice_bounds-rest-count : goal.slice_bounds-rest-count
slice_bounds-rest-count c =
    let a = c.args in
    let m = c.loop-rest in
    let k = c.from-k in
    next_within (joined 0 a.strings.now) m.rest.now a.out.now m.out m.at m.invariant k.result k.ensures (omega arith)

pub slice_bounds-rest-start : goal.slice_bounds-rest-start
slice_bounds-rest-start c =
    let a = c.args in
    let m = c.loop-rest in
    let k = c.from-k in
    omega (arith, next_within (joined 0 a.strings.now) m.rest.now a.out.now m.out m.at m.invariant k.result k.ensures (omega arith))

pub loop-rest-smaller : goal.loop-rest-smaller
loop-rest-smaller c =
    let a = c.args in
    let m = c.loop-rest in
    let k = c.from-k in
    omega (arith, next_within (joined 0 a.strings.now) m.rest.now a.out.now m.out m.at m.invariant k.result k.ensures (omega arith))

pub loop-rest-preserved : goal.loop-rest-preserved
loop-rest-preserved c =
    let a = c.args in
    let m = c.loop-rest in
    let k = c.from-k in
    let w = c.write in
    one_more (joined 0 a.strings.now) m.rest.now a.out.now m.out m.at m.invariant k.result k.ensures (omega arith) w.result w.new.out w.ensures

pub returns : goal.returns
returns c =
    let a = c.args in
    let m = c.loop-rest in
    all_copied (joined 0 a.strings.now) m.rest.now a.out.now m.out m.at m.invariant (omega arith)
