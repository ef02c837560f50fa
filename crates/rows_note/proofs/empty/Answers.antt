-- `rows_note::empty` meets its contract.
use Rattle.std.proofs.Common.{◌≡◌, ◌<◌, arith, sym, length}
use Rattle.rows_note.proofs.FindLaws.{no_row}
use Rattle.rows_note.proofs.EmptyLaws.{emptied_none, emptied_step, emptied_all}
use Rattle.rows_note.proofs.empty.Goals as goal

pub loop-i-init : goal.loop-i-init
loop-i-init c = sym (emptied_none c.args.rows.now)

pub loop-i-preserved : goal.loop-i-preserved
loop-i-preserved c =
    let inside : c.loop-i.i < length c.args.rows.now = omega arith in
    let step = emptied_step c.loop-i.i c.args.rows.now no_row inside in cc

pub returns : goal.returns
returns c =
    let all : c.loop-i.i ≡ c.listed-i-end.result = omega arith in
    let whole = emptied_all c.args.rows.now in cc
