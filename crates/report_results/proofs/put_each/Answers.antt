-- `report_results::put_each` meets its contract.
use Rattle.std.proofs.Common.{◌<◌, ◌≤◌, length, arith}
use Rattle.std.proofs.lemmas.Grind.{common_steps}
use Rattle.report_results.proofs.ResultLaws.{next_of, none_of}
use Rattle.report_texts.proofs.Going.{goes_begins}
use Rattle.rows_named.proofs.NamingLaws.{drops_some}
use Rattle.report_results.proofs.put_each.Goals as goal

pub loop-t-init : goal.loop-t-init
loop-t-init c = goes_begins _ c.args.out.now c.args.at

pub loop-t-smaller : goal.loop-t-smaller
loop-t-smaller c =
    let some : 0 < length c.loop-t.t.now = grind (arith, common_steps) in
    rw c.after_record-t.ensures (drops_some c.loop-t.t.now some)

pub loop-t-preserved : goal.loop-t-preserved
loop-t-preserved c =
    let some : 0 < length c.loop-t.t.now = grind (arith, common_steps) in
    next_of c.args.dkim c.loop-t.t.now _ _ some c.front_body.ensures c.after_record-t.ensures c.loop-t.invariant
    c.put_of_kind-end.ensures

pub shape_of-out : goal.shape_of-out
shape_of-out c = c.loop-t.invariant.kept

pub returns : goal.returns
returns c =
    let none : length c.loop-t.t.now ≤ 0 = grind (arith, common_steps) in
    none_of c.args.dkim c.loop-t.t.now none c.loop-t.invariant
