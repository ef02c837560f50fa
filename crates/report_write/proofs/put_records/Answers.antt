-- `report_write::put_records` meets its contract.
use Rattle.std.proofs.Common.{◌≡◌, ◌-◌, ◌+◌, arith}
use Rattle.report_write.proofs.WritingLaws.{next_row, last_row, next_brief, last_brief, all_short}
use Rattle.report_texts.proofs.Going.{goes_begins}
use Rattle.report_write.proofs.put_records.Goals as goal

pub loop-init : goal.loop-init
loop-init c =
    let all : c.args.count - 0 ≡ c.args.count = omega arith in
    record { going = rw all (goes_begins _ c.args.out.now c.args.at); brief = rw all (λ a. a) }

pub loop-preserved : goal.loop-preserved
loop-preserved c =
    let m = c.loop in
    let more = c.args.count - m.counter in
    let next : more - 1 ≡ c.args.count - (m.counter + 1) = omega arith in
    record {
      going = rw (← next) (next_row _ more m.t.now _ (omega arith) c.skip-t.ensures m.invariant.going c.put_counted-end.ensures.0);
      brief = rw (← next) (next_brief more m.t.now _ (omega arith) c.skip-t.ensures c.put_counted-end.ensures.2 m.invariant.brief);
    }

pub shape_of-out : goal.shape_of-out
shape_of-out c = c.loop.invariant.going.kept

pub returns : goal.returns
returns c =
    let m = c.loop in
    let more = c.args.count - m.counter in
    let brief = last_brief more m.t.now (omega arith) m.invariant.brief in (
      last_row _ more m.t.now (omega arith) m.invariant.going,
      all_short _ brief,
      brief,
    )
