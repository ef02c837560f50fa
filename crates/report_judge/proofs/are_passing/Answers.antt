-- `report_judge::are_passing` meets its contract.
use Rattle.std.proofs.Common.{◌≡◌, ◌-◌, ◌+◌, not, ap, ◌∙◌, sym, arith}
use Rattle.report_judge.proofs.JudgeLaws.{rows_stop, rows_on, rows_end}
use Rattle.report_judge.proofs.are_passing.Goals as goal

pub returns-then-not-is_passing : goal.returns-then-not-is_passing
returns-then-not-is_passing c =
    rows_stop _ (c.args.count - c.loop.counter) c.loop.t.now (omega arith) c.is_passing.ensures (ap not c.if-not-is_passing.true) ∙ sym c.loop.invariant

pub loop-preserved : goal.loop-preserved
loop-preserved c =
    let next : c.args.count - c.loop.counter - 1 ≡ c.args.count - (c.loop.counter + 1) = omega arith in
    c.loop.invariant ∙ rows_on _ (c.args.count - c.loop.counter) c.loop.t.now (omega arith) c.is_passing.ensures (ap not c.if-not-is_passing.false) c.skip-t.ensures ∙ rw next

pub returns : goal.returns
returns c = rows_end _ (c.args.count - c.loop.counter) c.loop.t.now (omega arith) ∙ sym c.loop.invariant
