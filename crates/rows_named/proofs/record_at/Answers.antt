-- `rows_named::record_at` meets its contract.
use Rattle.std.proofs.Common.{◌≡◌, ◌-◌, ◌+◌, length, sym, ◌∙◌, arith}
use Rattle.std.proofs.lemmas.Grind.{common_steps}
use Rattle.rows_named.proofs.NamingLaws.{run_out, one_record, no_record}
use Rattle.rows_named.proofs.record_at.Goals as goal

pub returns-then-is_empty : goal.returns-then-is_empty
returns-then-is_empty c =
    let m = c.loop in
    let none : length m.t.now ≡ 0 = grind (arith, common_steps) in
    sym (m.invariant ∙ run_out _ m.t.now none)

pub loop-preserved : goal.loop-preserved
loop-preserved c =
    let m = c.loop in
    let next : c.args.n - m.counter - 1 ≡ c.args.n - (m.counter + 1) = omega arith in
    m.invariant ∙ one_record (c.args.n - m.counter) m.t.now (omega arith) ∙ rw (next, c.after_record-t.ensures)

pub returns : goal.returns
returns c =
    let m = c.loop in
    sym (m.invariant ∙ no_record (c.args.n - m.counter) m.t.now (omega arith))
