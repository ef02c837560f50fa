-- `verdict_tally::tally` meets its contract. The loop's invariant: the tally is that of the identifiers past `walk`.
use mathlib.Core.Path.{◌≡◌}
use Prim.Native.Nat.{◌+◌, ◌-◌}
use native.Mathlib.Omega.{arith}
use Rattle.alignment_settle.specs.code.Tallies.{no_tally, tally_of}
use Rattle.verdict_cursor.specs.code.Standing.{passed_from, given_count}
use Rattle.verdict_tally.proofs.TallyLaws.{tally_step, tally_room}
use Rattle.verdict_tally.proofs.tally.Goals as goal

pub loop-walk-init : goal.loop-walk-init
unfolding tally_of no_tally passed_from
loop-walk-init c =
    let none : c.min-walk.result - c.min-walk.result ≡ 0 = omega arith in
    (omega arith, (omega (arith, c.min-walk.ensures), rw none))

pub tally_with-all-requires : goal.tally_with-all-requires
tally_with-all-requires c =
    let g = c.args in
    rw c.loop-walk.invariant.1.1 (tally_room g.s g.domains.now g.numbers.now g.stored.now c.min-walk.result c.loop-walk.walk c.loop-walk.invariant.1.0)

pub loop-walk-preserved : goal.loop-walk-preserved
loop-walk-preserved c =
    let g = c.args in
    let more = tally_step g.s g.domains.now g.numbers.now g.stored.now c.min-walk.result c.loop-walk.walk c.loop-walk-test.true c.loop-walk.invariant.0 in
    (omega arith, (c.loop-walk.invariant.1.0, rw (c.tally_with-all.ensures, c.outcome_at.ensures, c.align_at-a.ensures, c.loop-walk.invariant.1.1) more))

pub returns : goal.returns
unfolding given_count
returns c =
    let g = c.args in
    let first : c.loop-walk.walk + 1 ≡ 1 = omega arith in
    let all : c.min-walk.result - c.loop-walk.walk ≡ c.min-walk.result = omega arith in
    rw (← c.min-walk.ensures) (rw (first, all) at c.loop-walk.invariant.1.1)
