-- `verdict_advance::advance_identifier` meets its contract.
use Prim.Native.Nat.{◌≤◌}
use native.Mathlib.Omega.{arith}
use Rattle.walk_known.specs.code.Kept.{kept_answers}
use Rattle.verdict_cursor.specs.code.Standing.{given_count}
use Rattle.verdict_advance.proofs.AdvanceLaws.{moves_identifier, stays_early, stays_late}
use Rattle.verdict_advance.proofs.advance_identifier.Goals as goal
use Rattle.verdict_advance.proofs.advance_identifier.Goals.{then-walk-lt1-via-then-walk-lt1, then-walk-lt1-via-else-walk-lt1+then-min-walk}

pub returns-then-walk-lt1 : goal.returns-then-walk-lt1
unfolding given_count
returns-then-walk-lt1 c =
    let a = c.args in
    let β = kept_answers a.domains.now a.count a.kept.now in
    rw c.identifier.ensures
    (elim c.then-walk-lt1.branch [
      | then-walk-lt1-via-then-walk-lt1 w ↦ stays_early a.domains.now a.numbers.now a.t β a.stored.now a.r a.ruling a.walk a.stop w.if-walk-lt1.true
      | then-walk-lt1-via-else-walk-lt1+then-min-walk w ↦ stays_late a.domains.now a.numbers.now a.t β a.stored.now a.r a.ruling a.walk a.stop (omega (arith, w.min.ensures, w.if-min-walk.true))
    ])

pub returns : goal.returns
unfolding given_count
returns c =
    let a = c.args in
    let begun = c.if-walk-lt1.false in
    let there : a.walk ≤ given_count a.domains.now a.numbers.now a.t = omega (arith, c.min.ensures, c.if-min-walk.false) in
    moves_identifier a.domains.now a.numbers.now a.t (kept_answers a.domains.now a.count a.kept.now) a.stored.now a.r _ _ a.stop c.reach_after-w.result a.ruling a.walk (omega (arith, begun)) there
    (rw c.slot-d.ensures at c.reach_after-w.ensures)
    (c.compare_after.ensures.given (omega (arith, begun)) there)
