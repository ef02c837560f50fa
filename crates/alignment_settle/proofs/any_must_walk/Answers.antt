-- `alignment_settle::any_must_walk` meets its contract. The loop's invariant: of all identifiers one must be walked exactly where one of those from `walk` on must.
use mathlib.Core.Path.{◌≡◌, sym, ◌∙◌}
use Prim.Native.Nat.{◌+◌, ◌-◌, min}
use native.Mathlib.Omega.{arith}
use mathlib.Core.Bool.{◌||◌}
use Rattle.octets.specs.Octets.{any}
use Rattle.alignment.specs.Alignments.{must_walk}
use Rattle.alignment_stored.specs.code.Stored.{stored_identifiers}
use Rattle.alignment_stored.proofs.StoredLaws.{next_identifier}
use Rattle.alignment_settle.proofs.any_must_walk.Goals as goal
use Rattle.alignment_settle.proofs.any_must_walk.Goals.{After-must_walk}

-- all of them, after the next one
after : (v : After-must_walk) →
    let walk = v.loop-walk.walk in
    let a = v.args in
    any (must_walk a.s a.author.now) (stored_identifiers a.domains.now a.numbers.now 1 (min a.count 16))
    ≡ (v.must_walk.result || any (must_walk a.s a.author.now) (stored_identifiers a.domains.now a.numbers.now (walk + 1) (v.min-walk-end.result + 1 - walk - 1)))
unfolding any
after v =
    let walk = v.loop-walk.walk in
    let a = v.args in
    v.loop-walk.invariant
    ∙ rw (next_identifier a.domains.now a.numbers.now walk (v.min-walk-end.result + 1 - walk) (omega arith), v.must_walk.ensures)

pub loop-walk-init : goal.loop-walk-init
loop-walk-init c = let all : c.min-walk-end.result + 1 - 1 ≡ min c.args.count 16 = omega arith in rw all

pub returns-then-must_walk : goal.returns-then-must_walk
returns-then-must_walk c = sym (rw c.if-must_walk.true at (after (goal.at.returns-then-must_walk c).After-must_walk))

pub loop-walk-preserved : goal.loop-walk-preserved
loop-walk-preserved c =
    let walk = c.loop-walk.walk in
    let left : c.min-walk-end.result + 1 - (walk + 1) ≡ c.min-walk-end.result + 1 - walk - 1 = omega arith in
    rw left (rw c.if-must_walk.false at (after (goal.at.loop-walk-preserved c).After-must_walk))

pub returns : goal.returns
unfolding any stored_identifiers
returns c =
    let ended : c.min-walk-end.result + 1 - c.loop-walk.walk ≡ 0 = omega arith in
    sym (rw ended at c.loop-walk.invariant)
