-- `address_asked::find_asked` meets its contract.
use mathlib.Core.List.{List}
use Prim.Native.Nat.{ℕ}
use Rattle.alignment_stored.specs.code.Stored.{slot}
use Rattle.address.specs.Checks.{Pair}
use Rattle.address_check.specs.code.Pairs.{both}
use Rattle.address_point.specs.code.Ahead.{ahead_standing, ahead_walks}
use Rattle.address_asked.proofs.AskedLaws.{waits_dead, waits_outcome, waits_other, waits_confirming, waits_walk}
use Rattle.address_asked.proofs.find_asked.Goals as goal

-- the two domains
pair : (domains numbers : List ℕ) → Pair
pair domains numbers = both (slot domains numbers 0) (slot domains numbers 1)

pub returns-then-not-live : goal.returns-then-not-live
unfolding pair
returns-then-not-live c = waits_dead (pair c.args.domains.now c.args.numbers.now) c.args.p c.args.live c.args.name.now (c.if-not-live.true)

pub returns-then-not-is_marked : goal.returns-then-not-is_marked
unfolding ahead_standing ahead_walks pair
returns-then-not-is_marked c =
    let ahead = rw c.in-Name.is at (c.look.ensures (pair c.args.domains.now c.args.numbers.now)) in
    waits_other (pair c.args.domains.now c.args.numbers.now) c.args.p c.args.live c.args.name.now _ _ ahead.0 ahead.1
    (rw (c.slot-policy.ensures, c.slot-host.ensures) at c.is_marked.ensures) (c.if-not-is_marked.true)

pub returns-then-walk-gt1 : goal.returns-then-walk-gt1
unfolding ahead_standing ahead_walks pair
returns-then-walk-gt1 c =
    let ahead = rw c.in-Name.is at (c.look.ensures (pair c.args.domains.now c.args.numbers.now)) in
    waits_confirming (pair c.args.domains.now c.args.numbers.now) c.args.p c.args.live c.args.name.now _ _ ahead.0 ahead.1
    (rw (c.slot-policy.ensures, c.slot-host.ensures) at c.is_marked.ensures)
    (c.if-not-live.false) (c.if-not-is_marked.false) c.if-walk-gt1.true

pub returns-in-Outcome : goal.returns-in-Outcome
unfolding ahead_standing pair
returns-in-Outcome c =
    waits_outcome (pair c.args.domains.now c.args.numbers.now) c.args.p c.args.live c.args.name.now _ (rw c.in-Outcome.is at (c.look.ensures (pair c.args.domains.now c.args.numbers.now)).0)

pub returns-else-walk-gt1 : goal.returns-else-walk-gt1
unfolding ahead_standing ahead_walks pair
returns-else-walk-gt1 c =
    let ahead = rw c.in-Name.is at (c.look.ensures (pair c.args.domains.now c.args.numbers.now)) in
    waits_walk (pair c.args.domains.now c.args.numbers.now) c.args.p c.args.live c.args.name.now _ _ ahead.0 ahead.1
    (rw (c.slot-policy.ensures, c.slot-host.ensures) at c.is_marked.ensures)
    (c.if-not-live.false) (c.if-not-is_marked.false) c.if-walk-gt1.false
