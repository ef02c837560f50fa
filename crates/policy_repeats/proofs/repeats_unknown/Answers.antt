-- `policy_repeats::repeats_unknown` meets its contract: whether a name repeats is what the names stored and those left say together.
use mathlib.Core.Path.{◌≡◌, sym, ◌∙◌}
use Prim.Native.Nat.{◌+◌}
use native.Mathlib.Omega.{arith}
use Rattle.policy_repeats.specs.code.Storing.{names_left}
use Rattle.policy_repeats.proofs.UnknownLaws.{goes_on}
use Rattle.policy_repeats.proofs.StoreLaws.{begins, stores, forgets, again, found, ended}
use Rattle.policy_repeats.proofs.repeats_unknown.Goals as goal

pub loop-at-init : goal.loop-at-init
loop-at-init c = (omega arith, begins c.next_unknown-at.ensures)

pub is_stored-requires : goal.is_stored-requires
is_stored-requires c =
    record { few = omega (arith, c.loop-at.invariant.0); keyed = c.loop-at.invariant.1.keyed }

pub returns-then-is_stored : goal.returns-then-is_stored
unfolding names_left
returns-then-is_stored c =
    sym (found c.loop-at.invariant.1 c.loop-at-test.true (sym c.is_stored.ensures ∙ c.if-is_stored.true))

pub offset_bounds-keys-count : goal.offset_bounds-keys-count
offset_bounds-keys-count c = omega (arith, c.loop-at.invariant.0)

pub bounds-keys-count : goal.bounds-keys-count
bounds-keys-count c = omega (arith, c.loop-at.invariant.0)

pub offset_bounds-places-count : goal.offset_bounds-places-count
offset_bounds-places-count c = omega (arith, c.loop-at.invariant.0)

pub bounds-places-count : goal.bounds-places-count
bounds-places-count c = omega (arith, c.loop-at.invariant.0)

pub overflow_add-count : goal.overflow_add-count
overflow_add-count c = omega (arith, c.loop-at.invariant.0)

pub part_after-requires : goal.part_after-requires
part_after-requires c = c.loop-at-test.true

pub comes_again-requires : goal.comes_again-requires
comes_again-requires c =
    let after =
    stores c.loop-at.invariant.1 c.loop-at.invariant.0 c.loop-at-test.true c.is_stored.ensures c.if-is_stored.false
    c.name_at.ensures c.key_of.ensures c.part_after.ensures c.next_unknown-at-in-loop-at.ensures in
    let full : c.loop-at.count + 1 ≡ 1024 = omega (arith, c.loop-at.invariant.0, c.if-count-ge-ROOM.true) in
    rw full at after.keyed

pub returns-then-comes_again : goal.returns-then-comes_again
unfolding names_left
returns-then-comes_again c =
    let after =
    stores c.loop-at.invariant.1 c.loop-at.invariant.0 c.loop-at-test.true c.is_stored.ensures c.if-is_stored.false
    c.name_at.ensures c.key_of.ensures c.part_after.ensures c.next_unknown-at-in-loop-at.ensures in
    let full : c.loop-at.count + 1 ≡ 1024 = omega (arith, c.loop-at.invariant.0, c.if-count-ge-ROOM.true) in
    sym (again (rw full at after) (sym c.comes_again.ensures ∙ c.if-comes_again.true))

pub loop-at-smaller-then-count-ge-ROOM : goal.loop-at-smaller-then-count-ge-ROOM
loop-at-smaller-then-count-ge-ROOM c =
    goes_on c.args.text.now c.loop-at.at c.loop-at-test.true
    c.part_after.result c.part_after.ensures c.next_unknown-at-in-loop-at.result c.next_unknown-at-in-loop-at.ensures.onward

pub loop-at-preserved-then-count-ge-ROOM : goal.loop-at-preserved-then-count-ge-ROOM
loop-at-preserved-then-count-ge-ROOM c =
    let after =
    stores c.loop-at.invariant.1 c.loop-at.invariant.0 c.loop-at-test.true c.is_stored.ensures c.if-is_stored.false
    c.name_at.ensures c.key_of.ensures c.part_after.ensures c.next_unknown-at-in-loop-at.ensures in
    let full : c.loop-at.count + 1 ≡ 1024 = omega (arith, c.loop-at.invariant.0, c.if-count-ge-ROOM.true) in
    (omega arith, forgets (rw full at after) (sym c.comes_again.ensures ∙ c.if-comes_again.false))

pub loop-at-smaller : goal.loop-at-smaller
loop-at-smaller c =
    goes_on c.args.text.now c.loop-at.at c.loop-at-test.true
    c.part_after.result c.part_after.ensures c.next_unknown-at-in-loop-at.result c.next_unknown-at-in-loop-at.ensures.onward

pub loop-at-preserved : goal.loop-at-preserved
loop-at-preserved c =
    let after =
    stores c.loop-at.invariant.1 c.loop-at.invariant.0 c.loop-at-test.true c.is_stored.ensures c.if-is_stored.false
    c.name_at.ensures c.key_of.ensures c.part_after.ensures c.next_unknown-at-in-loop-at.ensures in
    (omega (arith, c.if-count-ge-ROOM.false), after)

pub returns : goal.returns
unfolding names_left
returns c = sym (ended c.loop-at.invariant.1 c.loop-at-test.false)
