-- `policy_repeats::comes_again` meets its contract: whether any name is stored is whether any is that is left.
use mathlib.Core.Path.{ap, sym, ◌∙◌}
use native.Mathlib.Omega.{arith}
use Rattle.octets.specs.Octets.{any}
use Rattle.policy_repeats.specs.code.Storing.{names_left, Keyed, is_stored}
use Rattle.policy_repeats.proofs.UnknownLaws.{goes_on, none_left}
use Rattle.policy_repeats.proofs.StoreLaws.{any_here, any_next, any_end}
use Rattle.policy_repeats.proofs.comes_again.Goals as goal

pub loop-at-init : goal.loop-at-init
loop-at-init c =
    let a = c.args in
    (c.next_unknown-at.ensures.first, ap (any (is_stored a.text.now a.places.now 1024)) c.next_unknown-at.ensures.left)

pub is_stored-requires : goal.is_stored-requires
unfolding Keyed
is_stored-requires c = record { few = omega arith; keyed = λ i h. c.requires i (omega arith) }

pub returns-then-is_stored : goal.returns-then-is_stored
returns-then-is_stored c =
    let a = c.args in
    let first = c.loop-at.invariant.0 c.loop-at-test.true in
    sym (c.loop-at.invariant.1 ∙ any_here (is_stored a.text.now a.places.now 1024) first (sym c.is_stored.ensures ∙ c.if-is_stored.true))

pub part_after-requires : goal.part_after-requires
part_after-requires c = c.loop-at-test.true

pub loop-at-smaller : goal.loop-at-smaller
loop-at-smaller c =
    goes_on c.args.text.now c.loop-at.at c.loop-at-test.true
    c.part_after.result c.part_after.ensures c.next_unknown-at-in-loop-at.result c.next_unknown-at-in-loop-at.ensures.onward

pub loop-at-preserved : goal.loop-at-preserved
loop-at-preserved c =
    let a = c.args in
    let s = a.text.now in
    let first = c.loop-at.invariant.0 c.loop-at-test.true in
    let other = sym c.is_stored.ensures ∙ c.if-is_stored.false in
    let left = ap (names_left s) (sym c.part_after.ensures) ∙ c.next_unknown-at-in-loop-at.ensures.left in
    (c.next_unknown-at-in-loop-at.ensures.first, c.loop-at.invariant.1 ∙ any_next (is_stored s a.places.now 1024) first other left)

pub returns : goal.returns
returns c =
    let a = c.args in
    sym (c.loop-at.invariant.1 ∙ any_end (is_stored a.text.now a.places.now 1024) (none_left a.text.now c.loop-at.at c.loop-at-test.false))
