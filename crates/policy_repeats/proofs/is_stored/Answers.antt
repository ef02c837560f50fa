-- `policy_repeats::is_stored` meets its contract: names of other keys are other names.
use mathlib.Core.Path.{◌≡◌, refl, ap, ap₂, sym, ◌∙◌}
use Prim.Native.Nat.{suc, ◌-◌}
use native.Mathlib.Omega.{arith}
use lib.ListN.{get_or}
use Rattle.octets.specs.Octets.{same, same_text}
use Rattle.policy_repeats.specs.code.Storing.{name_at, key_of}
use Rattle.policy_repeats.proofs.StoreLaws.{is_last, is_other, has_other_key, none_stored_left}
use Rattle.policy_repeats.proofs.is_stored.Goals as goal
use Rattle.policy_repeats.proofs.is_stored.Goals.{else-keys-last-via-then-keys-last+else-same_text, else-keys-last-via-else-keys-last}

pub loop-left-init : goal.loop-left-init
loop-left-init c = (omega arith, refl)

pub overflow_sub-last : goal.overflow_sub-last
overflow_sub-last c = omega arith

pub offset_bounds-keys-last : goal.offset_bounds-keys-last
offset_bounds-keys-last c = omega (arith, c.requires.few)

pub bounds-keys-last : goal.bounds-keys-last
bounds-keys-last c = omega (arith, c.requires.few)

pub offset_bounds-places-last : goal.offset_bounds-places-last
offset_bounds-places-last c = omega (arith, c.requires.few)

pub bounds-places-last : goal.bounds-places-last
bounds-places-last c = omega (arith, c.requires.few)

pub returns-then-same_text : goal.returns-then-same_text
unfolding same_text
returns-then-same_text c =
    let a = c.args in
    let s = a.text.now in
    let places = a.places.now in
    let name = name_at s a.at in
    let left = c.loop-left.left in
    let last = left - 1 in
    let one : left ≡ suc last = omega (arith, c.loop-left-test.true) in
    let texts : same (name_at s (get_or places last 0)) name ≡ c.same_text.result = ap₂ same (sym c.name_at.ensures) (sym c.name_at-name.ensures) ∙ sym c.same_text.ensures in
    sym (c.loop-left.invariant.1 ∙ is_last s places name left last one (texts ∙ c.if-same_text.true))

pub loop-left-preserved : goal.loop-left-preserved
unfolding same_text
loop-left-preserved c =
    let a = c.args in
    let s = a.text.now in
    let places = a.places.now in
    let name = name_at s a.at in
    let left = c.loop-left.left in
    let last = left - 1 in
    let one : left ≡ suc last = omega (arith, c.loop-left-test.true) in
    let key : c.key_of-key.result ≡ key_of name = c.key_of-key.ensures ∙ ap key_of c.name_at-name.ensures in
    elim c.else-keys-last.branch [
      | else-keys-last-via-then-keys-last+else-same_text w ↦
          let texts : same (name_at s (get_or places last 0)) name ≡ w.same_text.result = ap₂ same (sym w.name_at.ensures) (sym c.name_at-name.ensures) ∙ sym w.same_text.ensures in
          (omega arith, c.loop-left.invariant.1 ∙ is_other s places name left last one (texts ∙ w.if-same_text.false))
      | else-keys-last-via-else-keys-last w ↦
          (omega arith, c.loop-left.invariant.1 ∙ has_other_key s places name left last one a.keys.now a.count _ c.requires.keyed (omega (arith, c.loop-left.invariant.0)) key w.if-keys-last.false)
    ]

pub returns : goal.returns
returns c =
    let a = c.args in
    sym (c.loop-left.invariant.1 ∙ none_stored_left a.text.now a.places.now (name_at a.text.now a.at) c.loop-left.left c.loop-left-test.false)
