-- `policy_repeats::next_unknown` meets its contract: the names of the whole are those of what is left.
use mathlib.Core.Bool.{not, true, false}
use mathlib.Core.Path.{◌≡◌, refl, ap, sym, ◌∙◌}
use native.Mathlib.Omega.{arith}
use lib.Dec.{eqb}
use lib.ListN.{drop}
use Rattle.octets.specs.Octets.{front, trim}
use Rattle.policy_repeats.specs.code.Storing.{is_unknown}
use Rattle.policy_tags.proofs.TagLaws.{part_fits}
use Rattle.policy_repeats.proofs.UnknownLaws.{passed, met}
use Rattle.policy_repeats.proofs.next_unknown.Goals as goal

pub loop-at-init : goal.loop-at-init
loop-at-init c = (omega arith, refl)

pub returns-then-is_unknown : goal.returns-then-is_unknown
returns-then-is_unknown c =
    let s = c.args.text.now in
    let at = c.loop-at.at in
    let part : c.front-part.result.now ≡ front (λ x. not (eqb x 59)) (drop at s) = c.front-part.ensures ∙ ap (front (λ x. not (eqb x 59))) c.skip.ensures in
    let found : is_unknown (trim c.front-part.result.now) ≡ true = ap is_unknown (sym c.trim.ensures) ∙ sym c.is_unknown.ensures ∙ c.if-is_unknown.true in
    record { onward = c.loop-at.invariant.0; left = c.loop-at.invariant.1; first = λ h. met s at _ part found }

pub overflow_add-at : goal.overflow_add-at
overflow_add-at c =
    let s = c.args.text.now in
    let at = c.loop-at.at in
    let part : c.front-part.result.now ≡ front (λ x. not (eqb x 59)) (drop at s) = c.front-part.ensures ∙ ap (front (λ x. not (eqb x 59))) c.skip.ensures in
    omega (arith, part_fits s at c.loop-at-test.true _ part)

pub overflow_add-at-in-loop-at : goal.overflow_add-at-in-loop-at
overflow_add-at-in-loop-at c =
    let s = c.args.text.now in
    let at = c.loop-at.at in
    let part : c.front-part.result.now ≡ front (λ x. not (eqb x 59)) (drop at s) = c.front-part.ensures ∙ ap (front (λ x. not (eqb x 59))) c.skip.ensures in
    omega (arith, part_fits s at c.loop-at-test.true _ part)

pub loop-at-smaller : goal.loop-at-smaller
loop-at-smaller c =
    let s = c.args.text.now in
    let at = c.loop-at.at in
    let part : c.front-part.result.now ≡ front (λ x. not (eqb x 59)) (drop at s) = c.front-part.ensures ∙ ap (front (λ x. not (eqb x 59))) c.skip.ensures in
    omega arith

pub loop-at-preserved : goal.loop-at-preserved
loop-at-preserved c =
    let s = c.args.text.now in
    let at = c.loop-at.at in
    let part : c.front-part.result.now ≡ front (λ x. not (eqb x 59)) (drop at s) = c.front-part.ensures ∙ ap (front (λ x. not (eqb x 59))) c.skip.ensures in
    let other : is_unknown (trim c.front-part.result.now) ≡ false = ap is_unknown (sym c.trim.ensures) ∙ sym c.is_unknown.ensures ∙ c.if-is_unknown.false in
    (omega (arith, c.loop-at.invariant.0), c.loop-at.invariant.1 ∙ passed s at _ part other)

pub returns : goal.returns
returns c = record { onward = c.loop-at.invariant.0; left = c.loop-at.invariant.1; first = λ h. absurd (omega (arith, c.loop-at-test.false)) }
