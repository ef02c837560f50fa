-- `policy_repeats::part_after` meets its contract.
use mathlib.Core.Bool.{not}
use mathlib.Core.Path.{◌≡◌, refl, ap, ◌∙◌}
use Prim.Native.Nat.{ℕ, ◌+◌}
use native.Mathlib.Omega.{arith}
use lib.Dec.{eqb}
use lib.ListN.{length, drop}
use Rattle.octets.specs.Octets.{Octets, front}
use Rattle.policy_repeats.specs.code.Storing.{part_after}
use Rattle.policy_tags.proofs.TagLaws.{part_fits}
use Rattle.policy_repeats.proofs.part_after.Goals as goal

pub overflow_add-result : goal.overflow_add-result
overflow_add-result c =
    let a = c.args in
    let size : c.find_octet.result ≡ length (front (λ x. not (eqb x 59)) (drop a.at a.text.now)) = c.find_octet.ensures ∙ ap (λ (l : Octets). length (front (λ x. not (eqb x 59)) l)) c.skip.ensures in
    omega (arith, part_fits a.text.now a.at c.requires _ refl)

pub overflow_add-result-2 : goal.overflow_add-result-2
overflow_add-result-2 c =
    let a = c.args in
    let size : c.find_octet.result ≡ length (front (λ x. not (eqb x 59)) (drop a.at a.text.now)) = c.find_octet.ensures ∙ ap (λ (l : Octets). length (front (λ x. not (eqb x 59)) l)) c.skip.ensures in
    omega (arith, part_fits a.text.now a.at c.requires _ refl)

pub returns : goal.returns
unfolding part_after
returns c =
    let a = c.args in
    let size : c.find_octet.result ≡ length (front (λ x. not (eqb x 59)) (drop a.at a.text.now)) = c.find_octet.ensures ∙ ap (λ (l : Octets). length (front (λ x. not (eqb x 59)) l)) c.skip.ensures in
    ap (λ (n : ℕ). a.at + n + 1) size
