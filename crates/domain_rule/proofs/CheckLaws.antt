-- Laws of the rule's answer.
use Rattle.std.specs.Prelude.{Result, Ok, Err, None, Some}
use mathlib.Core.Path.{◌≡◌, refl, ap, sym, ◌∙◌}
use mathlib.Core.Bool.{Bool, true, false, not}
use Prim.Native.Nat.{ℕ, ◌+◌, ◌-◌, ◌≤◌, ◌<◌}
use native.Mathlib.Decide.{dec_lt}
use native.Mathlib.Omega.{arith}
use lib.ListN.{length, take, drop, length-drop}
use lib.Dec.{eqb}
use borrow.Author.Tests.{le-leb, lt-leb}
use Rattle.std.specs.Result.{is_ok}
use Rattle.octets.specs.Octets.{Octets, front}
use Rattle.octets.proofs.LentLaws.{rest_of}
use Rattle.domain.specs.Domain.{Domain, labels, good_label, first_bad, domain_fault, is_domain, label_count}
use Rattle.domain.specs.declared.Labels.{Labels}
use Rattle.domain.specs.declared.Octet.{Octet}
use Rattle.domain.proofs.SplitLaws.{index, index_within, index_front}
use Rattle.domain.proofs.RuleLaws.{label_fault, length_fault, fault_here, dot_label, end_label}
use Rattle.domain_rule.specs.code.Checking.{checked}

module _ (d : Domain) where
  pub bad_label : (at : ℕ) → first_bad 0 (labels d) ≡ Some at → Err (record { 0 = at }) ≡ checked d
  unfolding checked
  bad_label at e = rw (label_fault d at e, checked)

  pub bad_length : first_bad 0 (labels d) ≡ None → 253 < length d → Err (record { 0 = 253 }) ≡ checked d
  unfolding checked
  bad_length e h = rw (length_fault d e, checked, lt-leb _ _ h)

  pub good_domain : first_bad 0 (labels d) ≡ None → length d ≤ 253 → (n : ℕ) → n ≡ label_count d → Ok (record { 0 = n }) ≡ checked d
  unfolding checked
  good_domain e h n f = rw (length_fault d e, checked, le-leb _ _ h, f)

-- the first label of what is left, and its octets, as the code cuts them
module _ (s : Octets) (begin size : ℕ) where
  pub sized : size ≡ length (front (λ x. not (eqb x 46)) (take (length s - begin) (drop begin s))) → size ≡ index 46 (drop begin s)
  sized e = e ∙ index_front 46 _ ∙ ap (index 46) (rest_of s begin)

  pub cut : {b : Bool} → good_label (take size (take (length s - begin) (drop begin s))) ≡ b → good_label (take size (drop begin s)) ≡ b
  cut e = rw rest_of at e

-- the label that begins at a place
module _ (d : Domain) (begin size : ℕ) (e : size ≡ index 46 (drop begin d)) where
  pub label_within : begin ≤ length d → begin + size ≤ length d
  label_within h = omega (arith, e, index_within 46 (drop begin d), length-drop begin d)

  pub bad_here : good_label (take size (drop begin d)) ≡ false → first_bad begin (labels (drop begin d)) ≡ Some begin
  bad_here g = go (dec_lt (begin + size) (length d))
    where
      go : Dec (begin + size < length d) → first_bad begin (labels (drop begin d)) ≡ Some begin
      go (yes h) =
          let counted : begin + size - begin ≡ size = omega arith in
          rw (dot_label d begin size e h) (fault_here _ _ _ (rw counted g))
      go (no h) =
          let counted : length d - begin ≡ size = omega (arith, e, index_within 46 (drop begin d), length-drop begin d) in
          rw (end_label d begin size e (omega arith)) (fault_here _ _ _ (rw counted g))

rule_kept : (d : Domain) → is_domain d ≡ is_ok (checked d)
unfolding is_domain checked
rule_kept d =
    elim (domain_fault d) as (λ o. elim o as (λ _. Bool) [ None ↦ true | Some at ↦ false ]
    ≡ is_ok (elim o as (λ _. (Result Labels Octet)) [ Some at ↦ Err (record { 0 = at }) | None ↦ Ok (record { 0 = label_count d }) ])) [
      | None ↦ refl
      | Some at ↦ refl
    ]

pub kept : (d : Domain) (r : Result Labels Octet) → r ≡ checked d → is_ok r ≡ is_domain d
kept d r e = ap is_ok e ∙ sym (rule_kept d)
