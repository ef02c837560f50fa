-- The asked names of a domain that keeps the rule keep it too.
use Rattle.std.specs.Prelude.{Option, None, Some}
use mathlib.Core.Path.{◌≡◌, refl, ap, sym, ◌∙◌}
use mathlib.Core.List.{List, [], ◌∷◌, map}
use mathlib.Core.Bool.{Bool, true, false, ◌&&◌, or-true}
use Prim.Native.Nat.{ℕ, zero, suc, ◌+◌, ◌-◌, ◌≤◌, ◌<◌}
use native.Mathlib.Omega.{arith}
use lib.Dec.{eqb, leb}
use lib.ListN.{length, drop, get_or}
use borrow.Author.Tests.{le-leb, leb-true, ne_eqb}
use Rattle.octets.specs.Octets.{Octets, octets, all, any, between, is_letter, is_digit, one_of, made_of, lower, lower_octet, onto_first, split}
use Rattle.octets.proofs.TextLaws.{lower_length}
use Rattle.octets.proofs.PartLaws.{split_found, split_other}
use Rattle.domain.specs.Domain.{Domain, domain_octet, labels, good_label, first_bad, domain_fault, is_domain, label_count, last_labels, targets, can_ask, asked_name}
use Rattle.domain.specs.Claims.{AskedNames}
use Rattle.domain.proofs.SplitLaws.{split_head, split_between}
use Rattle.domain.proofs.RuleLaws.{fault_next, no_fault_here, no_fault, length_fault, rule_fault, kept_or_not, domain_short}
use Rattle.domain.proofs.DomainLaws.{labels_left, target_count, target_first, target_next}

and_true : (a b : Bool) → (a && b) ≡ true → (a ≡ true) × (b ≡ true)
and_true true b e = (refl, e)
and_true false b e = (e, absurd (false≢true e))
  where
    false≢true : false ≡ true → ⊥
    false≢true f = let z : ◌≡◌ {A = ℕ} 0 1 = cc in omega arith

-- ------------------------------------------------------------------ lower case

module _ (x : ℕ) where
  -- a capital becomes a small letter, any other octet stays
  lower_cases : (P : ℕ → Type 0) → (65 ≤ x → x ≤ 90 → P (x + 32)) → P x → P (lower_octet x)
  unfolding lower_octet between
  lower_cases P f p = go (between 65 90 x) refl
    where
      go : (t : Bool) → between 65 90 x ≡ t → P (lower_octet x)
      go true e = let (h, k) = and_true (leb 65 x) (leb x 90) e in rw e (f (leb-true 65 x h) (leb-true x 90 k))
      go false e = rw e p

  small_letter : 65 ≤ x → x ≤ 90 → domain_octet (x + 32) ≡ true
  unfolding domain_octet is_letter between
  small_letter h k = rw (le-leb 97 (x + 32) (omega arith), le-leb (x + 32) 122 (omega arith), or-true)

  lower_kept : domain_octet x ≡ true → domain_octet (lower_octet x) ≡ true
  lower_kept e = lower_cases (λ y. domain_octet y ≡ true) small_letter e

  -- a dot stays a dot, and no other octet becomes one
  lower_dot : eqb (lower_octet x) 46 ≡ eqb x 46
  lower_dot = lower_cases (λ y. eqb y 46 ≡ eqb x 46) (λ h k. ne_eqb (x + 32) 46 (λ e. omega (arith, e)) ∙ sym (ne_eqb x 46 (λ e. omega (arith, e)))) refl

lower_all : (s : Octets) → all domain_octet s ≡ true → all domain_octet (lower s) ≡ true
unfolding all lower
lower_all [] e = refl
lower_all (x ∷ s) e = let (h, k) = and_true (domain_octet x) (all domain_octet s) e in rw (lower_kept x h, lower_all s k)

lower_label : (l : Octets) → good_label l ≡ true → good_label (lower l) ≡ true
unfolding good_label made_of lower
lower_label [] e = e
lower_label (x ∷ l) e =
    let (h, k) = and_true (leb (length (x ∷ l)) 63) (all domain_octet (x ∷ l)) e in
    rw (lower_length (x ∷ l), h) (lower_all (x ∷ l) k)

-- the labels of a domain in lower case
lower_labels : (d : Domain) → labels (lower d) ≡ map lower (labels d)
unfolding labels lower split onto_first
lower_labels [] = refl
lower_labels (x ∷ d) = go (lower_labels d) (eqb x 46) refl
  where
    go : split 46 (lower d) ≡ map lower (split 46 d) → (b : Bool) → eqb x 46 ≡ b → split 46 (lower_octet x ∷ lower d) ≡ map lower (split 46 (x ∷ d))
    go ih true e = rw (split_found 46 (lower_octet x) (lower d) (lower_dot x ∙ e), split_found 46 x d e, ih)
    go ih false e = rw (split_other 46 (lower_octet x) (lower d) (lower_dot x ∙ e), split_other 46 x d e, ih, split_head 46 d)

-- ------------------------------------------------------------------ good labels

good_labels : (at : ℕ) (ls : List Octets) → first_bad at ls ≡ None → all good_label ls ≡ true
unfolding all
good_labels at [] e = refl
good_labels at (l ∷ ls) e =
    let g = no_fault_here at l ls e in
    rw g (good_labels (at + length l + 1) ls (sym (fault_next at l ls g) ∙ e))

none_bad : (at : ℕ) (ls : List Octets) → all good_label ls ≡ true → first_bad at ls ≡ None
unfolding all first_bad
none_bad at [] e = refl
none_bad at (l ∷ ls) e =
    let (g, rest) = and_true (good_label l) (all good_label ls) e in
    fault_next at l ls g ∙ none_bad (at + length l + 1) ls rest

good_later : (k : ℕ) (ls : List Octets) → all good_label ls ≡ true → all good_label (drop k ls) ≡ true
unfolding all
good_later zero ls e = e
good_later (suc k) [] e = e
good_later (suc k) (l ∷ ls) e = let (g, rest) = and_true (good_label l) (all good_label ls) e in good_later k ls rest

good_lower : (ls : List Octets) → all good_label ls ≡ true → all good_label (map lower ls) ≡ true
unfolding all
good_lower [] e = refl
good_lower (l ∷ ls) e = let (g, rest) = and_true (good_label l) (all good_label ls) e in rw (lower_label l g, good_lower ls rest)

-- ------------------------------------------------------------------ whole domains

pub rule_no_fault : (d : Domain) → is_domain d ≡ true → domain_fault d ≡ None
unfolding kept_or_not
rule_no_fault d e = go (domain_fault d) refl
  where
    go : (o : Option ℕ) → domain_fault d ≡ o → domain_fault d ≡ None
    go None f = f
    go (Some at) f = let g : false ≡ true = sym (rule_fault d ∙ ap kept_or_not f) ∙ e in let z : ◌≡◌ {A = ℕ} 0 1 = cc in absurd (omega arith)

pub all_good : (d : Domain) → is_domain d ≡ true → all good_label (labels d) ≡ true
all_good d e = good_labels 0 (labels d) (no_fault d (rule_no_fault d e))

keeps_rule : (d : Domain) → all good_label (labels d) ≡ true → length d ≤ 253 → is_domain d ≡ true
unfolding kept_or_not
keeps_rule d g h = rw (rule_fault d, length_fault d (none_bad 0 (labels d) g), le-leb (length d) 253 h)

-- a domain in lower case
pub lower_domain : (d : Domain) → is_domain d ≡ true → is_domain (lower d) ≡ true
lower_domain d e = keeps_rule (lower d) (rw (lower_labels d) (good_lower (labels d) (all_good d e))) (omega (arith, lower_length d, domain_short d e))

-- the labels of a target are labels of its domain
pub target_good : (d : Domain) → all good_label (labels d) ≡ true → (k : ℕ) → k < length (targets d) → all good_label (labels (get_or (targets d) k [])) ≡ true
unfolding last_labels
target_good d g zero h = rw (target_first d) g
target_good d g (suc k) h =
    let from : ℕ = label_count d - (length (targets d) - suc k) in
    rw (target_next d (suc k) (omega arith), labels_left from d (omega (arith, target_count d))) (good_later from (labels d) g)

-- those of its asked name are `_dmarc` and the target's
name_labels : (t : Domain) → labels (asked_name t) ≡ octets "_dmarc" ∷ map lower (labels t)
unfolding asked_name labels octets split onto_first
name_labels t = split_between 46 (octets "_dmarc") (lower t) ∙ ap (λ (ls : List Octets). octets "_dmarc" ∷ ls) (lower_labels t)

prefix_good : good_label (octets "_dmarc") ≡ true
unfolding good_label made_of all octets domain_octet is_letter between is_digit one_of any
prefix_good = refl

pub name_good : (t : Domain) → all good_label (labels t) ≡ true → all good_label (labels (asked_name t)) ≡ true
unfolding all
name_good t g = rw (name_labels t, prefix_good) (good_lower (labels t) g)

pub asked_names : (d : Domain) → AskedNames d
unfolding AskedNames can_ask asked_name octets
asked_names d e k h a =
    let t : Domain = get_or (targets d) k [] in
    keeps_rule (asked_name t) (name_good t (target_good d (all_good d e) k h)) (omega (arith, lower_length t, leb-true (length t) 246 a))
