-- Laws of a set's elements, as the code goes through the set.
use mathlib.Core.Path.{◌≡◌, refl, sym, ap, ap₂, ◌∙◌}
use mathlib.Core.List.{List, [], ◌∷◌, ◌++◌, map, flatten}
use mathlib.Core.Bool.{Bool, true, false}
use Prim.Native.Nat.{ℕ, ◌+◌, ◌-◌, ◌≤◌, ◌<◌}
use native.Mathlib.Omega.{arith}
use lib.ListN.{length, drop, get_or}
use borrow.Author.Tests.{eq-eqb, ne_eqb}
use Rattle.std.specs.Prelude.{if◌then◌else◌}
use Rattle.octets.specs.Octets.{Octets, octets, part_of}
use Rattle.octets.specs.Framing.{after_record}
use Rattle.octets_pieces.specs.code.Putting.{Puts}
use Rattle.octets_pieces.proofs.PuttingLaws.{puts_both, puts_nothing}
use Rattle.domain.specs.Domain.{without_dot}
use Rattle.rows.specs.Lists.{Reported, reported, body_or_empty, first_body, set_most, set_in}
use Rattle.rows_named.proofs.NamingLaws.{set_step}
use Rattle.report.specs.Xml.{element}
use Rattle.report.specs.Report.{dkim_element, spf_element, auth_results}
use Rattle.report.proofs.Regrouping.{leaf, ◌·◌, whole, along, regroup, lit, el}
use Rattle.report_texts.proofs.Going.{Goes, goes_over, goes_ends}
use Rattle.report_results.specs.code.Kinds.{kind_element, each_of}

-- ------------------------------------------------------------------ the names of an identifier

module _ (body : Octets) {n : ℕ} (e : n ≡ get_or body 2 255) where
  pub selector_is : {text r : Octets} → text ≡ part_of body 3 (3 + n) → r ≡ without_dot text → r ≡ (reported body).selector
  unfolding reported part_of
  selector_is f g = let size : 3 + n - 3 ≡ n = omega arith in g ∙ ap without_dot (f ∙ rw (size, e))

  pub domain_is : {text r : Octets} → text ≡ drop (3 + n) body → r ≡ without_dot text → r ≡ (reported body).domain
  unfolding reported
  domain_is f g = g ∙ ap without_dot (f ∙ rw e)

-- ------------------------------------------------------------------ one identifier

module _ (body before : Octets) (at : ℕ) {kind : ℕ} (e : kind ≡ get_or body 0 255) (dkim : Bool) where
  pub is_dkim : dkim ≡ true → kind ≡ 1 → {outcome next : ℕ} {domain selector after : Octets} → outcome ≡ get_or body 1 255 → domain ≡ (reported body).domain → selector ≡ (reported body).selector
      → Puts (dkim_element (record { kind = 1; outcome = outcome; selector = selector; domain = domain })) at before next after → Puts (kind_element dkim (reported body)) at before next after
  unfolding kind_element dkim_element reported
  is_dkim k h f g s p = rw (k, eq-eqb (get_or body 0 255) 1 (sym e ∙ h), ← f, ← g, ← s) p

  pub not_dkim : dkim ≡ true → (kind ≡ 1 → ⊥) → Puts (kind_element dkim (reported body)) at before at before
  unfolding kind_element dkim_element reported
  not_dkim k h = rw (k, ne_eqb (get_or body 0 255) 1 (λ z. h (e ∙ z))) (puts_nothing before at)

  pub is_spf : dkim ≡ false → kind ≡ 0 → {outcome next : ℕ} {domain after : Octets} → outcome ≡ get_or body 1 255 → domain ≡ (reported body).domain
      → Puts (spf_element (record { kind = 0; outcome = outcome; selector = []; domain = domain })) at before next after → Puts (kind_element dkim (reported body)) at before next after
  unfolding kind_element spf_element reported
  is_spf k h f g p = rw (k, eq-eqb (get_or body 0 255) 0 (sym e ∙ h), ← f, ← g) p

  pub not_spf : dkim ≡ false → (kind ≡ 0 → ⊥) → Puts (kind_element dkim (reported body)) at before at before
  unfolding kind_element spf_element reported
  not_spf k h = rw (k, ne_eqb (get_or body 0 255) 0 (λ z. h (e ∙ z))) (puts_nothing before at)

-- ------------------------------------------------------------------ a set

pub next_of : (dkim : Bool) {text before : Octets} {at : ℕ} (t body rest : Octets) {end next : ℕ} {out after : Octets} → 0 < length t → body ≡ body_or_empty (first_body t) → rest ≡ after_record t
    → Goes text (each_of dkim (set_in t)) at before end out → Puts (kind_element dkim (reported body)) end out next after → Goes text (each_of dkim (set_in rest)) at before next after
unfolding each_of flatten
next_of dkim [] body rest h e f g p = absurd (omega (arith, h))
next_of dkim (x ∷ t) body rest h e f g p = goes_over (kind_element dkim (reported body)) (each_of dkim (set_in rest)) (rw (set_step x t, ← e, ← f) at g) p

pub none_of : (dkim : Bool) {text before : Octets} {at : ℕ} (t : Octets) {end : ℕ} {out : Octets} → length t ≤ 0 → Goes text (each_of dkim (set_in t)) at before end out → Puts text at before end out
unfolding each_of set_in set_most flatten
none_of dkim [] h g = goes_ends g
none_of dkim (x ∷ t) h g = absurd (omega (arith, h))

results_regroup : (a b : Octets) → octets "<auth_results>" ++ a ++ b ++ octets "</auth_results>" ≡ element "auth_results" (a ++ b)
unfolding whole along lit el element octets
results_regroup a b = regroup (lit "<auth_results>" · leaf a · leaf b · lit "</auth_results>") (el "auth_results" (leaf a · leaf b)) refl

kind_elements : (is : List Reported) → element "auth_results" (each_of true is ++ each_of false is) ≡ auth_results is
unfolding auth_results each_of kind_element
kind_elements is = ap₂ (λ a b. element "auth_results" (flatten a ++ flatten b)) (same true is) (same false is)
  where
    same : (k : Bool) (is : List Reported) → map (kind_element k) is ≡ map (if k then dkim_element else spf_element) is
    same k [] = refl
    same true (i ∷ is) = ap (λ l. kind_element true i ∷ l) (same true is)
    same false (i ∷ is) = ap (λ l. kind_element false i ∷ l) (same false is)

pub results_puts : (is : List Reported) (before : Octets) (at : ℕ) {m₁ m₂ m₃ m₄ : ℕ} {o₁ o₂ o₃ o₄ : Octets} → Puts (octets "<auth_results>") at before m₁ o₁ → Puts (each_of true is) m₁ o₁ m₂ o₂
    → Puts (each_of false is) m₂ o₂ m₃ o₃ → Puts (octets "</auth_results>") m₃ o₃ m₄ o₄ → Puts (auth_results is) at before m₄ o₄
results_puts is before at p q r s =
    rw (← kind_elements is) (rw (results_regroup (each_of true is) (each_of false is)) at (puts_both _ _ before at (puts_both _ _ before at (puts_both _ _ before at p q) r) s))
