-- Laws of the texts before the records.
use mathlib.Core.Path.{◌≡◌, refl}
use mathlib.Core.List.{[], ◌∷◌, ◌++◌, map, flatten}
use mathlib.Core.Bool.{Bool, true, false, true≢false}
use Prim.Native.Nat.{ℕ}
use native.Mathlib.Omega.{arith}
use lib.Dec.{eqb}
use lib.ListN.{length}
use Rattle.std.specs.Prelude.{if◌then◌else◌}
use Rattle.octets.specs.Octets.{Octets, octets, is_empty}
use Rattle.octets.specs.Decimal.{decimal}
use Rattle.octets_pieces.specs.code.Putting.{Puts}
use Rattle.octets_pieces.proofs.PuttingLaws.{puts_both, puts_nothing}
use Rattle.policy.specs.declared.Settings.{Settings}
use Rattle.publishing.specs.Publishing.{setting_value}
use Rattle.report.specs.Xml.{element, optional_element, entity, with_entities}
use Rattle.report.specs.Report.{Reporter, date_range, metadata, published_mode, published_testing, policy_published}
use Rattle.report.proofs.Regrouping.{leaf, ◌·◌, whole, along, regroup, lit, el}

-- ------------------------------------------------------------------ report_metadata

some_entity : (x : ℕ) → is_empty (entity x) ≡ false
unfolding entity octets
some_entity x = go (eqb x 38) (eqb x 60) (eqb x 62)
  where
    go : (a b c : Bool) → is_empty (if a then octets "&amp;" else if b then octets "&lt;" else if c then octets "&gt;" else x ∷ []) ≡ false
    go true b c = refl
    go false true c = refl
    go false false true = refl
    go false false false = refl

some_more : (a b : Octets) → is_empty a ≡ false → is_empty (a ++ b) ≡ false
some_more [] b e = absurd (true≢false e)
some_more (x ∷ a) b e = refl

some_text : (s : Octets) → (length s ≡ 0 → ⊥) → is_empty (with_entities s) ≡ false
unfolding with_entities flatten
some_text [] n = absurd (n refl)
some_text (x ∷ s) n = some_more (entity x) (flatten (map entity s)) (some_entity x)

contact_regroup : (s : Octets) → octets "<extra_contact_info>" ++ (s ++ octets "</extra_contact_info>") ≡ element "extra_contact_info" s
unfolding whole along lit el element octets
contact_regroup s = regroup (lit "<extra_contact_info>" · (leaf s · lit "</extra_contact_info>")) (el "extra_contact_info" (leaf s)) refl

module _ (s before : Octets) (at : ℕ) where
  pub no_contact : length s ≡ 0 → Puts (optional_element "extra_contact_info" (with_entities s)) at before at before
  unfolding optional_element with_entities flatten
  no_contact e = go s e
    where
      go : (s : Octets) → length s ≡ 0 → Puts (optional_element "extra_contact_info" (with_entities s)) at before at before
      go [] e = puts_nothing before at
      go (x ∷ s) e = absurd (omega (arith, e))

  pub a_contact : {mid next : ℕ} {once after : Octets} → (length s ≡ 0 → ⊥) → Puts (octets "<extra_contact_info>") at before mid once → Puts (with_entities s ++ octets "</extra_contact_info>") mid once next after
      → Puts (optional_element "extra_contact_info" (with_entities s)) at before next after
  unfolding optional_element
  a_contact n p q = rw (some_text s n) (rw (contact_regroup (with_entities s)) at (puts_both _ _ before at p q))

metadata_regroup : (o e c i b n : Octets)
    → octets "<report_metadata><org_name>" ++ (o ++ octets "</org_name><email>") ++ (e ++ octets "</email>") ++ c ++ octets "<report_id>" ++ (i ++ octets "</report_id><date_range><begin>")
    ++ (b ++ octets "</begin><end>") ++ (n ++ octets "</end></date_range></report_metadata>")
    ≡ element "report_metadata" (element "org_name" o ++ element "email" e ++ c ++ element "report_id" i ++ element "date_range" (element "begin" b ++ element "end" n))
unfolding whole along lit el element octets
metadata_regroup o e c i b n = regroup
    (lit "<report_metadata><org_name>" · (leaf o · lit "</org_name><email>") · (leaf e · lit "</email>") · leaf c · lit "<report_id>" · (leaf i · lit "</report_id><date_range><begin>")
    · (leaf b · lit "</begin><end>") · (leaf n · lit "</end></date_range></report_metadata>"))
    (el "report_metadata" (el "org_name" (leaf o) · el "email" (leaf e) · leaf c · el "report_id" (leaf i) · el "date_range" (el "begin" (leaf b) · el "end" (leaf n))))
    refl

pub metadata_puts : (by : Reporter) (before : Octets) (at : ℕ) {m₁ m₂ m₃ m₄ m₅ m₆ m₇ m₈ : ℕ} {o₁ o₂ o₃ o₄ o₅ o₆ o₇ o₈ : Octets}
    → Puts (octets "<report_metadata><org_name>") at before m₁ o₁ → Puts (with_entities by.organization ++ octets "</org_name><email>") m₁ o₁ m₂ o₂ → Puts (with_entities by.email ++ octets "</email>") m₂ o₂ m₃ o₃
    → Puts (optional_element "extra_contact_info" (with_entities by.contact)) m₃ o₃ m₄ o₄ → Puts (octets "<report_id>") m₄ o₄ m₅ o₅ → Puts (by.id ++ octets "</report_id><date_range><begin>") m₅ o₅ m₆ o₆
    → Puts (decimal by.begin ++ octets "</begin><end>") m₆ o₆ m₇ o₇ → Puts (decimal by.end ++ octets "</end></date_range></report_metadata>") m₇ o₇ m₈ o₈
    → Puts (metadata by) at before m₈ o₈
unfolding metadata date_range
metadata_puts by before at p₁ p₂ p₃ p₄ p₅ p₆ p₇ p₈ =
    rw (metadata_regroup (with_entities by.organization) (with_entities by.email) (optional_element "extra_contact_info" (with_entities by.contact)) by.id (decimal by.begin) (decimal by.end))
    at (puts_both _ _ before at (puts_both _ _ before at (puts_both _ _ before at (puts_both _ _ before at (puts_both _ _ before at (puts_both _ _ before at (puts_both _ _ before at p₁ p₂) p₃) p₄) p₅) p₆) p₇) p₈)

-- ------------------------------------------------------------------ policy_published

module _ (start w end before : Octets) (at : ℕ) where
  pub no_word : length w ≡ 0 → Puts (if is_empty w then [] else start ++ w ++ end) at before at before
  no_word e = go w e
    where
      go : (w : Octets) → length w ≡ 0 → Puts (if is_empty w then [] else start ++ w ++ end) at before at before
      go [] e = puts_nothing before at
      go (x ∷ w) e = absurd (omega (arith, e))

  pub a_word : {mid next : ℕ} {once after : Octets} → (length w ≡ 0 → ⊥) → Puts (start ++ w) at before mid once → Puts end mid once next after → Puts (if is_empty w then [] else start ++ w ++ end) at before next after
  a_word n p q = rw (some w n) (puts_both _ _ before at p q)
    where
      some : (w : Octets) → (length w ≡ 0 → ⊥) → is_empty w ≡ false
      some [] n = absurd (n refl)
      some (x ∷ w) n = refl

sp_regroup : (w : Octets) → octets "<sp>" ++ w ++ octets "</sp>" ≡ element "sp" w
unfolding whole along lit el element octets
sp_regroup w = regroup (lit "<sp>" · leaf w · lit "</sp>") (el "sp" (leaf w)) refl

np_regroup : (w : Octets) → octets "<np>" ++ w ++ octets "</np>" ≡ element "np" w
unfolding whole along lit el element octets
np_regroup w = regroup (lit "<np>" · leaf w · lit "</np>") (el "np" (leaf w)) refl

sp_optional : (w : Octets) → (if is_empty w then [] else octets "<sp>" ++ w ++ octets "</sp>") ≡ optional_element "sp" w
unfolding optional_element
sp_optional w = rw (sp_regroup w)

np_optional : (w : Octets) → (if is_empty w then [] else octets "<np>" ++ w ++ octets "</np>") ≡ optional_element "np" w
unfolding optional_element
np_optional w = rw (np_regroup w)

published_regroup : (d p sp np a f t : Octets)
    → octets "<policy_published><domain>" ++ (d ++ octets "</domain><p>") ++ (p ++ octets "</p>") ++ sp ++ np
    ++ (octets "<adkim>" ++ (a ++ (octets "</adkim><aspf>" ++ (f ++ (octets "</aspf><testing>" ++ (t ++ (octets "</testing></policy_published>" ++ [])))))))
    ≡ element "policy_published" (element "domain" d ++ element "p" p ++ sp ++ np ++ element "adkim" a ++ element "aspf" f ++ element "testing" t)
unfolding whole along lit el element octets
published_regroup d p sp np a f t = regroup
    (lit "<policy_published><domain>" · (leaf d · lit "</domain><p>") · (leaf p · lit "</p>") · leaf sp · leaf np
    · (lit "<adkim>" · (leaf a · (lit "</adkim><aspf>" · (leaf f · (lit "</aspf><testing>" · (leaf t · (lit "</testing></policy_published>" · leaf []))))))))
    (el "policy_published" (el "domain" (leaf d) · el "p" (leaf p) · leaf sp · leaf np · el "adkim" (leaf a) · el "aspf" (leaf f) · el "testing" (leaf t)))
    refl

pub published_puts : (d : Octets) (s : Settings) (before : Octets) (at : ℕ) {m₁ m₂ m₃ m₄ m₅ m₆ : ℕ} {o₁ o₂ o₃ o₄ o₅ o₆ : Octets}
    → Puts (octets "<policy_published><domain>") at before m₁ o₁ → Puts (d ++ octets "</domain><p>") m₁ o₁ m₂ o₂ → Puts (setting_value s.p ++ octets "</p>") m₂ o₂ m₃ o₃
    → Puts (if is_empty (setting_value s.sp) then [] else octets "<sp>" ++ setting_value s.sp ++ octets "</sp>") m₃ o₃ m₄ o₄
    → Puts (if is_empty (setting_value s.np) then [] else octets "<np>" ++ setting_value s.np ++ octets "</np>") m₄ o₄ m₅ o₅
    → Puts (octets "<adkim>" ++ (published_mode s.adkim ++ (octets "</adkim><aspf>" ++ (published_mode s.aspf ++ (octets "</aspf><testing>" ++ (published_testing s.t ++ (octets "</testing></policy_published>" ++ []))))))) m₅ o₅ m₆ o₆
    → Puts (policy_published d s) at before m₆ o₆
unfolding policy_published
published_puts d s before at p₁ p₂ p₃ p₄ p₅ p₆ =
    rw (published_regroup d (setting_value s.p) (optional_element "sp" (setting_value s.sp)) (optional_element "np" (setting_value s.np)) (published_mode s.adkim) (published_mode s.aspf) (published_testing s.t))
    at (puts_both _ _ before at (puts_both _ _ before at (puts_both _ _ before at (puts_both _ _ before at (puts_both _ _ before at p₁ p₂) p₃) (rw (sp_optional (setting_value s.sp)) at p₄)) (rw (np_optional (setting_value s.np)) at p₅)) p₆)
