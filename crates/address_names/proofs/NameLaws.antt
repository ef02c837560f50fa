-- Laws of the names of a check, as code compares and writes them.
use Rattle.std.specs.Prelude.{Ok}
use mathlib.Core.Path.{◌≡◌, refl, ap, sym, ◌∙◌}
use mathlib.Core.Bool.{Bool, true, false, ◌&&◌}
use mathlib.Core.List.{List, ◌++◌, append_assoc}
use Prim.Native.Nat.{ℕ, zero, suc, ◌+◌, ◌-◌, ◌≤◌, ◌<◌}
use native.Mathlib.Omega.{arith}
use lib.ListN.{length, take, drop, length-take, length-drop, length-append, take-append-drop}
use lib.Seq.{drop-drop}
use Rattle.octets.specs.Octets.{Octets, octets, same_text, part_of}
use Rattle.octets.specs.Lent.{Writes}
use Rattle.octets.proofs.TextLaws.{uneven, same_text_append}
use Rattle.octets.proofs.PartLaws.{part_rest}
use Rattle.octets_append.specs.code.Appending.{Appends}
use Rattle.octets_append.proofs.AppendLaws.{appends_whole, appends_three}
use Rattle.domain.specs.declared.Octet.{Octet}
use Rattle.domain.specs.Domain.{Domain, asked_name}
use Rattle.alignment_stored.specs.code.Stored.{slot}
use Rattle.address.specs.Address.{confirming_name}
use Rattle.address.specs.Checks.{Pair}
use Rattle.address.proofs.NameLaws.{long_name}
use Rattle.address_check.specs.Numbers.{mark_in}
use Rattle.address_check.specs.code.Pairs.{both}

-- ------------------------------------------------------------------ the confirming name, compared

module _ (name : Octets) (p h : Domain) where
  pub too_short : length name < length p + 16 → false ≡ same_text name (confirming_name p h)
  too_short l = sym (uneven name (confirming_name p h) λ e. omega (arith, l, e, long_name p h))

  module _ (l : length p + 16 ≤ length name) where
    -- by its three parts
    pub in_parts : same_text name (confirming_name p h)
        ≡ (same_text (part_of name 0 (length p)) p && (same_text (part_of name (length p) (length p + 16)) (octets "._report._dmarc.") && same_text (part_of name (length p + 16) (length name)) h))
    unfolding confirming_name part_of octets
    in_parts =
        let q : length p - 0 ≡ length p = omega arith in
        let r : length p + 16 - length p ≡ 16 = omega arith in
        let first : length (take (length p) name) ≡ length p = omega (arith, length-take (length p) name) in
        let second : length (take 16 (drop (length p) name)) ≡ 16 = omega (arith, length-take 16 (drop (length p) name), length-drop (length p) name) in
        ap (λ (x : Octets). same_text x (confirming_name p h)) (sym (take-append-drop (length p) name))
        ∙ ap (same_text (take (length p) name ++ drop (length p) name)) (append_assoc p (octets "._report._dmarc.") h)
        ∙ same_text_append (take (length p) name) (drop (length p) name) p (octets "._report._dmarc." ++ h) first
        ∙ rw (q, r, part_rest name (length p + 16)) (ap (λ b. same_text (take (length p) name) p && b)
        (ap (λ (x : Octets). same_text x (octets "._report._dmarc." ++ h)) (sym (take-append-drop 16 (drop (length p) name)))
        ∙ same_text_append (take 16 (drop (length p) name)) (drop 16 (drop (length p) name)) (octets "._report._dmarc.") h second
        ∙ rw (drop-drop 16 (length p) name)))

-- ------------------------------------------------------------------ the confirming name, written

module _ (p h : Domain) (memory : Octets) (l : length p + 16 + length h ≤ length memory) where
  pub writes_confirming : {a b c : ℕ} {x y z : Octets} → Appends p 0 memory a x → Appends (octets "._report._dmarc.") a x b y → Appends h b y c z
      → Writes (confirming_name p h) memory (Ok c) z
  unfolding confirming_name
  writes_confirming f g k =
      let size : length (p ++ octets "._report._dmarc." ++ h) ≡ length p + 16 + length h = long_name p h in
      appends_whole (p ++ octets "._report._dmarc." ++ h) memory (omega (arith, l, size)) (appends_three p (octets "._report._dmarc.") h memory 0 (omega (arith, l, size)) f g k)

-- ------------------------------------------------------------------ a mark

module _ (p h : Domain) (place : Octet) where
  pub past_walks : (walk : ℕ) → (walk ≡ 0 → ⊥) → (walk ≡ 1 → ⊥) → confirming_name p h ≡ mark_in (both p h) walk place
  unfolding mark_in
  past_walks zero f g = absurd (f refl)
  past_walks (suc zero) f g = absurd (g refl)
  past_walks (suc (suc n)) f g = refl

pub on_a_walk : (domains : Octets) (numbers : List ℕ) (place : Octet) (walk : ℕ) → walk ≤ 1
    → asked_name (drop place.0 (slot domains numbers walk)) ≡ mark_in (both (slot domains numbers 0) (slot domains numbers 1)) walk place
unfolding mark_in
on_a_walk domains numbers place zero h = refl
on_a_walk domains numbers place (suc zero) h = refl
on_a_walk domains numbers place (suc (suc n)) h = absurd (omega arith)
