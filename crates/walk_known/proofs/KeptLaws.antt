-- Laws of what is known of a name.
use mathlib.Core.Path.{◌≡◌, refl, ap, ◌∙◌}
use mathlib.Core.List.{List, [], ◌∷◌}
use mathlib.Core.Bool.{Bool, true, false}
use Prim.Native.Nat.{ℕ, zero, suc, ◌+◌, ◌-◌, ◌≤◌, ◌<◌}
use native.Mathlib.Numerals.{add-one, add-two, add-three}
use native.Mathlib.Omega.{arith}
use lib.ListN.{length, drop, get_or, length-drop}
use lib.Seq.{drop-cons}
use Rattle.std.specs.Prelude.{if◌then◌else◌, Some, None}
use Rattle.octets.specs.Octets.{Octets, octets, same, same_text, part_of}
use Rattle.lookup.specs.Lookup.{Answers, find}
use Rattle.domain.specs.Domain.{Domain, can_ask, asked_name}
use Rattle.txt.specs.declared.Reply.{Reply}
use Rattle.txt_codes.specs.code.Codes.{reply_of}
use Rattle.walk_known.specs.code.Kept.{kept_answers, known, looked_at}

-- ------------------------------------------------------------------ asked names

-- are equal exactly where the targets are equal in either case
pub same_asked : (a b : Domain) → same (asked_name a) (asked_name b) ≡ same_text a b
unfolding asked_name octets same same_text
same_asked a b = refl

-- ------------------------------------------------------------------ kept answers, one by one

module _ (domains : Octets) where
  kept_short : (n : ℕ) (kept : List ℕ) → length kept < 3 → kept_answers domains n kept ≡ []
  unfolding kept_answers
  kept_short zero kept h = refl
  kept_short (suc n) [] h = refl
  kept_short (suc n) (a ∷ []) h = refl
  kept_short (suc n) (a ∷ b ∷ []) h = refl
  kept_short (suc n) (a ∷ b ∷ c ∷ l) h = absurd (omega arith)

  kept_next : (n : ℕ) (kept : List ℕ) (at : ℕ) → 3 ≤ length kept - at
      → kept_answers domains (suc n) (drop at kept)
      ≡ (asked_name (part_of domains (get_or kept at 0) (get_or kept (at + 1) 0)), reply_of (get_or kept (at + 2) 0)) ∷ kept_answers domains n (drop (at + 3) kept)
  unfolding kept_answers
  kept_next n kept at h =
      rw (add-one at, add-two at, add-three at, drop-cons kept at 0 (omega arith), drop-cons kept (suc at) 0 (omega arith), drop-cons kept (suc (suc at)) 0 (omega arith))

  module _ (left : ℕ) (kept : List ℕ) (at : ℕ) (target : Domain) where
    pub known_none : left ≤ 0 → known domains left (drop at kept) (asked_name target) ≡ None
    unfolding known kept_answers find
    known_none h = let e : left ≡ 0 = omega arith in rw e

    pub known_short : length kept - at < 3 → known domains left (drop at kept) (asked_name target) ≡ None
    unfolding known find
    known_short h = rw (kept_short left (drop at kept) (omega (arith, length-drop at kept)))

    -- the next one, as the code compares it
    pub known_next : 0 < left → 3 ≤ length kept - at → (piece : Octets) → piece ≡ part_of domains (get_or kept at 0) (get_or kept (at + 1) 0) → (t : Bool) → t ≡ same_text target piece
        → known domains left (drop at kept) (asked_name target) ≡ (if t then Some (reply_of (get_or kept (at + 2) 0)) else known domains (left - 1) (drop (at + 3) kept) (asked_name target))
    unfolding known find
    known_next p h piece e t f =
        let count : left ≡ suc (left - 1) = omega arith in
        ap (λ (n : ℕ). known domains n (drop at kept) (asked_name target)) count
        ∙ rw (kept_next (left - 1) kept at h, same_asked, ← e, ← f)

-- ------------------------------------------------------------------ what stands at a target

module _ (β : Answers Reply) (t : Domain) where
  pub looked_asked : can_ask t ≡ true → find β (asked_name t) ≡ looked_at β t
  unfolding looked_at
  looked_asked e = rw e

  pub looked_long : can_ask t ≡ false → Some Reply.NoRecord ≡ looked_at β t
  unfolding looked_at
  looked_long e = rw e
