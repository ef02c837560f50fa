-- Laws of the replies kept: with one more, and the target that a walk and a place mark, among the stored domains.
use mathlib.Core.Path.{◌≡◌, refl, ap}
use mathlib.Core.List.{List, [], ◌∷◌, ◌++◌}
use Prim.Native.Nat.{ℕ, zero, suc, ◌+◌, ◌*◌, ◌-◌, ◌≤◌, min}
use native.Mathlib.Omega.{arith}
use native.Mathlib.Decide.{dec_le}
use lib.ListN.{length, take, drop, get_or, set, length-take}
use lib.Seq.{take_all, drop-drop}
use borrow.Author.Tests.{le-leb, lt-leb}
use Rattle.octets.specs.Octets.{Octets, part_of}
use Rattle.octets.proofs.ListLaws.{drop_take}
use Rattle.octets.proofs.PartLaws.{clipped}
use Rattle.domain.specs.Domain.{asked_name}
use Rattle.txt_codes.specs.code.Codes.{reply_of}
use Rattle.walk_known.specs.code.Kept.{kept_answers}
use Rattle.alignment_stored.specs.code.Stored.{number_at, slot}
use Rattle.walk_keep.specs.code.Keeping.{begin_of_slot}

-- ------------------------------------------------------------------ kept answers

module _ (domains : Octets) where
  -- three numbers for each
  pub kept_length : (n k : ℕ) (kept : List ℕ) → length kept ≡ 3 * k → length (kept_answers domains n kept) ≡ min n k
  unfolding kept_answers
  kept_length zero k kept e = omega arith
  kept_length (suc n) zero [] e = omega arith
  kept_length (suc n) (suc k) [] e = absurd (omega arith)
  kept_length (suc n) k (a ∷ []) e = absurd (omega arith)
  kept_length (suc n) k (a ∷ b ∷ []) e = absurd (omega arith)
  kept_length (suc n) zero (a ∷ b ∷ c ∷ kept) e = absurd (omega arith)
  kept_length (suc n) (suc k) (a ∷ b ∷ c ∷ kept) e = omega (arith, kept_length n k kept (omega arith))

  -- with one more
  pub kept_more : (n at : ℕ) (kept : List ℕ) (x y z : ℕ) → at ≡ 3 * n → at + 3 ≤ length kept
      → kept_answers domains (n + 1) (set (set (set kept at x) (at + 1) y) (at + 2) z) ≡ kept_answers domains n kept ++ ((asked_name (part_of domains x y), reply_of z) ∷ [])
  unfolding kept_answers
  kept_more n at [] x y z e h = absurd (omega arith)
  kept_more n at (a ∷ []) x y z e h = absurd (omega arith)
  kept_more n at (a ∷ b ∷ []) x y z e h = absurd (omega arith)
  kept_more zero at (a ∷ b ∷ c ∷ kept) x y z e h =
      let f : at ≡ 0 = omega arith in
      rw f
  kept_more (suc n) at (a ∷ b ∷ c ∷ kept) x y z e h =
      let f : at ≡ suc (suc (suc (3 * n))) = omega arith in
      let f₁ : at + 1 ≡ suc (suc (suc (3 * n + 1))) = omega arith in
      let f₂ : at + 2 ≡ suc (suc (suc (3 * n + 2))) = omega arith in
      let g : suc n + 1 ≡ suc (n + 1) = omega arith in
      rw (f₁, f₂, f, g) (ap (λ l. (asked_name (part_of domains a b), reply_of c) ∷ l) (kept_more n (3 * n) kept x y z refl (omega arith)))

-- ------------------------------------------------------------------ the target that a walk and a place mark, among the stored domains

pub begin_small : (walk : ℕ) → begin_of_slot walk ≤ 4048
unfolding begin_of_slot
begin_small walk = go (dec_le walk 16)
  where
    go : Dec (walk ≤ 16) → begin_of_slot walk ≤ 4048
    go (yes h) = rw (le-leb walk 16 h) (omega arith)
    go (no h) = rw (lt-leb walk 16 (omega arith)) (omega arith)

-- a front part, by its own length
take_own : (k : ℕ) (l : Octets) → take k l ≡ take (length (take k l)) l
take_own k l = go (dec_le k (length l))
  where
    go : Dec (k ≤ length l) → take k l ≡ take (length (take k l)) l
    go (yes h) = let e : length (take k l) ≡ k = omega (arith, length-take k l) in rw e
    go (no h) = let e : length (take k l) ≡ length l = omega (arith, length-take k l) in rw (e, take_all k l (omega arith), take_all (length l) l (omega arith))

module _ (domains : Octets) (numbers : List ℕ) (walk : ℕ) where
  slot_stored : slot domains numbers walk ≡ take (length (slot domains numbers walk)) (drop (begin_of_slot walk) domains)
  unfolding slot number_at begin_of_slot
  slot_stored = go (dec_le walk 16)
    where
      go : Dec (walk ≤ 16) → slot domains numbers walk ≡ take (length (slot domains numbers walk)) (drop (begin_of_slot walk) domains)
      go (yes h) = rw (le-leb walk 16 h) (take_own (min (get_or numbers (0 + walk) 0) 253) (drop (253 * walk) domains))
      go (no h) = rw (lt-leb walk 16 (omega arith))

  -- where the target lies that begins at a place of a walk's domain
  pub mark_stored : (place begin size from : ℕ) → begin ≡ begin_of_slot walk → size ≡ length (slot domains numbers walk) → from ≡ min place size
      → part_of domains (begin + from) (begin + size) ≡ drop place (slot domains numbers walk)
  unfolding part_of
  mark_stored place begin size from b s f =
      let kept : begin + size - (begin + from) ≡ size - from = omega arith in
      let clip : drop from (slot domains numbers walk) ≡ drop place (slot domains numbers walk) = rw (f, s) (clipped (slot domains numbers walk) place) in
      rw (kept, ← drop-drop from begin domains, ← drop_take from size (drop begin domains), b, s, ← slot_stored) clip
