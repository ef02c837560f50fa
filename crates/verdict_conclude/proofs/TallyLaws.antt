-- Laws of tallies: a tally is what the alignments give, and its digits are the alignments.
use mathlib.Core.Path.{◌≡◌, refl, ap}
use mathlib.Core.List.{List, [], ◌∷◌, map}
use Prim.Native.Nat.{ℕ, zero, suc, ◌+◌, ◌*◌, ◌/◌, ◌%◌}
use native.Mathlib.Omega.{arith}
use lib.ListN.{length}
use Rattle.octets.specs.Octets.{Octets, any}
use Rattle.walk_progress.specs.code.Stored.{Stored}
use Rattle.alignment.specs.declared.Alignment.{Alignment}
use Rattle.alignment_settle.specs.declared.Tally.{Tally}
use Rattle.alignment.specs.Alignments.{Identifier, is_aligned, is_unknown, is_temporary}
use Rattle.alignment_stored.specs.code.Stored.{identifier_at, stored_identifiers}
use Rattle.alignment_settle.specs.code.Tallies.{alignment_code, alignment_digits, no_tally, tally_with, tally_of}
use Rattle.alignment.specs.Numbers.{alignment_of, alignments_in}
use Rattle.verdict_cursor.specs.code.Standing.{passed_from}

-- ------------------------------------------------------------------ alignments as digits

-- the digits of an alignment and of others after it: the first, and what is left without it
first_digit : (a : Alignment) (p : ℕ) → alignment_of ((alignment_code a + 4 * p) % 4) ≡ a
unfolding alignment_code alignment_of
first_digit Alignment.NotJudged p = let e : (0 + 4 * p) % 4 ≡ 0 = omega arith in rw e
first_digit Alignment.Aligned p = let e : (1 + 4 * p) % 4 ≡ 1 = omega arith in rw e
first_digit Alignment.NotAligned p = let e : (2 + 4 * p) % 4 ≡ 2 = omega arith in rw e
first_digit Alignment.Unknown p = let e : (3 + 4 * p) % 4 ≡ 3 = omega arith in rw e

other_digits : (a : Alignment) (p : ℕ) → (alignment_code a + 4 * p) / 4 ≡ p
unfolding alignment_code
other_digits Alignment.NotJudged p = omega arith
other_digits Alignment.Aligned p = omega arith
other_digits Alignment.NotAligned p = omega arith
other_digits Alignment.Unknown p = omega arith

-- digits that were alignments, read
pub packed_read : (l : List Alignment) → alignments_in (length l) (alignment_digits l) ≡ l
unfolding alignment_digits alignments_in
packed_read [] = refl
packed_read (a ∷ l) = rw (first_digit a (alignment_digits l), other_digits a (alignment_digits l), packed_read l)

-- and digits again, where none is judged
pub none_packed : (n : ℕ) → 0 ≡ alignment_digits (alignments_in n 0)
unfolding alignment_digits alignments_in alignment_of alignment_code
none_packed zero = refl
none_packed (suc n) = rw (← none_packed n)

-- "each alignment reads not judged"
pub none_judged : {A : Type 0} (l : List A) → alignments_in (length l) 0 ≡ map (λ _. Alignment.NotJudged) l
unfolding alignments_in alignment_of
none_judged [] = refl
none_judged (x ∷ l) = ap (λ r. Alignment.NotJudged ∷ r) (none_judged l)

-- ------------------------------------------------------------------ a tally of alignments

-- of identifiers and their alignments
unfoldable pub tallied : List Identifier → List Alignment → Tally
tallied is l = record {
  digits = alignment_digits l;
  aligned = any is_aligned l;
  unknown = any is_unknown l;
  temporary = any (λ i. is_temporary i.outcome) is;
}

-- each with its own
pub tally_tallied : (f : Identifier × Stored → Alignment) (ws : List (Identifier × Stored)) → tally_of (map (λ w. (w.0, f w)) ws) ≡ tallied (map (λ w. w.0) ws) (map f ws)
unfolding tally_of no_tally tally_with tallied alignment_digits any
tally_tallied f [] = refl
tally_tallied f (w ∷ ws) = rw (tally_tallied f ws)

-- ------------------------------------------------------------------ the identifiers with what is stored of them

module _ (domains : Octets) (numbers stored : List ℕ) where
  pub passed_identifiers : (walk count : ℕ) → map (λ w. w.0) (passed_from domains numbers stored walk count) ≡ stored_identifiers domains numbers walk count
  unfolding passed_from stored_identifiers
  passed_identifiers walk zero = refl
  passed_identifiers walk (suc n) = ap (λ l. identifier_at domains numbers walk ∷ l) (passed_identifiers (walk + 1) n)

  -- as many alignments as identifiers
  pub passed_length : {A : Type 0} (f : Identifier × Stored → A) (walk count : ℕ) → length (map f (passed_from domains numbers stored walk count)) ≡ length (stored_identifiers domains numbers walk count)
  unfolding passed_from stored_identifiers
  passed_length f walk zero = refl
  passed_length f walk (suc n) = ap suc (passed_length f (walk + 1) n)
