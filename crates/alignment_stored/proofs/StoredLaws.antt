-- Laws of stored identifiers.
use mathlib.Core.Path.{◌≡◌, refl, ap}
use mathlib.Core.List.{List, [], ◌∷◌}
use Prim.Native.Nat.{ℕ, zero, suc, ◌+◌, ◌*◌, ◌-◌, ◌≤◌, ◌<◌, min}
use native.Mathlib.Omega.{arith}
use lib.ListN.{length, take, drop, get_or, length-take, get_or-eq_default}
use borrow.Author.Tests.{le-leb, lt-leb}
use Rattle.octets.specs.Octets.{Octets, part_of, lower}
use Rattle.octets.proofs.TextLaws.{lower_length}
use Rattle.alignment.specs.declared.Kind.{Kind}
use Rattle.alignment.specs.declared.Outcome.{Outcome}
use Rattle.alignment_stored.specs.code.Stored.{number_at, slot, kind_in, outcome_in, identifier_at, stored_identifiers}

-- any number but 0 says DKIM
pub dkim_in : (n : ℕ) → (n ≡ 0 → ⊥) → Kind.Dkim ≡ kind_in n
unfolding kind_in
dkim_in zero h = absurd (h refl)
dkim_in (suc zero) h = refl
dkim_in (suc (suc n)) h = refl

-- any number but 1 and 2 says not passing
pub not_passing_in : (n : ℕ) → (n ≡ 1 → ⊥) → (n ≡ 2 → ⊥) → Outcome.NotPassing ≡ outcome_in n
unfolding outcome_in
not_passing_in zero h k = refl
not_passing_in (suc zero) h k = absurd (h refl)
not_passing_in (suc (suc zero)) h k = absurd (k refl)
not_passing_in (suc (suc (suc n))) h k = refl

module _ (numbers : List ℕ) (from walk : ℕ) where
  pub number_past : 16 < walk → number_at numbers from walk ≡ 0
  unfolding number_at
  number_past h = rw (lt-leb walk 16 h)

  pub number_short : walk ≤ 16 → length numbers ≤ from + walk → number_at numbers from walk ≡ 0
  unfolding number_at
  number_short h k = rw (le-leb walk 16 h, get_or-eq_default numbers 0 {n = from + walk} k)

  pub number_there : walk ≤ 16 → number_at numbers from walk ≡ get_or numbers (from + walk) 0
  unfolding number_at
  number_there h = rw (le-leb walk 16 h)

module _ (domains : Octets) (numbers : List ℕ) (walk : ℕ) where
  pub slot_past : 16 < walk → [] ≡ slot domains numbers walk
  unfolding slot
  slot_past h = rw (number_past numbers 0 walk h)

  pub slot_part : (size : ℕ) → size ≡ min (number_at numbers 0 walk) 253 → part_of domains (253 * walk) (253 * walk + size) ≡ slot domains numbers walk
  unfolding part_of slot
  slot_part size e =
      let same : 253 * walk + size - 253 * walk ≡ size = omega arith in
      rw (same, e)

  pub slot_size : length (slot domains numbers walk) ≤ 253
  unfolding slot
  slot_size = omega (arith, length-take (min (number_at numbers 0 walk) 253) (drop (253 * walk) domains))

  pub next_identifier : (more : ℕ) → 0 < more → stored_identifiers domains numbers walk more ≡ identifier_at domains numbers walk ∷ stored_identifiers domains numbers (walk + 1) (more - 1)
  unfolding stored_identifiers
  next_identifier more h =
      let count : more ≡ suc (more - 1) = omega arith in
      ap (stored_identifiers domains numbers walk) count

pub identifiers_length : (domains : Octets) (numbers : List ℕ) (walk count : ℕ) → length (stored_identifiers domains numbers walk count) ≡ count
unfolding stored_identifiers
identifiers_length domains numbers walk zero = refl
identifiers_length domains numbers walk (suc n) = ap suc (identifiers_length domains numbers (walk + 1) n)

-- the slot of a walk is a text in lower case, by its length and its octets
pub slot_of : (domains text : Octets) (numbers : List ℕ) (walk : ℕ) → length text ≤ 253 → number_at numbers 0 walk ≡ length text
    → take (length (lower text)) (drop (253 * walk) domains) ≡ lower text → slot domains numbers walk ≡ lower text
unfolding slot
slot_of domains text numbers walk h e f = let g : min (length text) 253 ≡ length (lower text) = omega (arith, lower_length text) in rw (e, g) f
