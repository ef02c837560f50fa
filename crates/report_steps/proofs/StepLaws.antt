-- Laws of one octet of a number.
use Rattle.std.specs.Prelude.{None, Some, Ok, Err}
use mathlib.Core.Path.{◌≡◌, refl}
use mathlib.Core.Logic.{◌⊎◌, inl, inr}
use mathlib.Core.List.{◌∷◌}
use mathlib.Core.Bool.{Bool, true, false, ◌&&◌, ◌||◌, not, false≢true}
use Prim.Native.Nat.{ℕ, suc, ◌+◌, ◌-◌, ◌*◌, ◌≤◌, ◌<◌}
use lib.Dec.{eqb, leb}
use borrow.Author.Tests.{leb-true, le-leb, lt-leb, eq-eqb, ne_eqb}
use Rattle.octets.specs.Octets.{Octets, is_digit, between}
use Rattle.octets.specs.Refusing.{refusal}
use Rattle.parsing.specs.Reads.{Reads, ◌>>=◌, stuck, stands, run}
use Rattle.report_form.specs.code.ReportReading.{digit_refused, number_refused, digits_more as number_from}
use Rattle.report_steps.specs.declared.Leaf.{Leaf}
use Rattle.report_steps.specs.declared.Refusal.{Refusal}
use Rattle.report_steps.specs.code.Steps.{turn_by, number_turn}

-- ------------------------------------------------------------------ a digit

module _ (least value : ℕ) (some : Bool) (x : ℕ) where
  abbrev pub Next : Bool
  Next = is_digit x && not (some && eqb value 0) && (some || leb least (x - 48))

  pub no_digit : is_digit x ≡ false → false ≡ Next
  no_digit d = rw d refl

  pub behind : is_digit x ≡ true → some ≡ true → not (eqb value 0) ≡ Next
  behind d e = rw (d, e) (and_true (not (eqb value 0)))
    where
      and_true : (b : Bool) → b ≡ (b && true)
      and_true true = refl
      and_true false = refl

  pub at_first : is_digit x ≡ true → some ≡ false → leb least (x - 48) ≡ Next
  at_first d e = rw (d, e) refl

  pub is_low : Next ≡ true → 48 ≤ x
  unfolding is_digit between
  is_low e = go (leb 48 x) refl
    where
      go : (b : Bool) → leb 48 x ≡ b → 48 ≤ x
      go true f = leb-true 48 x f
      go false f = let z : false ≡ true = rw f at e in absurd (false≢true z)

-- ------------------------------------------------------------------ what it says

module _ (least most floor value : ℕ) (some : Bool) (x : ℕ) where
  pub ended : x ≡ 60 → some ≡ true → floor ≤ value → Ok Leaf.Ended ≡ number_turn least most floor value some x
  unfolding number_turn number_refused turn_by
  ended e f h = rw (eq-eqb x 60 e, f, le-leb floor value h) (rw (eq-eqb x 60 e) refl)

  pub not_yet : x ≡ 60 → ((some ≡ true) × (value < floor)) ⊎ (some ≡ false) → Err Refusal.Outside ≡ number_turn least most floor value some x
  unfolding number_turn number_refused turn_by
  not_yet e (inl (f, h)) = rw (eq-eqb x 60 e, f, lt-leb floor value h) refl
  not_yet e (inr f) = rw (eq-eqb x 60 e, f) refl

  pub outside : (x ≡ 60 → ⊥) → Next least value some x ≡ false → Err Refusal.Outside ≡ number_turn least most floor value some x
  unfolding number_turn number_refused digit_refused turn_by
  outside e f = rw (ne_eqb x 60 e, f) refl

  pub over : (x ≡ 60 → ⊥) → Next least value some x ≡ true → leb (value * 10 + (x - 48)) most ≡ false → Err Refusal.Over ≡ number_turn least most floor value some x
  unfolding number_turn number_refused digit_refused turn_by
  over e f g = rw (ne_eqb x 60 e, f, g) refl

  pub goes_on : (x ≡ 60 → ⊥) → Next least value some x ≡ true → leb (value * 10 + (x - 48)) most ≡ true
      → Ok (Leaf.More (value * 10 + (x - 48))) ≡ number_turn least most floor value some x
  unfolding number_turn number_refused digit_refused turn_by
  goes_on e f g = rw (ne_eqb x 60 e, f, g) (rw (ne_eqb x 60 e) refl)

-- ------------------------------------------------------------------ the program after it

module _ {R B : Type 0} (k : ℕ → Reads R B) (n least most floor value : ℕ) (some : Bool) (at x : ℕ) (s : Octets) where
  abbrev program : Reads R B
  program = number_from (suc n) least most (leb floor) value some >>= k

  -- refused: the reader is stuck there
  pub turn_stuck : (m : ℕ) → number_refused least most (leb floor) value some x ≡ Some m → run at program (x ∷ s) ≡ stands at (stuck (refusal m at))
  unfolding run number_from ◌>>=◌
  turn_stuck m e = rw (e, run)

  pub turn_ended : number_refused least most (leb floor) value some x ≡ None → eqb x 60 ≡ true → run at program (x ∷ s) ≡ run (suc at) (k value) s
  unfolding run number_from ◌>>=◌
  turn_ended e f = rw (e, f, run)

  pub turn_on : number_refused least most (leb floor) value some x ≡ None → eqb x 60 ≡ false
      → run at program (x ∷ s) ≡ run (suc at) (number_from n least most (leb floor) (value * 10 + (x - 48)) true >>= k) s
  unfolding run number_from ◌>>=◌
  turn_on e f = rw (e, f, run)
