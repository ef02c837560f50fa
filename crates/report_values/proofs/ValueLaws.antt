-- Laws of one octet of a number, as a step of the program that reads it.
use mathlib.Core.Path.{◌≡◌, refl, sym, ap, ◌∙◌}
use mathlib.Core.Bool.{Bool, true, false, ◌&&◌, ◌||◌, not, false≢true}
use Prim.Native.Nat.{ℕ, zero, suc, ◌+◌, ◌-◌, ◌*◌, ◌/◌, ◌≤◌, ◌<◌}
use native.Mathlib.Omega.{arith}
use lib.Dec.{eqb, leb}
use lib.ListN.{length}
use borrow.Author.Tests.{leb-true, eqb-false}
use Rattle.std.specs.Option.{is_some, unwrap_or}
use Rattle.std.specs.Prelude.{if◌then◌else◌, Option, None, Some}
use Rattle.octets.specs.Octets.{is_digit, between}
use Rattle.octets.specs.Decimal.{decimal}
use Rattle.octets.proofs.DecimalLaws.{length_one, length_more}
use Rattle.parsing.specs.Reads.{done}
use Rattle.parsing_steps.specs.Stepping.{on, refused, step_of}
use Rattle.report_form.specs.ReportForm.{Said}
use Rattle.report_form.specs.code.ReportReading.{digit_refused, number_refused, digits_more as number_from}
use Rattle.report_form.proofs.NumberLaws.{decimal_few}
use Rattle.report_steps.specs.code.Steps.{turn_by, number_turn, refusal_number}
use Rattle.report_states.specs.Standing.{digits_of, number_left}
use Rattle.report_leaves.specs.code.Leaves.{said}

module _ (least most floor value : ℕ) (some : Bool) (x : ℕ) where
  abbrev refuses : Option ℕ
  refuses = number_refused least most (leb floor) value some x

  stuck_at : (n m : ℕ) → refuses ≡ Some m → step_of (number_from {R = Said} n least most (leb floor) value some) x ≡ refused m
  unfolding number_from step_of
  stuck_at zero m e = rw (e, step_of) refl
  stuck_at (suc n) m e = rw (e, step_of) refl

  ended_at : (n : ℕ) → refuses ≡ None → eqb x 60 ≡ true → step_of (number_from {R = Said} n least most (leb floor) value some) x ≡ on (done value)
  unfolding number_from step_of
  ended_at zero e f = rw (e, step_of) refl
  ended_at (suc n) e f = rw (e, step_of) (rw f refl)

  on_at : (n : ℕ) → refuses ≡ None → eqb x 60 ≡ false → step_of (number_from {R = Said} (suc n) least most (leb floor) value some) x ≡ on (number_from n least most (leb floor) (value * 10 + (x - 48)) true)
  unfolding number_from step_of
  on_at n e f = rw (e, step_of) (rw f refl)

  abbrev Next : Bool
  Next = is_digit x && not (some && eqb value 0) && (some || leb least (x - 48))

  is_nine : is_digit x ≡ true → x ≤ 57
  unfolding is_digit between
  is_nine e = go (leb 48 x) e
    where
      go : (b : Bool) → (b && leb x 57) ≡ true → x ≤ 57
      go true f = leb-true x 57 f
      go false f = absurd (false≢true f)

  next_digit : Next ≡ true → x ≤ 57
  next_digit e = go (is_digit x) refl e
    where
      go : (b : Bool) → is_digit x ≡ b → (b && not (some && eqb value 0) && (some || leb least (x - 48))) ≡ true → x ≤ 57
      go true f g = is_nine f
      go false f g = absurd (false≢true g)

  next_value : Next ≡ true → some ≡ true → 0 < value
  next_value e s = go (eqb value 0) refl
    where
      and_false : (b c : Bool) → (b && false && c) ≡ true → ⊥
      and_false true c q = false≢true q
      and_false false c q = false≢true q

      go : (b : Bool) → eqb value 0 ≡ b → 0 < value
      go true f = let q : (is_digit x && false && true) ≡ true = rw (s, f) at e in absurd (and_false (is_digit x) true q)
      go false f = let h = eqb-false value 0 f in omega (arith, h)

  -- a digit more, a turn less
  less : Next ≡ true → value * 10 + (x - 48) ≤ most → (some ≡ false → value ≡ 0) → suc most - digits_of value some ≡ suc (suc most - digits_of (value * 10 + (x - 48)) true)
  unfolding digits_of
  less e h z = go some refl
    where
      low : x ≤ 57
      low = next_digit e

      go : (b : Bool) → some ≡ b → suc most - (if b then length (decimal value) else 0) ≡ suc (suc most - length (decimal (value * 10 + (x - 48))))
      go true s =
          let v = next_value e s in
          let same : (value * 10 + (x - 48)) / 10 ≡ value = omega (arith, low) in
          let l = length_more (value * 10 + (x - 48)) (omega (arith, v)) ∙ ap (λ k. length (decimal k) + 1) same in
          let few = decimal_few value in
          omega (arith, l, few, h, v)
      go false s =
          let v = z s in
          let l = length_one (value * 10 + (x - 48)) (omega (arith, low, v)) in
          omega (arith, l)

  -- what is said of an octet is the program's step
  pub said_of : (some ≡ false → value ≡ 0)
      → step_of (number_from {R = Said} (suc most - digits_of value some) least most (leb floor) value some) x ≡ said (λ v. number_left least most floor v true) value (turn_by refuses value x)
  unfolding turn_by number_refused digit_refused said refusal_number number_left
  said_of z = go (eqb x 60) refl (some && leb floor value) refl Next refl (leb (value * 10 + (x - 48)) most) refl
    where
      go : (b : Bool) → eqb x 60 ≡ b → (c : Bool) → (some && leb floor value) ≡ c → (d : Bool) → Next ≡ d → (f : Bool) → leb (value * 10 + (x - 48)) most ≡ f
          → step_of (number_from {R = Said} (suc most - digits_of value some) least most (leb floor) value some) x ≡ said (λ v. number_left least most floor v true) value (turn_by refuses value x)
      go true p true q d s f t = ended_at _ (rw (p, q) refl) p ∙ rw (p, q) (rw p refl)
      go true p false q d s f t = stuck_at _ 20 (rw (p, q) refl) ∙ rw (p, q) refl
      go false p c q false s f t = stuck_at _ 20 (rw (p, s) refl) ∙ rw (p, s) refl
      go false p c q true s false t = stuck_at _ 21 (rw (p, s, t) refl) ∙ rw (p, s, t) refl
      go false p c q true s true t = ap (λ n. step_of (number_from {R = Said} n least most (leb floor) value some) x) (less s (leb-true _ _ t) z) ∙ on_at _ (rw (p, s, t) refl) p ∙ rw (p, s, t) (rw p refl)

pub value_said : (least most floor : ℕ) (so_far : Option ℕ) (x : ℕ)
    → step_of (number_left {R = Said} least most floor (unwrap_or so_far 0) (is_some so_far)) x ≡ said (λ v. number_left least most floor v true) (unwrap_or so_far 0) (number_turn least most floor (unwrap_or so_far 0) (is_some so_far) x)
unfolding number_left number_turn
value_said least most floor None x = said_of least most floor 0 false x (λ q. refl)
value_said least most floor (Some value) x = said_of least most floor value true x (λ q. absurd (false≢true (sym q)))
