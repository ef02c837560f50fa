-- A number that is read is one in decimal.
use Rattle.std.specs.Prelude.{Option, None}
use mathlib.Core.Path.{◌≡◌, refl, sym, ap, ◌∙◌, subst}
use mathlib.Core.List.{[], ◌∷◌, ◌++◌, append_assoc}
use mathlib.Core.Bool.{Bool, true, false, true≢false}
use Prim.Native.Nat.{ℕ, zero, suc, ◌+◌, ◌-◌, ◌*◌, ◌/◌, ◌%◌, ◌≤◌, ◌<◌}
use native.Mathlib.Omega.{arith}
use lib.Dec.{ltb}
use lib.ListN.{length, length-append}
use borrow.Author.Tests.{le-leb, ne_eqb, ltb-true, ltb-false}
use Rattle.octets.specs.Octets.{Octets, is_digit, between}
use Rattle.octets.specs.Decimal.{digits, decimal}
use Rattle.octets.proofs.DecimalLaws.{decimal_one, decimal_more}
use Rattle.octets.specs.Refusing.{refusal}
use Rattle.parsing.specs.Reads.{Reads, next, ◌>>=◌, stuck, Fed, stands, run}
use Rattle.parsing.specs.code.Whole.{Whole}
use Rattle.parsing.proofs.ReadsLaws.{run_on, run_stuck}
use Rattle.report_form.specs.ReportForm.{Said}
use Rattle.report_form.specs.code.ReportReading.{digit_refused, number_refused, digits_more as number_from, reading_number as number}

-- no number has more digits than itself and one
digits_few : (n x : ℕ) → length (digits n x) ≤ n
unfolding digits
digits_few zero x = omega arith
digits_few (suc n) x = go (ltb x 10) (digits_few n (x / 10))
  where
    go : (b : Bool) → length (digits n (x / 10)) ≤ n → length {A = ℕ} (elim b as (λ _. Octets) [ true ↦ (48 + x) ∷ [] | false ↦ digits n (x / 10) ++ ((48 + x % 10) ∷ []) ]) ≤ suc n
    go true h = omega arith
    go false h = omega (arith, h, length-append (digits n (x / 10)) ((48 + x % 10) ∷ []))

pub decimal_few : (x : ℕ) → length (decimal x) ≤ suc x
unfolding decimal
decimal_few x = digits_few (suc x) x

-- refused 20 at a place, no row handed out
abbrev pub refused_at : {A : Type 0} → ℕ → Fed Said A
refused_at at = stands at (stuck (refusal 20 at))

module _ (least most : ℕ) (ends : ℕ → Bool) (small : least ≤ 1) where
  -- a digit that is taken: the first of all, or one behind a number that is not 0
  digit_taken : (value : ℕ) (some : Bool) (d : ℕ) → d < 10 → (some ≡ true → 0 < value) → (some ≡ false → (value ≡ 0) × (least ≤ d)) → value * 10 + d ≤ most → number_refused least most ends value some (48 + d) ≡ None
  unfolding number_refused digit_refused is_digit between
  digit_taken value true d h p z m = rw (ne_eqb (48 + d) 60 (λ e. absurd (omega (arith, e, h))), le-leb 48 (48 + d) (omega arith), le-leb (48 + d) 57 (omega (arith, h)), ne_eqb value 0 (λ e. absurd (omega (arith, e, p refl))), le-leb (value * 10 + (48 + d - 48)) most (omega (arith, m)))
  digit_taken value false d h p z m = rw (ne_eqb (48 + d) 60 (λ e. absurd (omega (arith, e, h))), le-leb 48 (48 + d) (omega arith), le-leb (48 + d) 57 (omega (arith, h)), le-leb least (48 + d - 48) (omega (arith, (z refl).1)), le-leb (value * 10 + (48 + d - 48)) most (omega (arith, m)))

  -- what holds at an octet that is taken if it holds behind it, holds before a number's digits if it does behind them
  module _ (P : Reads Said ℕ → Octets → Type 0) (further : (refuses : ℕ → Option ℕ) (k : ℕ → Reads Said ℕ) (x : ℕ) (s : Octets) → refuses x ≡ None → P (k x) s → P (next refuses k) (x ∷ s)) where
    digit_step : (n value : ℕ) (some : Bool) (d : ℕ) (rest : Octets) → d < 10 → (some ≡ true → 0 < value) → (some ≡ false → (value ≡ 0) × (least ≤ d)) → value * 10 + d ≤ most
        → P (number_from n least most ends (value * 10 + d) true) rest → P (number_from (suc n) least most ends value some) ((48 + d) ∷ rest)
    unfolding number_from
    digit_step n value some d rest h p z m w =
        let same : value * 10 + d ≡ value * 10 + (48 + d - 48) = omega arith in
        further (number_refused least most ends value some) _ (48 + d) rest (digit_taken value some d h p z m)
        (rw (ne_eqb (48 + d) 60 (λ e. absurd (omega (arith, e, h)))) (subst (λ v. P (number_from n least most ends v true) rest) same w))

    one_digit : (x n k : ℕ) (rest : Octets) → x < 10 → least ≤ x → x ≤ most → k ≡ length (decimal x) + n
        → P (number_from n least most ends x true) rest → P (number_from k least most ends 0 false) (decimal x ++ rest)
    one_digit x n k rest h l m c w =
        let is : decimal x ≡ (48 + x) ∷ [] = decimal_one x h in
        let count : suc n ≡ k = omega (arith, c, ap length is) in
        let value : x ≡ 0 * 10 + x = omega arith in
        subst (λ s. P (number_from k least most ends 0 false) (s ++ rest)) (sym is)
        (subst (λ z. P (number_from z least most ends 0 false) ((48 + x) ∷ rest)) count
        (digit_step n 0 false x rest h (λ e. absurd (true≢false (sym e))) (λ e. (refl, l)) (omega (arith, m))
        (subst (λ v. P (number_from n least most ends v true) rest) value w)))

    -- the digits of a number, from nothing
    digits_read : (bound x n k : ℕ) (rest : Octets) → x ≤ bound → least ≤ x → x ≤ most → k ≡ length (decimal x) + n
        → P (number_from n least most ends x true) rest → P (number_from k least most ends 0 false) (decimal x ++ rest)
    digits_read zero x n k rest b l m c w = one_digit x n k rest (omega (arith, b)) l m c w
    digits_read (suc bound) x n k rest b l m c w = go (ltb x 10) refl (digits_read bound (x / 10) (suc n) k ((48 + x % 10) ∷ rest))
      where
        Front : Type 0
        Front = x / 10 ≤ bound → least ≤ x / 10 → x / 10 ≤ most → k ≡ length (decimal (x / 10)) + suc n
            → P (number_from (suc n) least most ends (x / 10) true) ((48 + x % 10) ∷ rest) → P (number_from k least most ends 0 false) (decimal (x / 10) ++ ((48 + x % 10) ∷ rest))

        go : (t : Bool) → ltb x 10 ≡ t → Front → P (number_from k least most ends 0 false) (decimal x ++ rest)
        go true e h = one_digit x n k rest (ltb-true x 10 e) l m c w
        go false e h =
            let big : 10 ≤ x = ltb-false x 10 e in
            let is : decimal x ≡ decimal (x / 10) ++ ((48 + x % 10) ∷ []) = decimal_more x big in
            let value : x ≡ (x / 10) * 10 + x % 10 = omega arith in
            subst (λ s. P (number_from k least most ends 0 false) s) (sym (ap (λ s. s ++ rest) is ∙ append_assoc (decimal (x / 10)) ((48 + x % 10) ∷ []) rest))
            (h (omega (arith, b, big)) (omega (arith, big, small)) (omega (arith, m)) (omega (arith, c, ap length is, length-append (decimal (x / 10)) ((48 + x % 10) ∷ [])))
            (digit_step n (x / 10) true (x % 10) rest (omega arith) (λ f. omega (arith, big)) (λ f. absurd (true≢false f)) (omega (arith, m, value))
            (subst (λ v. P (number_from n least most ends v true) rest) value w)))

    number_read : (x : ℕ) (rest : Octets) → least ≤ x → x ≤ most → ((n : ℕ) → P (number_from n least most ends x true) rest) → P (number least most ends) (decimal x ++ rest)
    unfolding number
    number_read x rest l m w =
        let few : length (decimal x) ≤ suc x = decimal_few x in
        digits_read x x (suc most - length (decimal x)) (suc most) rest (omega arith) l m (omega (arith, few, m)) (w (suc most - length (decimal x)))

  number_ends : (n x : ℕ) → ends x ≡ true → Whole {R = Said} (number_from n least most ends x true) (60 ∷ []) [] x
  unfolding number_from number_refused Whole
  number_ends zero x e = (60, [], refl, rw e, (refl, refl, refl))
  number_ends (suc n) x e = (60, [], refl, rw e, (refl, refl, refl))

  -- a number, and the `<` after it
  pub whole_number : (x : ℕ) → least ≤ x → x ≤ most → ends x ≡ true → Whole {R = Said} (number least most ends) (decimal x ++ (60 ∷ [])) [] x
  unfolding Whole
  whole_number x l m e = number_read (λ t s. Whole t s [] x) (λ refuses k y s f w. (y, s, refl, f, w)) x (60 ∷ []) l m (λ n. number_ends n x e)

  -- a number that does not pass its test is refused 20, at the `<` after it
  module _ {A : Type 0} (f : ℕ → Reads Said A) where
    number_fails : (n x at : ℕ) (v : Octets) → ends x ≡ false → run at (number_from n least most ends x true >>= f) (60 ∷ v) ≡ refused_at at
    unfolding number_from number_refused ◌>>=◌
    number_fails zero x at v e = run_stuck at _ _ 60 v 20 (rw e)
    number_fails (suc n) x at v e = run_stuck at _ _ 60 v 20 (rw e)

    pub refused_number : (x : ℕ) → least ≤ x → x ≤ most → ends x ≡ false → (at : ℕ) (v : Octets)
        → run at (number least most ends >>= f) (decimal x ++ (60 ∷ v)) ≡ refused_at (at + length (decimal x))
    unfolding ◌>>=◌
    refused_number x l m e at v =
        number_read (λ t s. (i : ℕ) → i + length s ≡ at + length (decimal x) + suc (length v) → run i (t >>= f) s ≡ refused_at (at + length (decimal x)))
        (λ refuses k y s g w i h. run_on i refuses (λ z. k z >>= f) y s g ∙ w (suc i) (omega (arith, h)))
        x (60 ∷ v) l m (λ n i h. number_fails n x i v e ∙ ap refused_at (omega (arith, h)))
        at (omega (arith, length-append (decimal x) (60 ∷ v)))
