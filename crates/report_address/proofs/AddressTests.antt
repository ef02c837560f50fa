-- Laws of the tests of an open address.
use mathlib.Core.Path.{◌≡◌, refl, ◌∙◌}
use mathlib.Core.List.{List, [], ◌∷◌}
use mathlib.Core.Bool.{Bool, true, false, ◌&&◌, ◌||◌, not, false≢true}
use Prim.Native.Nat.{ℕ, zero, suc, ◌-◌, ◌≤◌}
use native.Mathlib.Omega.{arith}
use lib.Dec.{eqb, leb, ltb}
use lib.ListN.{length}
use borrow.Author.Tests.{lt-ltb, lt-leb, ne_eqb, leb-true}
use Rattle.octets.specs.Octets.{same, is_digit, between}
use Rattle.report_form.specs.code.ReportReading.{can_be_dotted, can_be_grouped, digit_value, lower_hex as hex_digit, only_zero, goes_on_dotted, goes_on_grouped, last_number, is_last, ends_number}
use Rattle.report_address.specs.code.Addresses.{kind_of, address_of, only_zero_in, dotted_on, grouped_on, ends_in}

-- the tests are the program's
pub dotted_is : (kind digits ten sixteen : ℕ) (before : List ℕ) (x : ℕ) → dotted_on kind digits ten sixteen x ≡ goes_on_dotted (address_of kind digits ten sixteen before) x
unfolding dotted_on goes_on_dotted address_of only_zero only_zero_in
dotted_is kind digits ten sixteen before x = refl

pub grouped_is : (kind digits ten sixteen : ℕ) (before : List ℕ) (x : ℕ) → grouped_on kind (same before (0 ∷ 0 ∷ 0 ∷ 0 ∷ 0 ∷ [])) digits sixteen x ≡ goes_on_grouped (address_of kind digits ten sixteen before) x
unfolding grouped_on goes_on_grouped address_of only_zero only_zero_in
grouped_is kind digits ten sixteen before x = refl

pub ends_is : (kind digits ten sixteen : ℕ) (before : List ℕ) (x : ℕ) → ends_in kind (length before) digits x ≡ ends_number (address_of kind digits ten sixteen before) x
unfolding ends_in ends_number address_of
ends_is kind digits ten sixteen before x = refl

-- ------------------------------------------------------------------ kinds

pub dots : (k : ℕ) → leb k 1 ≡ can_be_dotted (kind_of k)
unfolding can_be_dotted kind_of
dots zero = refl
dots (suc zero) = refl
dots (suc (suc k)) = rw (lt-leb (suc (suc k)) 1 (omega arith), ne_eqb (suc (suc k)) 0 (λ q. omega (arith, q)), ne_eqb (suc (suc k)) 1 (λ q. omega (arith, q)), can_be_dotted) refl

pub groups : (k : ℕ) → not (eqb k 1) ≡ can_be_grouped (kind_of k)
unfolding can_be_grouped kind_of
groups zero = refl
groups (suc zero) = refl
groups (suc (suc k)) = rw (ne_eqb (suc (suc k)) 0 (λ q. omega (arith, q)), ne_eqb (suc (suc k)) 1 (λ q. omega (arith, q)), can_be_grouped) refl

module _ (k n : ℕ) where
  pub last_either : k ≡ 0 → false ≡ is_last (kind_of k) n
  unfolding is_last kind_of last_number
  last_either e = rw e refl

  pub last_dotted : k ≡ 1 → eqb n 3 ≡ is_last (kind_of k) n
  unfolding is_last kind_of last_number
  last_dotted e = rw e refl

  pub last_grouped : (k ≡ 0 → ⊥) → (k ≡ 1 → ⊥) → eqb n 7 ≡ is_last (kind_of k) n
  unfolding is_last kind_of last_number
  last_grouped e f = rw (ne_eqb k 0 e, ne_eqb k 1 f, is_last) refl

-- ------------------------------------------------------------------ digits

module _ (x : ℕ) where
  pub hex_low : is_digit x ≡ true → true ≡ hex_digit x
  unfolding hex_digit
  hex_low e = rw e refl

  pub hex_high : is_digit x ≡ false → between 97 102 x ≡ hex_digit x
  unfolding hex_digit
  hex_high e = rw e refl

  pub value_low : is_digit x ≡ true → x - 48 ≡ digit_value x
  unfolding digit_value
  value_low e = rw e refl

  pub value_high : is_digit x ≡ false → x - 87 ≡ digit_value x
  unfolding digit_value
  value_high e = rw e refl

-- ------------------------------------------------------------------ the end of a number

or_false : (b : Bool) → b ≡ (b || false)
or_false true = refl
or_false false = refl

module _ (kind numbers digits x : ℕ) where
  pub end_none : digits ≡ 0 → false ≡ ends_in kind numbers digits x
  unfolding ends_in
  end_none e = rw e refl

  some : (digits ≡ 0 → ⊥) → ltb 0 digits ≡ true
  some e = lt-ltb 0 digits (omega (arith, e))

  pub end_less : (digits ≡ 0 → ⊥) → x ≡ 60 → is_last (kind_of kind) numbers ≡ ends_in kind numbers digits x
  unfolding ends_in
  end_less e f = rw (some e, f) (or_false _ ∙ or_false _)

  pub end_dot : (digits ≡ 0 → ⊥) → x ≡ 46 → can_be_dotted (kind_of kind) ≡ true → ltb numbers 3 ≡ ends_in kind numbers digits x
  unfolding ends_in
  end_dot e f g = rw (some e, f, g) (or_false _)

  pub end_no_dot : (digits ≡ 0 → ⊥) → x ≡ 46 → can_be_dotted (kind_of kind) ≡ false → false ≡ ends_in kind numbers digits x
  unfolding ends_in
  end_no_dot e f g = rw (some e, f, g) refl

  pub end_colon : (digits ≡ 0 → ⊥) → x ≡ 58 → can_be_grouped (kind_of kind) ≡ true → ltb numbers 7 ≡ ends_in kind numbers digits x
  unfolding ends_in
  end_colon e f g = rw (some e, f, g) refl

  pub end_no_colon : (digits ≡ 0 → ⊥) → x ≡ 58 → can_be_grouped (kind_of kind) ≡ false → false ≡ ends_in kind numbers digits x
  unfolding ends_in
  end_no_colon e f g = rw (some e, f, g) refl

  pub end_other : (digits ≡ 0 → ⊥) → (x ≡ 60 → ⊥) → (x ≡ 46 → ⊥) → (x ≡ 58 → ⊥) → false ≡ ends_in kind numbers digits x
  unfolding ends_in
  end_other e f g h = rw (some e, ne_eqb x 60 f, ne_eqb x 46 g, ne_eqb x 58 h) refl

pub digit_low : (x : ℕ) → is_digit x ≡ true → 48 ≤ x
unfolding is_digit between
digit_low x e = go (leb 48 x) refl e
  where
    go : (c : Bool) → leb 48 x ≡ c → (c && leb x 57) ≡ true → 48 ≤ x
    go true f g = leb-true 48 x f
    go false f g = absurd (false≢true g)
