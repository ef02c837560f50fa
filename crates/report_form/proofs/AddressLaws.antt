-- Addresses, digit by digit: what a digit or a mark does to an open one.
use mathlib.Core.Path.{◌≡◌, refl, sym, ap, ◌∙◌}
use mathlib.Core.List.{List, [], ◌∷◌}
use mathlib.Core.Logic.{◌⊎◌, inl, inr}
use mathlib.Core.Bool.{Bool, true, false, ◌&&◌, ◌||◌, not, false≢true, true≢false}
use Prim.Native.Nat.{ℕ, zero, suc, ◌+◌, ◌*◌, ◌≤◌, ◌<◌}
use native.Mathlib.Omega.{arith}
use lib.Dec.{eqb, leb, ltb}
use borrow.Author.Tests.{eq-eqb, eqb-true, eqb-false, ne_eqb, ltb-true, ltb-false, lt-ltb, leb-true, le-leb}
use Rattle.octets.specs.Octets.{Octets, octets, same, between, is_digit}
use Rattle.report.specs.Xml.{hex_octet}
use Rattle.parsing.specs.Reads.{Reads}
use Rattle.parsing.specs.code.Whole.{Whole}
use Rattle.report_form.specs.ReportForm.{Said}
use Rattle.report_form.specs.code.ReportReading.{can_be_dotted, can_be_grouped, Address, digit_value, lower_hex as hex_digit, only_zero, goes_on_dotted, goes_on_grouped, ends_number, with_digit, source_of, digits_from}
use Rattle.report_form.proofs.WholeLaws.{whole_octet}
use Rattle.report_form.proofs.Telling.{whole_done}
use Rattle.report_form.proofs.TextBack.{both_true, not_false, and_off}
use Rattle.report_form.proofs.NumberBack.{digit_range}

-- ------------------------------------------------------------------ small numbers, all tried

all_below : ℕ → (ℕ → Bool) → Bool
all_below zero f = true
all_below (suc n) f = f n && all_below n f

below : (n : ℕ) (f : ℕ → Bool) → all_below n f ≡ true → (d : ℕ) → d < n → f d ≡ true
unfolding all_below
below zero f e d h = absurd (omega (arith, h))
below (suc n) f e d h = go (eqb d n) refl (below n f (both_true (f n) (all_below n f) e).1 d)
  where
    go : (c : Bool) → eqb d n ≡ c → (d < n → f d ≡ true) → f d ≡ true
    go true p i = ap f (eqb-true d n p) ∙ (both_true (f n) (all_below n f) e).0
    go false p i = i (less (λ q. eqb-false d n p q))
      where
        less : (d ≡ n → ⊥) → d < n
        less q = by (ltb d n) refl
          where
            by : (b : Bool) → ltb d n ≡ b → d < n
            by true r = ltb-true d n r
            by false r = let s = ltb-false d n r in absurd (q (omega (arith, s, h)))

not_it : (f : ℕ → Bool) (x m : ℕ) → f x ≡ true → f m ≡ false → eqb x m ≡ false
not_it f x m e g = go (eqb x m) refl
  where
    go : (c : Bool) → eqb x m ≡ c → eqb x m ≡ false
    go true p = absurd (false≢true (sym g ∙ ap f (sym (eqb-true x m p)) ∙ e))
    go false p = p

-- ------------------------------------------------------------------ hexadecimal digits

hex_known : ℕ → Bool
hex_known d = hex_digit (hex_octet d) && eqb (digit_value (hex_octet d)) d

hex_all : all_below 16 hex_known ≡ true
unfolding all_below hex_known hex_digit hex_octet digit_value is_digit between octets
hex_all = refl

pub hex_into : (d : ℕ) → d < 16 → (hex_digit (hex_octet d) ≡ true) × (digit_value (hex_octet d) ≡ d)
unfolding hex_known
hex_into d h = let (a, b) = both_true (hex_digit (hex_octet d)) (eqb (digit_value (hex_octet d)) d) (below 16 hex_known hex_all d h) in (a, eqb-true (digit_value (hex_octet d)) d b)

hex_spelled : ℕ → Bool
hex_spelled x = not (hex_digit x) || (eqb (hex_octet (digit_value x)) x && ltb (digit_value x) 16)

spelled_all : all_below 103 hex_spelled ≡ true
unfolding all_below hex_spelled hex_digit hex_octet digit_value is_digit between octets
spelled_all = refl

hex_small : (x : ℕ) → hex_digit x ≡ true → x < 103
unfolding hex_digit between
hex_small x e = go (is_digit x) refl
  where
    go : (c : Bool) → is_digit x ≡ c → x < 103
    go true p = omega (arith, (digit_range x p).1)
    go false p =
        let f : (leb 97 x && leb x 102) ≡ true = rw p at e in
        omega (arith, leb-true x 102 (both_true (leb 97 x) (leb x 102) f).1)

pub hex_back : (x : ℕ) → hex_digit x ≡ true → (hex_octet (digit_value x) ≡ x) × (digit_value x < 16)
unfolding hex_spelled
hex_back x e =
    let f : (eqb (hex_octet (digit_value x)) x && ltb (digit_value x) 16) ≡ true = rw e at (below 103 hex_spelled spelled_all x (hex_small x e)) in
    let (a, b) = both_true (eqb (hex_octet (digit_value x)) x) (ltb (digit_value x) 16) f in
    (eqb-true (hex_octet (digit_value x)) x a, ltb-true (digit_value x) 16 b)

pub digit_hex : (x : ℕ) → is_digit x ≡ true → hex_digit x ≡ true
unfolding hex_digit
digit_hex x e = rw e

pub digit_of : (d : ℕ) → d < 10 → (is_digit (48 + d) ≡ true) × (digit_value (48 + d) ≡ d)
unfolding digit_value is_digit between
digit_of d h = (rw (le-leb 48 (48 + d) (omega arith), le-leb (48 + d) 57 (omega (arith, h))), rw (le-leb 48 (48 + d) (omega arith), le-leb (48 + d) 57 (omega (arith, h))) (omega arith))

pub digit_back : (x : ℕ) → is_digit x ≡ true → (x ≡ 48 + digit_value x) × (digit_value x < 10)
unfolding digit_value
digit_back x e = let (a, b) = digit_range x e in (rw e (omega (arith, a)), rw e (omega (arith, a, b)))

pub mark_60 : hex_digit 60 ≡ false
unfolding hex_digit is_digit between
mark_60 = refl

mark_46 : hex_digit 46 ≡ false
unfolding hex_digit is_digit between
mark_46 = refl

mark_58 : hex_digit 58 ≡ false
unfolding hex_digit is_digit between
mark_58 = refl

-- ------------------------------------------------------------------ tests of an open address

abbrev pub five : List ℕ
five = 0 ∷ 0 ∷ 0 ∷ 0 ∷ 0 ∷ []

-- no mapped address comes of a group
unfoldable pub free : List ℕ → ℕ → Bool
free before g = not (same before five && eqb g 65535)

pub on_dotted : (a : Address) (x : ℕ) → can_be_dotted a.kind ≡ true → is_digit x ≡ true → only_zero a ≡ false → a.ten * 10 + digit_value x ≤ 255 → goes_on_dotted a x ≡ true
unfolding goes_on_dotted
on_dotted a x e f g h = rw (e, f, g) (le-leb (a.ten * 10 + digit_value x) 255 h)

pub dotted_on : (a : Address) (x : ℕ) → goes_on_dotted a x ≡ true → (can_be_dotted a.kind ≡ true) × (is_digit x ≡ true) × (only_zero a ≡ false) × (a.ten * 10 + digit_value x ≤ 255)
unfolding goes_on_dotted
dotted_on a x e =
    let (p, d) = both_true (can_be_dotted a.kind && is_digit x && not (only_zero a)) (leb (a.ten * 10 + digit_value x) 255) e in
    let (q, c) = both_true (can_be_dotted a.kind && is_digit x) (not (only_zero a)) p in
    let (r, b) = both_true (can_be_dotted a.kind) (is_digit x) q in
    (r, b, not_false (only_zero a) c, leb-true (a.ten * 10 + digit_value x) 255 d)

pub on_grouped : (a : Address) (x : ℕ) → can_be_grouped a.kind ≡ true → hex_digit x ≡ true → only_zero a ≡ false → free a.before (a.sixteen * 16 + digit_value x) ≡ true → goes_on_grouped a x ≡ true
unfolding goes_on_grouped free
on_grouped a x e f g h = rw (e, f, g) h

pub grouped_on : (a : Address) (x : ℕ) → goes_on_grouped a x ≡ true → (can_be_grouped a.kind ≡ true) × (hex_digit x ≡ true) × (only_zero a ≡ false) × (free a.before (a.sixteen * 16 + digit_value x) ≡ true)
unfolding goes_on_grouped free
grouped_on a x e =
    let z = not (same a.before five && eqb (a.sixteen * 16 + digit_value x) 65535) in
    let (p, d) = both_true (can_be_grouped a.kind && hex_digit x && not (only_zero a)) z e in
    let (q, c) = both_true (can_be_grouped a.kind && hex_digit x) (not (only_zero a)) p in
    let (r, b) = both_true (can_be_grouped a.kind) (hex_digit x) q in
    (r, b, not_false (only_zero a) c, d)

pub no_digit_yet : (a : Address) → a.digits ≡ 0 → only_zero a ≡ false
unfolding only_zero
no_digit_yet a e = rw e

pub not_only_zero : (a : Address) → (a.sixteen ≡ 0 → ⊥) → only_zero a ≡ false
unfolding only_zero
not_only_zero a h = rw (ne_eqb a.sixteen 0 h) (and_off (ltb 0 a.digits))

pub some_digit : (a : Address) → 0 < a.digits → only_zero a ≡ false → a.sixteen ≡ 0 → ⊥
unfolding only_zero
some_digit a h e f =
    let g : true ≡ false = rw (lt-ltb 0 a.digits h, eq-eqb a.sixteen 0 f) at e in true≢false g

no_end : (a : Address) (x : ℕ) → eqb x 60 ≡ false → eqb x 46 ≡ false → eqb x 58 ≡ false → ends_number a x ≡ false
unfolding ends_number
no_end a x e f g = rw (e, f, g) (and_off (ltb 0 a.digits))

pub digit_ends_none : (a : Address) (x : ℕ) → hex_digit x ≡ true → ends_number a x ≡ false
digit_ends_none a x e = no_end a x (not_it hex_digit x 60 e mark_60) (not_it hex_digit x 46 e mark_46) (not_it hex_digit x 58 e mark_58)

-- ------------------------------------------------------------------ whole texts, step by step

module _ (part : Address → ℕ → Reads Said Octets) where
  pub digit_on : (n : ℕ) (a : Address) (x : ℕ) (rest : Octets) (rs : List Said) (v : Octets) → hex_digit x ≡ true → (goes_on_dotted a x ≡ true) ⊎ (goes_on_grouped a x ≡ true)
      → Whole (digits_from n part (with_digit a x)) rest rs v → Whole (digits_from (suc n) part a) (x ∷ rest) rs v
  unfolding digits_from
  digit_on n a x rest rs v d g w =
      whole_octet (λ x. ends_number a x || goes_on_dotted a x || goes_on_grouped a x) _ x rest rs v (allowed (goes_on_dotted a x) (goes_on_grouped a x) g)
      (rw (not_it hex_digit x 60 d mark_60, digit_ends_none a x d) w)
    where
      allowed : (p q : Bool) → (p ≡ true) ⊎ (q ≡ true) → (ends_number a x || p || q) ≡ true
      allowed p q (inl e) = rw (digit_ends_none a x d, e)
      allowed p q (inr e) = rw (digit_ends_none a x d, e) (or_true p)
        where
          or_true : (b : Bool) → (b || true) ≡ true
          or_true true = refl
          or_true false = refl

  pub end_mark : (n : ℕ) (a : Address) → ends_number a 60 ≡ true → Whole (digits_from n part a) (60 ∷ []) [] (source_of a)
  unfolding digits_from
  end_mark zero a e = whole_octet (ends_number a) _ 60 [] [] (source_of a) e (whole_done (source_of a))
  end_mark (suc n) a e = whole_octet (λ x. ends_number a x || goes_on_dotted a x || goes_on_grouped a x) _ 60 [] [] (source_of a) (rw e) (whole_done (source_of a))

  pub end_part : (n : ℕ) (a : Address) (x : ℕ) (u : Octets) (rs : List Said) (v : Octets) → eqb x 60 ≡ false → ends_number a x ≡ true → Whole (part a x) u rs v → Whole (digits_from n part a) (x ∷ u) rs v
  unfolding digits_from
  end_part zero a x u rs v f e w = whole_octet (ends_number a) _ x u rs v e (rw f w)
  end_part (suc n) a x u rs v f e w = whole_octet (λ x. ends_number a x || goes_on_dotted a x || goes_on_grouped a x) _ x u rs v (rw e) (rw (f, e) w)
