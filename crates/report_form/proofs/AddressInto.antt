-- Addresses as Ask 9 writes them are read.
use mathlib.Core.Path.{◌≡◌, refl, sym, ap, ◌∙◌, subst}
use mathlib.Core.List.{List, [], ◌∷◌, ◌++◌, append_assoc}
use mathlib.Core.Logic.{◌⊎◌, inl, inr}
use mathlib.Core.Bool.{Bool, true, false, not}
use Prim.Native.Nat.{ℕ, zero, suc, ◌+◌, ◌*◌, ◌/◌, ◌%◌, ◌≤◌, ◌<◌}
use native.Mathlib.Omega.{arith}
use lib.Dec.{ltb}
use lib.ListN.{length, length-append}
use borrow.Author.Tests.{ne_eqb, ltb-true, ltb-false, lt-ltb, le-ltb}
use Rattle.std.specs.Prelude.{if◌then◌else◌}
use Rattle.octets.specs.Octets.{Octets, same}
use Rattle.octets.specs.Decimal.{decimal}
use Rattle.octets.proofs.DecimalLaws.{decimal_one, decimal_more}
use Rattle.report.specs.Xml.{hex_octet, hex_digits}
use Rattle.parsing.specs.Reads.{Reads}
use Rattle.parsing.specs.code.Whole.{Whole}
use Rattle.report_form.specs.ReportForm.{Said}
use Rattle.report_form.specs.code.ReportReading.{Kind, grouped, can_be_dotted, can_be_grouped, Address, digit_value, lower_hex as hex_digit, only_zero, goes_on_dotted, goes_on_grouped, with_digit, next_number, digits_from}
use Rattle.report_form.proofs.TextBack.{and_off}
use Rattle.report_form.proofs.AddressLaws.{five, free, on_dotted, on_grouped, no_digit_yet, not_only_zero, hex_into, digit_of, digit_hex, digit_on}

-- ten and sixteen are 0 together
unfoldable pub Zeros : Address → Type 0
Zeros a = (a.ten ≡ 0 → a.sixteen ≡ 0) × (a.sixteen ≡ 0 → a.ten ≡ 0)

pub zeros_more : (a : Address) (x : ℕ) → Zeros a → Zeros (with_digit a x)
unfolding Zeros with_digit
zeros_more a x z = (
  λ e.
      let t : a.ten ≡ 0 = omega (arith, e) in
      let s = z.0 t in omega (arith, e, s),
  λ e.
      let s : a.sixteen ≡ 0 = omega (arith, e) in
      let t = z.1 s in omega (arith, e, t),
)

pub zeros_ten : (b : Address) → Zeros b → b.sixteen ≡ 0 → b.ten ≡ 0
unfolding Zeros
zeros_ten b z s = z.1 s

pub zeros_sixteen : (b : Address) → Zeros b → b.ten ≡ 0 → b.sixteen ≡ 0
unfolding Zeros
zeros_sixteen b z s = z.0 s

-- an open number with no digit yet
pub record Fresh (a : Address) : Type 0 where
  pub none : a.digits ≡ 0
  pub ten_zero : a.ten ≡ 0
  pub sixteen_zero : a.sixteen ≡ 0

pub fresh_next : (k : Kind) (before : List ℕ) → Fresh (next_number k before)
unfolding next_number
fresh_next k before = record { none = refl; ten_zero = refl; sixteen_zero = refl }

fresh_zeros : (a : Address) → Fresh a → Zeros a
unfolding Zeros
fresh_zeros a f = (λ _. f.sixteen_zero, λ _. f.ten_zero)

-- ------------------------------------------------------------------ a number up to 255

pub record AtTen (a b : Address) (x : ℕ) : Type 0 where
  pub kind_stays : b.kind ≡ a.kind
  pub before_stays : b.before ≡ a.before
  pub ten_is : b.ten ≡ x
  pub some : 0 < b.digits
  pub zeros : Zeros b

pub with_dotted : (a : Address) (x : ℕ) → goes_on_dotted a x ≡ true → (with_digit a x).kind ≡ a.kind
unfolding with_digit
with_dotted a x e = rw e

pub with_before : (a : Address) (x : ℕ) → (with_digit a x).before ≡ a.before
unfolding with_digit
with_before a x = refl

pub with_digits : (a : Address) (x : ℕ) → (with_digit a x).digits ≡ suc a.digits
unfolding with_digit
with_digits a x = refl

pub with_ten : (a : Address) (x : ℕ) → (with_digit a x).ten ≡ a.ten * 10 + digit_value x
unfolding with_digit
with_ten a x = refl

pub with_sixteen : (a : Address) (x : ℕ) → (with_digit a x).sixteen ≡ a.sixteen * 16 + digit_value x
unfolding with_digit
with_sixteen a x = refl

module _ (part : Address → ℕ → Reads Said Octets) where
  -- from one open address to another over a text
  unfoldable pub Over : Address → Address → Octets → Type 0
  Over a b s = (n : ℕ) (rest : Octets) (rs : List Said) (v : Octets) → Whole (digits_from n part b) rest rs v → Whole (digits_from (length s + n) part a) (s ++ rest) rs v

  over_digit : (a : Address) (x : ℕ) → hex_digit x ≡ true → (goes_on_dotted a x ≡ true) ⊎ (goes_on_grouped a x ≡ true) → Over a (with_digit a x) (x ∷ [])
  unfolding Over
  over_digit a x h g n rest rs v w = subst (λ k. Whole (digits_from k part a) (x ∷ rest) rs v) (one n) (digit_on part n a x rest rs v h g w)
    where
      one : (m : ℕ) → suc m ≡ length (x ∷ []) + m
      one m = omega arith

  over_more : (a b c : Address) (s u : Octets) → Over a b s → Over b c u → Over a c (s ++ u)
  unfolding Over
  over_more a b c s u p q n rest rs v w =
      let r = p (length u + n) (u ++ rest) rs v (q n rest rs v w) in
      let count : length s + (length u + n) ≡ length (s ++ u) + n = omega (arith, length-append s u) in
      subst (λ k. Whole (digits_from k part a) ((s ++ u) ++ rest) rs v) count (subst (λ z. Whole (digits_from (length s + (length u + n)) part a) z rs v) (sym (append_assoc s u rest)) r)

  ten_digit : (a : Address) (d : ℕ) → d < 10 → can_be_dotted a.kind ≡ true → only_zero a ≡ false → a.ten * 10 + d ≤ 255 → Zeros a → AtTen a (with_digit a (48 + d)) (a.ten * 10 + d) × Over a (with_digit a (48 + d)) ((48 + d) ∷ [])
  ten_digit a d h c z m zs =
      let (i, j) = digit_of d h in
      let on = on_dotted a (48 + d) c i z (subst (λ y. a.ten * 10 + y ≤ 255) (sym j) m) in (
        record {
          kind_stays = with_dotted a (48 + d) on;
          before_stays = with_before a (48 + d);
          ten_is = with_ten a (48 + d) ∙ ap (λ y. a.ten * 10 + y) j;
          some = omega (arith, with_digits a (48 + d));
          zeros = zeros_more a (48 + d) zs;
        },
        over_digit a (48 + d) (digit_hex (48 + d) i) (inl on),
      )

  one_ten : (a : Address) (x : ℕ) → x < 10 → Fresh a → can_be_dotted a.kind ≡ true → (b : Address) × AtTen a b x × Over a b (decimal x)
  one_ten a x h f c =
      let (p, q) = ten_digit a x h c (no_digit_yet a f.none) (omega (arith, h, f.ten_zero)) (fresh_zeros a f) in
      let value : a.ten * 10 + x ≡ x = omega (arith, f.ten_zero) in
      (with_digit a (48 + x), subst (AtTen a (with_digit a (48 + x))) value p, subst (Over a (with_digit a (48 + x))) (sym (decimal_one x h)) q)

  pub read_ten : (bound x : ℕ) → x ≤ bound → x ≤ 255 → (a : Address) → Fresh a → can_be_dotted a.kind ≡ true → (b : Address) × AtTen a b x × Over a b (decimal x)
  read_ten zero x l m a f c = one_ten a x (omega (arith, l)) f c
  read_ten (suc bound) x l m a f c = go (ltb x 10) refl (λ p q. read_ten bound (x / 10) p q a f c)
    where
      go : (t : Bool) → ltb x 10 ≡ t → (x / 10 ≤ bound → x / 10 ≤ 255 → (b : Address) × AtTen a b (x / 10) × Over a b (decimal (x / 10))) → (b : Address) × AtTen a b x × Over a b (decimal x)
      go true e more = one_ten a x (ltb-true x 10 e) f c
      go false e more =
          let big : 10 ≤ x = ltb-false x 10 e in
          let (b, p, o) = more (omega (arith, l, big)) (omega (arith, m)) in
          let kind_can : can_be_dotted b.kind ≡ true = ap can_be_dotted p.kind_stays ∙ c in
          let nonzero : (b.sixteen ≡ 0 → ⊥) = (λ s. absurd (omega (arith, zeros_ten b p.zeros s, p.ten_is, big))) in
          let (q, r) = ten_digit b (x % 10) (omega arith) kind_can (not_only_zero b nonzero) (omega (arith, p.ten_is, m)) p.zeros in
          let value : b.ten * 10 + x % 10 ≡ x = omega (arith, p.ten_is) in
          let d = with_digit b (48 + x % 10) in (
            d,
            record {
              kind_stays = q.kind_stays ∙ p.kind_stays;
              before_stays = q.before_stays ∙ p.before_stays;
              ten_is = q.ten_is ∙ value;
              some = q.some;
              zeros = q.zeros;
            },
            subst (Over a d) (sym (decimal_more x big)) (over_more a b d (decimal (x / 10)) ((48 + x % 10) ∷ []) o r),
          )

-- ------------------------------------------------------------------ a group of 16 bits

-- 16 to a power
unfoldable pub cap : ℕ → ℕ
cap zero = 1
cap (suc n) = cap n * 16

pub record AtHex (a b : Address) (x : ℕ) : Type 0 where
  pub kind_can : can_be_grouped b.kind ≡ true
  pub kind_kept : a.kind ≡ grouped → b.kind ≡ grouped
  pub before_same : b.before ≡ a.before
  pub hex_is : b.sixteen ≡ x
  pub some_hex : 0 < b.digits

kind_more : (k : Kind) (c : Bool) → can_be_grouped k ≡ true → can_be_grouped (if c then k else grouped) ≡ true
unfolding can_be_grouped
kind_more k true e = e
kind_more k false e = refl

pub with_grouped : (a : Address) (x : ℕ) → can_be_grouped a.kind ≡ true → can_be_grouped (with_digit a x).kind ≡ true
unfolding with_digit
with_grouped a x e = kind_more a.kind (goes_on_dotted a x) e

kept_more : (k : Kind) (c : Bool) → k ≡ grouped → (if c then k else grouped) ≡ grouped
kept_more k true e = e
kept_more k false e = refl

pub with_kept : (a : Address) (x : ℕ) → a.kind ≡ grouped → (with_digit a x).kind ≡ grouped
unfolding with_digit
with_kept a x e = kept_more a.kind (goes_on_dotted a x) e

pub hex_one : (n x : ℕ) → x < 16 → hex_digits (suc n) x ≡ hex_octet x ∷ []
unfolding hex_digits
hex_one n x h = rw (lt-ltb x 16 h, hex_digits)

pub hex_more : (n x : ℕ) → 16 ≤ x → hex_digits (suc n) x ≡ hex_digits n (x / 16) ++ (hex_octet (x % 16) ∷ [])
unfolding hex_digits
hex_more n x h = rw (le-ltb x 16 h, hex_digits)

free_small : (before : List ℕ) (g : ℕ) → g < 65535 → free before g ≡ true
unfolding free
free_small before g h = rw (ne_eqb g 65535 (λ e. absurd (omega (arith, e, h)))) (ap not (and_off (same before five)))

module _ (part : Address → ℕ → Reads Said Octets) where
  hex_digit_on : (a : Address) (d : ℕ) → d < 16 → can_be_grouped a.kind ≡ true → only_zero a ≡ false → free a.before (a.sixteen * 16 + d) ≡ true
      → AtHex a (with_digit a (hex_octet d)) (a.sixteen * 16 + d) × Over part a (with_digit a (hex_octet d)) (hex_octet d ∷ [])
  hex_digit_on a d h c z m =
      let (i, j) = hex_into d h in
      let on = on_grouped a (hex_octet d) c i z (subst (λ y. free a.before (a.sixteen * 16 + y) ≡ true) (sym j) m) in (
        record {
          kind_can = with_grouped a (hex_octet d) c;
          kind_kept = with_kept a (hex_octet d);
          before_same = with_before a (hex_octet d);
          hex_is = with_sixteen a (hex_octet d) ∙ ap (λ y. a.sixteen * 16 + y) j;
          some_hex = omega (arith, with_digits a (hex_octet d));
        },
        over_digit part a (hex_octet d) i (inr on),
      )

  one_hex : (a : Address) (n x : ℕ) → x < 16 → Fresh a → can_be_grouped a.kind ≡ true → (b : Address) × AtHex a b x × Over part a b (hex_digits (suc n) x)
  one_hex a n x h f c =
      let value : a.sixteen * 16 + x ≡ x = omega (arith, f.sixteen_zero) in
      let (p, q) = hex_digit_on a x h c (no_digit_yet a f.none) (free_small a.before (a.sixteen * 16 + x) (omega (arith, value, h))) in
      (with_digit a (hex_octet x), subst (AtHex a (with_digit a (hex_octet x))) value p, subst (Over part a (with_digit a (hex_octet x))) (sym (hex_one n x h)) q)

  pub read_hex : (n x : ℕ) → 0 < n → x < cap n → x < 65536 → (a : Address) → Fresh a → can_be_grouped a.kind ≡ true → free a.before x ≡ true → (b : Address) × AtHex a b x × Over part a b (hex_digits n x)
  unfolding cap
  read_hex zero x s l m a f c g = absurd (omega (arith, s))
  read_hex (suc n) x s l m a f c g = go (ltb x 16) refl (λ p q r h. read_hex n (x / 16) p q r a f c h)
    where
      positive : (k : ℕ) → 16 ≤ x → x < cap (suc k) → 0 < k
      positive zero h i = absurd (omega (arith, h, i))
      positive (suc k) h i = omega arith

      go : (t : Bool) → ltb x 16 ≡ t → (0 < n → x / 16 < cap n → x / 16 < 65536 → free a.before (x / 16) ≡ true → (b : Address) × AtHex a b (x / 16) × Over part a b (hex_digits n (x / 16))) → (b : Address) × AtHex a b x × Over part a b (hex_digits (suc n) x)
      go true e more = one_hex a n x (ltb-true x 16 e) f c
      go false e more =
          let big : 16 ≤ x = ltb-false x 16 e in
          let (b, p, o) = more (positive n big l) (omega (arith, l)) (omega (arith, m)) (free_small a.before (x / 16) (omega (arith, m))) in
          let value : b.sixteen * 16 + x % 16 ≡ x = omega (arith, p.hex_is) in
          let nonzero : (b.sixteen ≡ 0 → ⊥) = (λ z. absurd (omega (arith, z, p.hex_is, big))) in
          let clear : free b.before (b.sixteen * 16 + x % 16) ≡ true = (λ i. free (p.before_same i) (value i)) ∙ g in
          let (q, r) = hex_digit_on b (x % 16) (omega arith) p.kind_can (not_only_zero b nonzero) clear in
          let d = with_digit b (hex_octet (x % 16)) in (
            d,
            record { kind_can = q.kind_can; kind_kept = λ z. q.kind_kept (p.kind_kept z); before_same = q.before_same ∙ p.before_same; hex_is = q.hex_is ∙ value; some_hex = q.some_hex },
            subst (Over part a d) (sym (hex_more n x big)) (over_more part a b d (hex_digits n (x / 16)) (hex_octet (x % 16) ∷ []) o r),
          )
