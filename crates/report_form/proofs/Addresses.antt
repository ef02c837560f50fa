-- The sixteen octets of an address, and its text.
use mathlib.Core.Path.{◌≡◌, refl, sym, ap, ◌∙◌, subst}
use mathlib.Core.List.{List, [], ◌∷◌, ◌++◌, map, append_assoc}
use mathlib.Core.Logic.{inl, inr}
use mathlib.Core.Bool.{Bool, true, false, ◌&&◌, not, false≢true, true≢false}
use Prim.Native.Nat.{ℕ, suc, ◌+◌, ◌*◌, ◌/◌, ◌%◌, ◌≤◌, ◌<◌}
use native.Mathlib.Omega.{arith}
use lib.Dec.{eqb, leb}
use lib.ListN.{length, get_or}
use borrow.Author.Tests.{eq-eqb, eqb-true, leb-true, le-leb}
use Rattle.octets.specs.Octets.{Octets, octets, same, all, between}
use Rattle.octets.proofs.TextLaws.{same_true, same_uneven}
use Rattle.octets.specs.Decimal.{decimal}
use Rattle.report.specs.Xml.{after_mark, parted}
use Rattle.report.specs.Xml
use Rattle.report.specs.Xml.{hex_digits, groups, is_mapped}
use Rattle.parsing.specs.code.Whole.{Whole}
use Rattle.report_form.specs.ReportForm.{Said, mapped, group_octets}
use Rattle.report_form.specs.code.ReportReading.{either, can_be_dotted, can_be_grouped, next_number, address_from, reading_address as address}
use Rattle.report_form.proofs.Telling.{Tells}
use Rattle.report_form.proofs.TextBack.{both_true}
use Rattle.report_form.proofs.AddressLaws.{five, free}
use Rattle.report_form.proofs.AddressChain.{AllSmall, dotted_text, dotted_whole, AllWords, Unmapped, grouped_text, grouped_whole}
use Rattle.report_form.proofs.AddressTold.{End, address_back}

-- ------------------------------------------------------------------ lists of so many numbers

view_3 : (v : List ℕ) → length v ≡ 3 → (P : List ℕ → Type 0) → ((x0 x1 x2 : ℕ) → P (x0 ∷ x1 ∷ x2 ∷ [])) → P v
view_3 [] e P h = absurd (omega (arith, e))
view_3 (x0 ∷ []) e P h = absurd (omega (arith, e))
view_3 (x0 ∷ x1 ∷ []) e P h = absurd (omega (arith, e))
view_3 (x0 ∷ x1 ∷ x2 ∷ []) e P h = h x0 x1 x2
view_3 (x0 ∷ x1 ∷ x2 ∷ y ∷ ys) e P h = absurd (omega (arith, e))

view_7 : (v : List ℕ) → length v ≡ 7 → (P : List ℕ → Type 0) → ((x0 x1 x2 x3 x4 x5 x6 : ℕ) → P (x0 ∷ x1 ∷ x2 ∷ x3 ∷ x4 ∷ x5 ∷ x6 ∷ [])) → P v
view_7 [] e P h = absurd (omega (arith, e))
view_7 (x0 ∷ []) e P h = absurd (omega (arith, e))
view_7 (x0 ∷ x1 ∷ []) e P h = absurd (omega (arith, e))
view_7 (x0 ∷ x1 ∷ x2 ∷ []) e P h = absurd (omega (arith, e))
view_7 (x0 ∷ x1 ∷ x2 ∷ x3 ∷ []) e P h = absurd (omega (arith, e))
view_7 (x0 ∷ x1 ∷ x2 ∷ x3 ∷ x4 ∷ []) e P h = absurd (omega (arith, e))
view_7 (x0 ∷ x1 ∷ x2 ∷ x3 ∷ x4 ∷ x5 ∷ []) e P h = absurd (omega (arith, e))
view_7 (x0 ∷ x1 ∷ x2 ∷ x3 ∷ x4 ∷ x5 ∷ x6 ∷ []) e P h = h x0 x1 x2 x3 x4 x5 x6
view_7 (x0 ∷ x1 ∷ x2 ∷ x3 ∷ x4 ∷ x5 ∷ x6 ∷ y ∷ ys) e P h = absurd (omega (arith, e))

view_16 : (v : List ℕ) → length v ≡ 16 → (P : List ℕ → Type 0) → ((x0 x1 x2 x3 x4 x5 x6 x7 x8 x9 x10 x11 x12 x13 x14 x15 : ℕ) → P (x0 ∷ x1 ∷ x2 ∷ x3 ∷ x4 ∷ x5 ∷ x6 ∷ x7 ∷ x8 ∷ x9 ∷ x10 ∷ x11 ∷ x12 ∷ x13 ∷ x14 ∷ x15 ∷ [])) → P v
view_16 [] e P h = absurd (omega (arith, e))
view_16 (x0 ∷ []) e P h = absurd (omega (arith, e))
view_16 (x0 ∷ x1 ∷ []) e P h = absurd (omega (arith, e))
view_16 (x0 ∷ x1 ∷ x2 ∷ []) e P h = absurd (omega (arith, e))
view_16 (x0 ∷ x1 ∷ x2 ∷ x3 ∷ []) e P h = absurd (omega (arith, e))
view_16 (x0 ∷ x1 ∷ x2 ∷ x3 ∷ x4 ∷ []) e P h = absurd (omega (arith, e))
view_16 (x0 ∷ x1 ∷ x2 ∷ x3 ∷ x4 ∷ x5 ∷ []) e P h = absurd (omega (arith, e))
view_16 (x0 ∷ x1 ∷ x2 ∷ x3 ∷ x4 ∷ x5 ∷ x6 ∷ []) e P h = absurd (omega (arith, e))
view_16 (x0 ∷ x1 ∷ x2 ∷ x3 ∷ x4 ∷ x5 ∷ x6 ∷ x7 ∷ []) e P h = absurd (omega (arith, e))
view_16 (x0 ∷ x1 ∷ x2 ∷ x3 ∷ x4 ∷ x5 ∷ x6 ∷ x7 ∷ x8 ∷ []) e P h = absurd (omega (arith, e))
view_16 (x0 ∷ x1 ∷ x2 ∷ x3 ∷ x4 ∷ x5 ∷ x6 ∷ x7 ∷ x8 ∷ x9 ∷ []) e P h = absurd (omega (arith, e))
view_16 (x0 ∷ x1 ∷ x2 ∷ x3 ∷ x4 ∷ x5 ∷ x6 ∷ x7 ∷ x8 ∷ x9 ∷ x10 ∷ []) e P h = absurd (omega (arith, e))
view_16 (x0 ∷ x1 ∷ x2 ∷ x3 ∷ x4 ∷ x5 ∷ x6 ∷ x7 ∷ x8 ∷ x9 ∷ x10 ∷ x11 ∷ []) e P h = absurd (omega (arith, e))
view_16 (x0 ∷ x1 ∷ x2 ∷ x3 ∷ x4 ∷ x5 ∷ x6 ∷ x7 ∷ x8 ∷ x9 ∷ x10 ∷ x11 ∷ x12 ∷ []) e P h = absurd (omega (arith, e))
view_16 (x0 ∷ x1 ∷ x2 ∷ x3 ∷ x4 ∷ x5 ∷ x6 ∷ x7 ∷ x8 ∷ x9 ∷ x10 ∷ x11 ∷ x12 ∷ x13 ∷ []) e P h = absurd (omega (arith, e))
view_16 (x0 ∷ x1 ∷ x2 ∷ x3 ∷ x4 ∷ x5 ∷ x6 ∷ x7 ∷ x8 ∷ x9 ∷ x10 ∷ x11 ∷ x12 ∷ x13 ∷ x14 ∷ []) e P h = absurd (omega (arith, e))
view_16 (x0 ∷ x1 ∷ x2 ∷ x3 ∷ x4 ∷ x5 ∷ x6 ∷ x7 ∷ x8 ∷ x9 ∷ x10 ∷ x11 ∷ x12 ∷ x13 ∷ x14 ∷ x15 ∷ []) e P h = h x0 x1 x2 x3 x4 x5 x6 x7 x8 x9 x10 x11 x12 x13 x14 x15
view_16 (x0 ∷ x1 ∷ x2 ∷ x3 ∷ x4 ∷ x5 ∷ x6 ∷ x7 ∷ x8 ∷ x9 ∷ x10 ∷ x11 ∷ x12 ∷ x13 ∷ x14 ∷ x15 ∷ y ∷ ys) e P h = absurd (omega (arith, e))

-- ------------------------------------------------------------------ octets and words

small_octet : (x : ℕ) → between 0 255 x ≡ true → x ≤ 255
unfolding between
small_octet x e = leb-true x 255 (both_true (leb 0 x) (leb x 255) e).1

octet_small : (x : ℕ) → x ≤ 255 → between 0 255 x ≡ true
unfolding between
octet_small x h = rw (le-leb 0 x (omega arith), le-leb x 255 h)

all_small : (v : Octets) → all (between 0 255) v ≡ true → AllSmall v
unfolding all AllSmall
all_small [] e = tt
all_small (x ∷ v) e = let (a, b) = both_true (between 0 255 x) (all (between 0 255) v) e in (small_octet x a, all_small v b)

small_all : (v : Octets) → AllSmall v → all (between 0 255) v ≡ true
unfolding all AllSmall
small_all [] e = refl
small_all (x ∷ v) e = rw (octet_small x e.0) (small_all v e.1)

free_uneven : (before : List ℕ) (g : ℕ) → (length before ≡ 5 → ⊥) → free before g ≡ true
unfolding free
free_uneven before g h = rw (same_uneven before five h)

not_free : (before : List ℕ) (g : ℕ) → same before five ≡ true → eqb g 65535 ≡ true → free before g ≡ false
unfolding free
not_free before g e f = rw (e, f)

freed : (before : List ℕ) (g : ℕ) → ((same before five ≡ true) → (eqb g 65535 ≡ true) → ⊥) → free before g ≡ true
unfolding free
freed before g h = go (same before five) refl (eqb g 65535) refl
  where
    go : (b : Bool) → same before five ≡ b → (c : Bool) → eqb g 65535 ≡ c → not (same before five && eqb g 65535) ≡ true
    go true e true f = absurd (h e f)
    go true e false f = rw (e, f)
    go false e c f = rw e

unfoldable pub Good : Octets → Type 0
Good v = (length v ≡ 16) × (all (between 0 255) v ≡ true)

unfoldable pub Written : Octets → Type 0
Written v = Whole {R = Said} address (Xml.address v ++ (60 ∷ [])) [] v

-- ------------------------------------------------------------------ an address that is written

module _ (a0 a1 a2 a3 a4 a5 a6 a7 a8 a9 a10 a11 a12 a13 a14 a15 : ℕ) (small : AllSmall (a0 ∷ a1 ∷ a2 ∷ a3 ∷ a4 ∷ a5 ∷ a6 ∷ a7 ∷ a8 ∷ a9 ∷ a10 ∷ a11 ∷ a12 ∷ a13 ∷ a14 ∷ a15 ∷ [])) where
  twelve : List ℕ
  twelve = (a0 ∷ a1 ∷ a2 ∷ a3 ∷ a4 ∷ a5 ∷ a6 ∷ a7 ∷ a8 ∷ a9 ∷ a10 ∷ a11 ∷ [])

  mapped_into : same (a0 ∷ a1 ∷ a2 ∷ a3 ∷ a4 ∷ a5 ∷ a6 ∷ a7 ∷ a8 ∷ a9 ∷ a10 ∷ a11 ∷ []) mapped ≡ true → Written (a0 ∷ a1 ∷ a2 ∷ a3 ∷ a4 ∷ a5 ∷ a6 ∷ a7 ∷ a8 ∷ a9 ∷ a10 ∷ a11 ∷ a12 ∷ a13 ∷ a14 ∷ a15 ∷ [])
  unfolding Written AllSmall address Xml.address is_mapped mapped dotted_text after_mark parted can_be_dotted
  mapped_into e =
      let is : (a0 ∷ a1 ∷ a2 ∷ a3 ∷ a4 ∷ a5 ∷ a6 ∷ a7 ∷ a8 ∷ a9 ∷ a10 ∷ a11 ∷ []) ≡ mapped = same_true (a0 ∷ a1 ∷ a2 ∷ a3 ∷ a4 ∷ a5 ∷ a6 ∷ a7 ∷ a8 ∷ a9 ∷ a10 ∷ a11 ∷ []) mapped e in
      let s = small in
      rw e (subst (Whole {R = Said} (address_from 7 (next_number either [])) (decimal a12 ++ after_mark (octets ".") (map decimal (a13 ∷ a14 ∷ a15 ∷ [])) ++ (60 ∷ [])) [])
      (ap (λ l. l ++ (a12 ∷ a13 ∷ a14 ∷ a15 ∷ [])) (sym is))
      (subst (λ z. Whole {R = Said} (address_from 7 (next_number either [])) z [] (mapped ++ (a12 ∷ a13 ∷ a14 ∷ a15 ∷ [])))
      (sym (append_assoc (decimal a12) (dotted_text (a13 ∷ a14 ∷ a15 ∷ [])) (60 ∷ [])))
      (dotted_whole (a13 ∷ a14 ∷ a15 ∷ []) 7 either [] a12 s.1.1.1.1.1.1.1.1.1.1.1.1.0 s.1.1.1.1.1.1.1.1.1.1.1.1.1 refl (λ z. absurd (omega (arith, z))) refl refl)))

  words : List ℕ
  words = ((a0 * 256 + a1) ∷ (a2 * 256 + a3) ∷ (a4 * 256 + a5) ∷ (a6 * 256 + a7) ∷ (a8 * 256 + a9) ∷ (a10 * 256 + a11) ∷ (a12 * 256 + a13) ∷ (a14 * 256 + a15) ∷ [])

  back_again : group_octets ((a0 * 256 + a1) ∷ (a2 * 256 + a3) ∷ (a4 * 256 + a5) ∷ (a6 * 256 + a7) ∷ (a8 * 256 + a9) ∷ (a10 * 256 + a11) ∷ (a12 * 256 + a13) ∷ (a14 * 256 + a15) ∷ []) ≡ (a0 ∷ a1 ∷ a2 ∷ a3 ∷ a4 ∷ a5 ∷ a6 ∷ a7 ∷ a8 ∷ a9 ∷ a10 ∷ a11 ∷ a12 ∷ a13 ∷ a14 ∷ a15 ∷ [])
  unfolding group_octets AllSmall
  back_again =
      let s = small in
      let e0 : (a0 * 256 + a1) / 256 ≡ a0 = omega (arith, s.0, s.1.0) in
      let e1 : (a0 * 256 + a1) % 256 ≡ a1 = omega (arith, s.1.0, s.0) in
      let e2 : (a2 * 256 + a3) / 256 ≡ a2 = omega (arith, s.1.1.0, s.1.1.1.0) in
      let e3 : (a2 * 256 + a3) % 256 ≡ a3 = omega (arith, s.1.1.1.0, s.1.1.0) in
      let e4 : (a4 * 256 + a5) / 256 ≡ a4 = omega (arith, s.1.1.1.1.0, s.1.1.1.1.1.0) in
      let e5 : (a4 * 256 + a5) % 256 ≡ a5 = omega (arith, s.1.1.1.1.1.0, s.1.1.1.1.0) in
      let e6 : (a6 * 256 + a7) / 256 ≡ a6 = omega (arith, s.1.1.1.1.1.1.0, s.1.1.1.1.1.1.1.0) in
      let e7 : (a6 * 256 + a7) % 256 ≡ a7 = omega (arith, s.1.1.1.1.1.1.1.0, s.1.1.1.1.1.1.0) in
      let e8 : (a8 * 256 + a9) / 256 ≡ a8 = omega (arith, s.1.1.1.1.1.1.1.1.0, s.1.1.1.1.1.1.1.1.1.0) in
      let e9 : (a8 * 256 + a9) % 256 ≡ a9 = omega (arith, s.1.1.1.1.1.1.1.1.1.0, s.1.1.1.1.1.1.1.1.0) in
      let e10 : (a10 * 256 + a11) / 256 ≡ a10 = omega (arith, s.1.1.1.1.1.1.1.1.1.1.0, s.1.1.1.1.1.1.1.1.1.1.1.0) in
      let e11 : (a10 * 256 + a11) % 256 ≡ a11 = omega (arith, s.1.1.1.1.1.1.1.1.1.1.1.0, s.1.1.1.1.1.1.1.1.1.1.0) in
      let e12 : (a12 * 256 + a13) / 256 ≡ a12 = omega (arith, s.1.1.1.1.1.1.1.1.1.1.1.1.0, s.1.1.1.1.1.1.1.1.1.1.1.1.1.0) in
      let e13 : (a12 * 256 + a13) % 256 ≡ a13 = omega (arith, s.1.1.1.1.1.1.1.1.1.1.1.1.1.0, s.1.1.1.1.1.1.1.1.1.1.1.1.0) in
      let e14 : (a14 * 256 + a15) / 256 ≡ a14 = omega (arith, s.1.1.1.1.1.1.1.1.1.1.1.1.1.1.0, s.1.1.1.1.1.1.1.1.1.1.1.1.1.1.1.0) in
      let e15 : (a14 * 256 + a15) % 256 ≡ a15 = omega (arith, s.1.1.1.1.1.1.1.1.1.1.1.1.1.1.1.0, s.1.1.1.1.1.1.1.1.1.1.1.1.1.1.0) in
      λ j. e0 j ∷ e1 j ∷ e2 j ∷ e3 j ∷ e4 j ∷ e5 j ∷ e6 j ∷ e7 j ∷ e8 j ∷ e9 j ∷ e10 j ∷ e11 j ∷ e12 j ∷ e13 j ∷ e14 j ∷ e15 j ∷ []

  not_mapped : same (a0 ∷ a1 ∷ a2 ∷ a3 ∷ a4 ∷ a5 ∷ a6 ∷ a7 ∷ a8 ∷ a9 ∷ a10 ∷ a11 ∷ []) mapped ≡ false → same ((a0 * 256 + a1) ∷ (a2 * 256 + a3) ∷ (a4 * 256 + a5) ∷ (a6 * 256 + a7) ∷ (a8 * 256 + a9) ∷ []) five ≡ true → eqb (a10 * 256 + a11) 65535 ≡ true → ⊥
  unfolding AllSmall mapped same
  not_mapped n e f =
      let s = small in
      let is : ((a0 * 256 + a1) ∷ (a2 * 256 + a3) ∷ (a4 * 256 + a5) ∷ (a6 * 256 + a7) ∷ (a8 * 256 + a9) ∷ []) ≡ five = same_true ((a0 * 256 + a1) ∷ (a2 * 256 + a3) ∷ (a4 * 256 + a5) ∷ (a6 * 256 + a7) ∷ (a8 * 256 + a9) ∷ []) five e in
      let last : (a10 * 256 + a11) ≡ 65535 = eqb-true (a10 * 256 + a11) 65535 f in
      let w0 : (a0 * 256 + a1) ≡ 0 = ap (λ l. get_or l 0 0) is in
      let w1 : (a2 * 256 + a3) ≡ 0 = ap (λ l. get_or l 1 0) is in
      let w2 : (a4 * 256 + a5) ≡ 0 = ap (λ l. get_or l 2 0) is in
      let w3 : (a6 * 256 + a7) ≡ 0 = ap (λ l. get_or l 3 0) is in
      let w4 : (a8 * 256 + a9) ≡ 0 = ap (λ l. get_or l 4 0) is in
      let e0 : a0 ≡ 0 = omega (arith, w0) in
      let e1 : a1 ≡ 0 = omega (arith, w0) in
      let e2 : a2 ≡ 0 = omega (arith, w1) in
      let e3 : a3 ≡ 0 = omega (arith, w1) in
      let e4 : a4 ≡ 0 = omega (arith, w2) in
      let e5 : a5 ≡ 0 = omega (arith, w2) in
      let e6 : a6 ≡ 0 = omega (arith, w3) in
      let e7 : a7 ≡ 0 = omega (arith, w3) in
      let e8 : a8 ≡ 0 = omega (arith, w4) in
      let e9 : a9 ≡ 0 = omega (arith, w4) in
      let e10 : a10 ≡ 255 = omega (arith, last, s.1.1.1.1.1.1.1.1.1.1.0, s.1.1.1.1.1.1.1.1.1.1.1.0) in
      let e11 : a11 ≡ 255 = omega (arith, last, s.1.1.1.1.1.1.1.1.1.1.0, s.1.1.1.1.1.1.1.1.1.1.1.0) in
      let path : (a0 ∷ a1 ∷ a2 ∷ a3 ∷ a4 ∷ a5 ∷ a6 ∷ a7 ∷ a8 ∷ a9 ∷ a10 ∷ a11 ∷ []) ≡ (0 ∷ 0 ∷ 0 ∷ 0 ∷ 0 ∷ 0 ∷ 0 ∷ 0 ∷ 0 ∷ 0 ∷ 255 ∷ 255 ∷ []) = (λ j. e0 j ∷ e1 j ∷ e2 j ∷ e3 j ∷ e4 j ∷ e5 j ∷ e6 j ∷ e7 j ∷ e8 j ∷ e9 j ∷ e10 j ∷ e11 j ∷ []) in
      false≢true (sym n ∙ ap (λ l. same l mapped) path)

  grouped_into : same (a0 ∷ a1 ∷ a2 ∷ a3 ∷ a4 ∷ a5 ∷ a6 ∷ a7 ∷ a8 ∷ a9 ∷ a10 ∷ a11 ∷ []) mapped ≡ false → Written (a0 ∷ a1 ∷ a2 ∷ a3 ∷ a4 ∷ a5 ∷ a6 ∷ a7 ∷ a8 ∷ a9 ∷ a10 ∷ a11 ∷ a12 ∷ a13 ∷ a14 ∷ a15 ∷ [])
  unfolding Written AllSmall AllWords Unmapped address Xml.address is_mapped mapped groups grouped_text after_mark parted can_be_grouped
  grouped_into e =
      let s = small in
      let first = hex_digits 4 (a0 * 256 + a1) in
      let rest = ((a2 * 256 + a3) ∷ (a4 * 256 + a5) ∷ (a6 * 256 + a7) ∷ (a8 * 256 + a9) ∷ (a10 * 256 + a11) ∷ (a12 * 256 + a13) ∷ (a14 * 256 + a15) ∷ []) in
      rw e (subst (Whole {R = Said} (address_from 7 (next_number either [])) (first ++ after_mark (octets ":") (map (hex_digits 4) rest) ++ (60 ∷ [])) [])
      back_again
      (subst (λ z. Whole {R = Said} (address_from 7 (next_number either [])) z [] (group_octets ((a0 * 256 + a1) ∷ (a2 * 256 + a3) ∷ (a4 * 256 + a5) ∷ (a6 * 256 + a7) ∷ (a8 * 256 + a9) ∷ (a10 * 256 + a11) ∷ (a12 * 256 + a13) ∷ (a14 * 256 + a15) ∷ [])))
      (sym (append_assoc first (grouped_text rest) (60 ∷ [])))
      (grouped_whole rest 7 either [] (a0 * 256 + a1) (omega (arith, s.0, s.1.0))
      (omega (arith, s.1.1.0, s.1.1.1.0), (omega (arith, s.1.1.1.1.0, s.1.1.1.1.1.0), (omega (arith, s.1.1.1.1.1.1.0, s.1.1.1.1.1.1.1.0), (omega (arith, s.1.1.1.1.1.1.1.1.0, s.1.1.1.1.1.1.1.1.1.0), (omega (arith, s.1.1.1.1.1.1.1.1.1.1.0, s.1.1.1.1.1.1.1.1.1.1.1.0), (omega (arith, s.1.1.1.1.1.1.1.1.1.1.1.1.0, s.1.1.1.1.1.1.1.1.1.1.1.1.1.0), (omega (arith, s.1.1.1.1.1.1.1.1.1.1.1.1.1.1.0, s.1.1.1.1.1.1.1.1.1.1.1.1.1.1.1.0), tt)))))))
      (free_uneven [] (a0 * 256 + a1) (λ z. absurd (omega (arith, z))), (free_uneven ((a0 * 256 + a1) ∷ []) (a2 * 256 + a3) (λ z. absurd (omega (arith, z))), (free_uneven ((a0 * 256 + a1) ∷ (a2 * 256 + a3) ∷ []) (a4 * 256 + a5) (λ z. absurd (omega (arith, z))), (free_uneven ((a0 * 256 + a1) ∷ (a2 * 256 + a3) ∷ (a4 * 256 + a5) ∷ []) (a6 * 256 + a7) (λ z. absurd (omega (arith, z))), (free_uneven ((a0 * 256 + a1) ∷ (a2 * 256 + a3) ∷ (a4 * 256 + a5) ∷ (a6 * 256 + a7) ∷ []) (a8 * 256 + a9) (λ z. absurd (omega (arith, z))), (freed ((a0 * 256 + a1) ∷ (a2 * 256 + a3) ∷ (a4 * 256 + a5) ∷ (a6 * 256 + a7) ∷ (a8 * 256 + a9) ∷ []) (a10 * 256 + a11) (not_mapped e), (free_uneven ((a0 * 256 + a1) ∷ (a2 * 256 + a3) ∷ (a4 * 256 + a5) ∷ (a6 * 256 + a7) ∷ (a8 * 256 + a9) ∷ (a10 * 256 + a11) ∷ []) (a12 * 256 + a13) (λ z. absurd (omega (arith, z))), (free_uneven ((a0 * 256 + a1) ∷ (a2 * 256 + a3) ∷ (a4 * 256 + a5) ∷ (a6 * 256 + a7) ∷ (a8 * 256 + a9) ∷ (a10 * 256 + a11) ∷ (a12 * 256 + a13) ∷ []) (a14 * 256 + a15) (λ z. absurd (omega (arith, z))), tt))))))))
      refl (λ z. absurd (omega (arith, z))) refl refl)))

  sixteen_into : Written (a0 ∷ a1 ∷ a2 ∷ a3 ∷ a4 ∷ a5 ∷ a6 ∷ a7 ∷ a8 ∷ a9 ∷ a10 ∷ a11 ∷ a12 ∷ a13 ∷ a14 ∷ a15 ∷ [])
  sixteen_into = go (same (a0 ∷ a1 ∷ a2 ∷ a3 ∷ a4 ∷ a5 ∷ a6 ∷ a7 ∷ a8 ∷ a9 ∷ a10 ∷ a11 ∷ []) mapped) refl
    where
      go : (c : Bool) → same (a0 ∷ a1 ∷ a2 ∷ a3 ∷ a4 ∷ a5 ∷ a6 ∷ a7 ∷ a8 ∷ a9 ∷ a10 ∷ a11 ∷ []) mapped ≡ c → Written (a0 ∷ a1 ∷ a2 ∷ a3 ∷ a4 ∷ a5 ∷ a6 ∷ a7 ∷ a8 ∷ a9 ∷ a10 ∷ a11 ∷ a12 ∷ a13 ∷ a14 ∷ a15 ∷ [])
      go true e = mapped_into e
      go false e = grouped_into e

pub into : (v : Octets) → Good v → Written v
unfolding Good
into v g = view_16 v g.0 (λ u. all (between 0 255) u ≡ true → Written u) (λ a0 a1 a2 a3 a4 a5 a6 a7 a8 a9 a10 a11 a12 a13 a14 a15 e. sixteen_into a0 a1 a2 a3 a4 a5 a6 a7 a8 a9 a10 a11 a12 a13 a14 a15 (all_small (a0 ∷ a1 ∷ a2 ∷ a3 ∷ a4 ∷ a5 ∷ a6 ∷ a7 ∷ a8 ∷ a9 ∷ a10 ∷ a11 ∷ a12 ∷ a13 ∷ a14 ∷ a15 ∷ []) e)) g.1

-- ------------------------------------------------------------------ and back

mapped_length : (w x y z : ℕ) → length (mapped ++ (w ∷ x ∷ y ∷ z ∷ [])) ≡ 16
unfolding mapped
mapped_length w x y z = refl

mapped_small : (w x y z : ℕ) → AllSmall (w ∷ x ∷ y ∷ z ∷ []) → AllSmall (mapped ++ (w ∷ x ∷ y ∷ z ∷ []))
unfolding mapped AllSmall
mapped_small w x y z s = (omega arith, (omega arith, (omega arith, (omega arith, (omega arith, (omega arith, (omega arith, (omega arith, (omega arith, (omega arith, (omega arith, (omega arith, s))))))))))))

mapped_text : (w x y z : ℕ) → Xml.address (mapped ++ (w ∷ x ∷ y ∷ z ∷ [])) ++ (60 ∷ []) ≡ decimal w ++ (dotted_text (x ∷ y ∷ z ∷ []) ++ (60 ∷ []))
unfolding Xml.address is_mapped mapped same parted dotted_text
mapped_text w x y z = append_assoc (decimal w) (dotted_text (x ∷ y ∷ z ∷ [])) (60 ∷ [])

unfoldable pub Told : Octets → List Said → Octets → Type 0
Told s rs a = (v : Octets) × Good v × (s ≡ Xml.address v ++ (60 ∷ [])) × (rs ≡ []) × (a ≡ v)

dotted_told : (x : ℕ) (xs : List ℕ) (s : Octets) (rs : List Said) (a : Octets) → x ≤ 255 → AllSmall xs → suc (length xs) ≡ 4 → s ≡ decimal x ++ (dotted_text xs ++ (60 ∷ [])) → a ≡ mapped ++ (x ∷ xs) → rs ≡ [] → Told s rs a
unfolding Told Good AllSmall
dotted_told x xs s rs a m ms l e f z = view_3 xs (omega (arith, l))
    (λ ys. AllSmall ys → s ≡ decimal x ++ (dotted_text ys ++ (60 ∷ [])) → a ≡ mapped ++ (x ∷ ys) → Told s rs a)
    (λ x0 x1 x2 n g h. (mapped ++ (x ∷ x0 ∷ x1 ∷ x2 ∷ []), (mapped_length x x0 x1 x2, small_all (mapped ++ (x ∷ x0 ∷ x1 ∷ x2 ∷ [])) (mapped_small x x0 x1 x2 (m, n))), g ∙ sym (mapped_text x x0 x1 x2), z, h))
    ms e f

groups_back : (x0 x1 x2 x3 x4 x5 x6 x7 : ℕ) → groups (group_octets (x0 ∷ x1 ∷ x2 ∷ x3 ∷ x4 ∷ x5 ∷ x6 ∷ x7 ∷ [])) ≡ map (hex_digits 4) (x0 ∷ x1 ∷ x2 ∷ x3 ∷ x4 ∷ x5 ∷ x6 ∷ x7 ∷ [])
unfolding groups group_octets
groups_back x0 x1 x2 x3 x4 x5 x6 x7 =
    let ex0 : (x0 / 256) * 256 + x0 % 256 ≡ x0 = omega arith in
    let ex1 : (x1 / 256) * 256 + x1 % 256 ≡ x1 = omega arith in
    let ex2 : (x2 / 256) * 256 + x2 % 256 ≡ x2 = omega arith in
    let ex3 : (x3 / 256) * 256 + x3 % 256 ≡ x3 = omega arith in
    let ex4 : (x4 / 256) * 256 + x4 % 256 ≡ x4 = omega arith in
    let ex5 : (x5 / 256) * 256 + x5 % 256 ≡ x5 = omega arith in
    let ex6 : (x6 / 256) * 256 + x6 % 256 ≡ x6 = omega arith in
    let ex7 : (x7 / 256) * 256 + x7 % 256 ≡ x7 = omega arith in
    λ j. hex_digits 4 (ex0 j) ∷ hex_digits 4 (ex1 j) ∷ hex_digits 4 (ex2 j) ∷ hex_digits 4 (ex3 j) ∷ hex_digits 4 (ex4 j) ∷ hex_digits 4 (ex5 j) ∷ hex_digits 4 (ex6 j) ∷ hex_digits 4 (ex7 j) ∷ []

words_small : (x0 x1 x2 x3 x4 x5 x6 x7 : ℕ) → AllWords (x0 ∷ x1 ∷ x2 ∷ x3 ∷ x4 ∷ x5 ∷ x6 ∷ x7 ∷ []) → AllSmall (group_octets (x0 ∷ x1 ∷ x2 ∷ x3 ∷ x4 ∷ x5 ∷ x6 ∷ x7 ∷ []))
unfolding AllSmall AllWords group_octets
words_small x0 x1 x2 x3 x4 x5 x6 x7 s = (omega (arith, s.0), (omega (arith, s.0), (omega (arith, s.1.0), (omega (arith, s.1.0), (omega (arith, s.1.1.0), (omega (arith, s.1.1.0), (omega (arith, s.1.1.1.0), (omega (arith, s.1.1.1.0), (omega (arith, s.1.1.1.1.0), (omega (arith, s.1.1.1.1.0), (omega (arith, s.1.1.1.1.1.0), (omega (arith, s.1.1.1.1.1.0), (omega (arith, s.1.1.1.1.1.1.0), (omega (arith, s.1.1.1.1.1.1.0), (omega (arith, s.1.1.1.1.1.1.1.0), (omega (arith, s.1.1.1.1.1.1.1.0), tt))))))))))))))))

words_length : (x0 x1 x2 x3 x4 x5 x6 x7 : ℕ) → length (group_octets (x0 ∷ x1 ∷ x2 ∷ x3 ∷ x4 ∷ x5 ∷ x6 ∷ x7 ∷ [])) ≡ 16
unfolding group_octets
words_length x0 x1 x2 x3 x4 x5 x6 x7 = refl

words_unmapped : (x0 x1 x2 x3 x4 x5 x6 x7 : ℕ) → Unmapped [] (x0 ∷ x1 ∷ x2 ∷ x3 ∷ x4 ∷ x5 ∷ x6 ∷ x7 ∷ []) → is_mapped (group_octets (x0 ∷ x1 ∷ x2 ∷ x3 ∷ x4 ∷ x5 ∷ x6 ∷ x7 ∷ [])) ≡ false
unfolding Unmapped is_mapped group_octets same
words_unmapped x0 x1 x2 x3 x4 x5 x6 x7 u = go (same ((x0 / 256) ∷ (x0 % 256) ∷ (x1 / 256) ∷ (x1 % 256) ∷ (x2 / 256) ∷ (x2 % 256) ∷ (x3 / 256) ∷ (x3 % 256) ∷ (x4 / 256) ∷ (x4 % 256) ∷ (x5 / 256) ∷ (x5 % 256) ∷ []) (0 ∷ 0 ∷ 0 ∷ 0 ∷ 0 ∷ 0 ∷ 0 ∷ 0 ∷ 0 ∷ 0 ∷ 255 ∷ 255 ∷ [])) refl
  where
    go : (c : Bool) → same ((x0 / 256) ∷ (x0 % 256) ∷ (x1 / 256) ∷ (x1 % 256) ∷ (x2 / 256) ∷ (x2 % 256) ∷ (x3 / 256) ∷ (x3 % 256) ∷ (x4 / 256) ∷ (x4 % 256) ∷ (x5 / 256) ∷ (x5 % 256) ∷ []) (0 ∷ 0 ∷ 0 ∷ 0 ∷ 0 ∷ 0 ∷ 0 ∷ 0 ∷ 0 ∷ 0 ∷ 255 ∷ 255 ∷ []) ≡ c → same ((x0 / 256) ∷ (x0 % 256) ∷ (x1 / 256) ∷ (x1 % 256) ∷ (x2 / 256) ∷ (x2 % 256) ∷ (x3 / 256) ∷ (x3 % 256) ∷ (x4 / 256) ∷ (x4 % 256) ∷ (x5 / 256) ∷ (x5 % 256) ∷ []) (0 ∷ 0 ∷ 0 ∷ 0 ∷ 0 ∷ 0 ∷ 0 ∷ 0 ∷ 0 ∷ 0 ∷ 255 ∷ 255 ∷ []) ≡ false
    go false e = e
    go true e =
        let is : ((x0 / 256) ∷ (x0 % 256) ∷ (x1 / 256) ∷ (x1 % 256) ∷ (x2 / 256) ∷ (x2 % 256) ∷ (x3 / 256) ∷ (x3 % 256) ∷ (x4 / 256) ∷ (x4 % 256) ∷ (x5 / 256) ∷ (x5 % 256) ∷ []) ≡ (0 ∷ 0 ∷ 0 ∷ 0 ∷ 0 ∷ 0 ∷ 0 ∷ 0 ∷ 0 ∷ 0 ∷ 255 ∷ 255 ∷ []) = same_true ((x0 / 256) ∷ (x0 % 256) ∷ (x1 / 256) ∷ (x1 % 256) ∷ (x2 / 256) ∷ (x2 % 256) ∷ (x3 / 256) ∷ (x3 % 256) ∷ (x4 / 256) ∷ (x4 % 256) ∷ (x5 / 256) ∷ (x5 % 256) ∷ []) (0 ∷ 0 ∷ 0 ∷ 0 ∷ 0 ∷ 0 ∷ 0 ∷ 0 ∷ 0 ∷ 0 ∷ 255 ∷ 255 ∷ []) e in
        let h0 : x0 / 256 ≡ 0 = ap (λ l. get_or l 0 0) is in
        let h1 : x0 % 256 ≡ 0 = ap (λ l. get_or l 1 0) is in
        let h2 : x1 / 256 ≡ 0 = ap (λ l. get_or l 2 0) is in
        let h3 : x1 % 256 ≡ 0 = ap (λ l. get_or l 3 0) is in
        let h4 : x2 / 256 ≡ 0 = ap (λ l. get_or l 4 0) is in
        let h5 : x2 % 256 ≡ 0 = ap (λ l. get_or l 5 0) is in
        let h6 : x3 / 256 ≡ 0 = ap (λ l. get_or l 6 0) is in
        let h7 : x3 % 256 ≡ 0 = ap (λ l. get_or l 7 0) is in
        let h8 : x4 / 256 ≡ 0 = ap (λ l. get_or l 8 0) is in
        let h9 : x4 % 256 ≡ 0 = ap (λ l. get_or l 9 0) is in
        let h10 : x5 / 256 ≡ 255 = ap (λ l. get_or l 10 0) is in
        let h11 : x5 % 256 ≡ 255 = ap (λ l. get_or l 11 0) is in
        let e0 : x0 ≡ 0 = omega (arith, h0, h1) in
        let e1 : x1 ≡ 0 = omega (arith, h2, h3) in
        let e2 : x2 ≡ 0 = omega (arith, h4, h5) in
        let e3 : x3 ≡ 0 = omega (arith, h6, h7) in
        let e4 : x4 ≡ 0 = omega (arith, h8, h9) in
        let e5 : x5 ≡ 65535 = omega (arith, h10, h11) in
        let fives : same (x0 ∷ x1 ∷ x2 ∷ x3 ∷ x4 ∷ []) five ≡ true = ap (λ l. same l five) (λ j. e0 j ∷ e1 j ∷ e2 j ∷ e3 j ∷ e4 j ∷ []) in
        absurd (true≢false (sym u.1.1.1.1.1.0 ∙ not_free (x0 ∷ x1 ∷ x2 ∷ x3 ∷ x4 ∷ []) x5 fives (eq-eqb x5 65535 e5)))

words_text : (x0 x1 x2 x3 x4 x5 x6 x7 : ℕ) → Unmapped [] (x0 ∷ x1 ∷ x2 ∷ x3 ∷ x4 ∷ x5 ∷ x6 ∷ x7 ∷ []) → Xml.address (group_octets (x0 ∷ x1 ∷ x2 ∷ x3 ∷ x4 ∷ x5 ∷ x6 ∷ x7 ∷ [])) ++ (60 ∷ []) ≡ hex_digits 4 x0 ++ (grouped_text (x1 ∷ x2 ∷ x3 ∷ x4 ∷ x5 ∷ x6 ∷ x7 ∷ []) ++ (60 ∷ []))
unfolding Xml.address parted grouped_text
words_text x0 x1 x2 x3 x4 x5 x6 x7 u =
    rw (words_unmapped x0 x1 x2 x3 x4 x5 x6 x7 u) (ap (λ l. parted (octets ":") l ++ (60 ∷ [])) (groups_back x0 x1 x2 x3 x4 x5 x6 x7) ∙ append_assoc (hex_digits 4 x0) (grouped_text (x1 ∷ x2 ∷ x3 ∷ x4 ∷ x5 ∷ x6 ∷ x7 ∷ [])) (60 ∷ []))

grouped_told : (x : ℕ) (xs : List ℕ) (s : Octets) (rs : List Said) (a : Octets) → x < 65536 → AllWords xs → Unmapped [] (x ∷ xs) → suc (length xs) ≡ 8 → s ≡ hex_digits 4 x ++ (grouped_text xs ++ (60 ∷ [])) → a ≡ group_octets (x ∷ xs) → rs ≡ [] → Told s rs a
unfolding Told Good AllWords
grouped_told x xs s rs a m ms u l e f z = view_7 xs (omega (arith, l))
    (λ ys. AllWords ys → Unmapped [] (x ∷ ys) → s ≡ hex_digits 4 x ++ (grouped_text ys ++ (60 ∷ [])) → a ≡ group_octets (x ∷ ys) → Told s rs a)
    (λ x0 x1 x2 x3 x4 x5 x6 n c g h. (
      group_octets (x ∷ x0 ∷ x1 ∷ x2 ∷ x3 ∷ x4 ∷ x5 ∷ x6 ∷ []),
      (words_length x x0 x1 x2 x3 x4 x5 x6, small_all (group_octets (x ∷ x0 ∷ x1 ∷ x2 ∷ x3 ∷ x4 ∷ x5 ∷ x6 ∷ [])) (words_small x x0 x1 x2 x3 x4 x5 x6 (m, n))),
      g ∙ sym (words_text x x0 x1 x2 x3 x4 x5 x6 c),
      z,
      h,
    ))
    ms u e f

pub told : (s : Octets) (rs : List Said) (a : Octets) → Whole {R = Said} address s rs a → Told s rs a
unfolding address End
told s rs a w = go (address_back 7 either [] s rs a (λ _. refl) refl w)
  where
    go : End either [] s rs a → Told s rs a
    go (z, inl d) = dotted_told d.x d.xs s rs a d.small d.smalls (omega (arith, d.size)) d.is d.value z
    go (z, inr d) = grouped_told d.x d.xs s rs a d.small d.smalls d.clear (omega (arith, d.size)) d.is d.value z

unfoldable pub tells_address : Tells address
unfolding Written Told
tells_address = record {
  Data = Octets;
  text = λ v. Xml.address v ++ (60 ∷ []);
  rows = λ _. [];
  value = λ v. v;
  Good = Good;
  into = into;
  back = told;
}
