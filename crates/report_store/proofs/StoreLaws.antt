-- Laws of what is written into a row, octet by octet, and of five numbers 0.
use mathlib.Core.Path.{◌≡◌, refl, sym, ap, ◌∙◌}
use mathlib.Core.List.{List, [], ◌∷◌, ◌++◌}
use mathlib.Core.Bool.{Bool, true, false, ◌&&◌}
use Prim.Native.Nat.{ℕ, zero, suc, ◌+◌, ◌*◌, ◌≤◌, ◌<◌}
use native.Mathlib.Omega.{arith}
use lib.Dec.{eqb}
use lib.ListN.{length, take, set, get_or}
use borrow.Author.Tests.{eq-eqb, ne_eqb, eqb-true, eqb-false}
use Rattle.std.specs.Prelude.{if◌then◌else◌}
use Rattle.octets.specs.Octets.{Octets, same}
use Rattle.report_source.specs.code.Sources.{five_zeros}
use Rattle.report_kept.specs.declared.Written.{Written}
use Rattle.report_kept.specs.Layout.{singles, pairs}
use Rattle.report_kept.specs.code.View.{before_in, laid, laid_at, write}
use Rattle.report_origin.proofs.OriginLaws.{before_length}

-- ------------------------------------------------------------------ what is written

pub set_laid : (row : Octets) (at x : ℕ) → at < length row → set row at x ≡ laid_at at (x ∷ []) row
unfolding laid_at laid
set_laid [] at x h = absurd (omega (arith, h))
set_laid (y ∷ row) zero x h = refl
set_laid (y ∷ row) (suc at) x h = ap (λ l. y ∷ l) (set_laid row at x (omega (arith, h)))

pub laid_past : (row : Octets) (at : ℕ) (ws : Octets) → length row ≤ at → row ≡ laid_at at ws row
unfolding laid_at laid
laid_past [] zero [] h = refl
laid_past [] zero (w ∷ ws) h = refl
laid_past [] (suc at) ws h = refl
laid_past (y ∷ row) zero ws h = absurd (omega (arith, h))
laid_past (y ∷ row) (suc at) ws h = ap (λ l. y ∷ l) (laid_past row at ws (omega (arith, h)))

laid_next : (v : ℕ) (ws row : Octets) → laid_at 1 ws (laid (v ∷ []) row) ≡ laid (v ∷ ws) row
unfolding laid_at laid
laid_next v ws [] = refl
laid_next v ws (y ∷ row) = refl

-- one octet, and others behind it
pub laid_more : (i to v : ℕ) (ws row : Octets) → to ≡ suc i → laid_at to ws (laid_at i (v ∷ []) row) ≡ laid_at i (v ∷ ws) row
unfolding laid_at
laid_more zero to v ws row e = ap (λ k. laid_at k ws (laid (v ∷ []) row)) e ∙ laid_next v ws row
laid_more (suc i) zero v ws row e = absurd (omega (arith, e))
laid_more (suc i) (suc to) v ws [] e = refl
laid_more (suc i) (suc to) v ws (y ∷ row) e = ap (λ l. y ∷ l) (laid_more i to v ws row (omega (arith, e)))

module _ (at : ℕ) (row : Octets) where
  pub writes_two : (a b : ℕ) → laid_at (at + 1) (b ∷ []) (laid_at at (a ∷ []) row) ≡ write (Written.Two at a b) row
  unfolding write
  writes_two a b = laid_more at (at + 1) a (b ∷ []) row (omega arith)

  pub writes_three : (a b c : ℕ) → laid_at (at + 2) (c ∷ []) (laid_at (at + 1) (b ∷ []) (laid_at at (a ∷ []) row)) ≡ write (Written.Three at a b c) row
  unfolding write
  writes_three a b c =
      laid_more (at + 1) (at + 2) b (c ∷ []) (laid_at at (a ∷ []) row) (omega arith)
      ∙ laid_more at (at + 1) a (b ∷ c ∷ []) row (omega arith)

  pub writes_four : (a b c d : ℕ) → laid_at (at + 3) (d ∷ []) (laid_at (at + 2) (c ∷ []) (laid_at (at + 1) (b ∷ []) (laid_at at (a ∷ []) row))) ≡ write (Written.Four at a b c d) row
  unfolding write
  writes_four a b c d =
      laid_more (at + 2) (at + 3) c (d ∷ []) (laid_at (at + 1) (b ∷ []) (laid_at at (a ∷ []) row)) (omega arith)
      ∙ laid_more (at + 1) (at + 2) b (c ∷ d ∷ []) (laid_at at (a ∷ []) row) (omega arith)
      ∙ laid_more at (at + 1) a (b ∷ c ∷ d ∷ []) row (omega arith)

-- ------------------------------------------------------------------ five numbers 0

-- all of them, where their sum is
pub five_sum : (a b c d e : ℕ) → eqb (a + b + c + d + e) 0 ≡ five_zeros (a ∷ b ∷ c ∷ d ∷ e ∷ [])
unfolding five_zeros same
five_sum a b c d e = go (eqb a 0) refl (eqb b 0) refl (eqb c 0) refl (eqb d 0) refl (eqb e 0) refl
  where
    not_all : (a + b + c + d + e ≡ 0 → ⊥) → eqb (a + b + c + d + e) 0 ≡ false
    not_all h = ne_eqb (a + b + c + d + e) 0 h

    go : (p : Bool) → eqb a 0 ≡ p → (q : Bool) → eqb b 0 ≡ q → (r : Bool) → eqb c 0 ≡ r → (s : Bool) → eqb d 0 ≡ s → (t : Bool) → eqb e 0 ≡ t
        → eqb (a + b + c + d + e) 0 ≡ (eqb a 0 && (eqb b 0 && (eqb c 0 && (eqb d 0 && (eqb e 0 && true)))))
    go false ea q eb r ec s ed t ee = rw ea (not_all (λ z. eqb-false a 0 ea (omega (arith, z))))
    go true ea false eb r ec s ed t ee = rw (ea, eb) (not_all (λ z. eqb-false b 0 eb (omega (arith, z))))
    go true ea true eb false ec s ed t ee = rw (ea, eb, ec) (not_all (λ z. eqb-false c 0 ec (omega (arith, z))))
    go true ea true eb true ec false ed t ee = rw (ea, eb, ec, ed) (not_all (λ z. eqb-false d 0 ed (omega (arith, z))))
    go true ea true eb true ec true ed false ee = rw (ea, eb, ec, ed, ee) (not_all (λ z. eqb-false e 0 ee (omega (arith, z))))
    go true ea true eb true ec true ed true ee =
        rw (ea, eb, ec, ed, ee) (eq-eqb (a + b + c + d + e) 0 (omega (arith, eqb-true a 0 ea, eqb-true b 0 eb, eqb-true c 0 ec, eqb-true d 0 ed, eqb-true e 0 ee)))

abbrev pair : Octets → ℕ → ℕ
pair row at = get_or row at 0 * 256 + get_or row (at + 1) 0

module _ (row : Octets) {a b c d e : ℕ} where
  pub octets_sum : a ≡ get_or row 12 0 → b ≡ get_or row 13 0 → c ≡ get_or row 14 0 → d ≡ get_or row 15 0 → e ≡ get_or row 16 0
      → eqb (a + b + c + d + e) 0 ≡ five_zeros (singles 5 row)
  unfolding singles
  octets_sum p q r s t = five_sum a b c d e ∙ (λ j. five_zeros (p j ∷ q j ∷ r j ∷ s j ∷ t j ∷ []))

  pub groups_sum : a ≡ pair row 0 → b ≡ pair row 2 → c ≡ pair row 4 → d ≡ pair row 6 → e ≡ pair row 8 → eqb (a + b + c + d + e) 0 ≡ five_zeros (pairs 5 row)
  unfolding pairs
  groups_sum p q r s t = five_sum a b c d e ∙ (λ j. five_zeros (p j ∷ q j ∷ r j ∷ s j ∷ t j ∷ []))

same_long : (xs ys : Octets) → (length xs ≡ length ys → ⊥) → same xs ys ≡ false
unfolding same
same_long [] [] h = absurd (h refl)
same_long [] (y ∷ ys) h = refl
same_long (x ∷ xs) [] h = refl
same_long (x ∷ xs) (y ∷ ys) h = ap (λ b. eqb x y && b) (same_long xs ys (λ e. h (ap suc e))) ∙ no_more (eqb x y)
  where
    no_more : (b : Bool) → (b && false) ≡ false
    no_more true = refl
    no_more false = refl

module _ (kind numbers : ℕ) (row : Octets) where
  pub not_five : (numbers ≡ 5 → ⊥) → false ≡ five_zeros (before_in kind numbers row)
  unfolding five_zeros
  not_five h = sym (same_long (before_in kind numbers row) (0 ∷ 0 ∷ 0 ∷ 0 ∷ 0 ∷ []) (λ e. h (sym (before_length kind numbers row) ∙ e)))

  pub five_dotted : numbers ≡ 5 → kind ≡ 1 → five_zeros (singles 5 row) ≡ five_zeros (before_in kind numbers row)
  unfolding before_in
  five_dotted n k = rw (n, eq-eqb kind 1 k) refl

  pub five_grouped : numbers ≡ 5 → (kind ≡ 1 → ⊥) → five_zeros (pairs 5 row) ≡ five_zeros (before_in kind numbers row)
  unfolding before_in
  five_grouped n k = rw (n, ne_eqb kind 1 k) refl
