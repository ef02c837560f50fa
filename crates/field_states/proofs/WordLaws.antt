-- What an octet leaves of a word.
use mathlib.Core.Path.{◌≡◌, refl, sym, ap, subst, ◌∙◌}
use mathlib.Core.List.{List, [], ◌∷◌, cons≢nil}
use mathlib.Core.Logic.{◌⊎◌, inl, inr}
use mathlib.Core.Bool.{Bool, true, false, ◌&&◌, not, false≢true, true≢false}
use Prim.Native.Nat.{ℕ, zero, suc, ◌+◌, ◌-◌, ◌≤◌}
use native.Mathlib.Omega.{arith}
use native.Mathlib.Numerals.{add-one}
use lib.Dec.{eqb, leb}
use lib.ListN.{drop}
use borrow.Author.Tests.{eqb-true, eqb-false, leb-true, le-leb}
use Rattle.octets.specs.Octets.{Octets, octets, all, between, lower_octet}
use Rattle.grammar.specs.Grammar.{Grammar, none, empty, ◌then◌, ◌or◌}
use Rattle.grammar.specs.code.Finding.{has_empty}
use Rattle.grammar.proofs.SameLaws.{assoc, empty_then, On, Dead, on_from, on_to, dead_none, on_one, on_left, on_right, dead_then}
use Rattle.field.specs.Field.{one, letter, literal}
use Rattle.field_states.specs.declared.Word.{Word}
use Rattle.field_states.specs.declared.Spelled.{Spelled}
use Rattle.field_states.specs.code.States.{word_text, spelled}
use Rattle.field_states.proofs.BlankLaws.{on_it, not_it, not_empty_one}

-- ------------------------------------------------------------------ tests

pub within : (a b x : ℕ) → between a b x ≡ true → (a ≤ x) × (x ≤ b)
unfolding between
within a b x e = go (leb a x) refl (leb x b) refl
  where
    go : (p : Bool) → leb a x ≡ p → (q : Bool) → leb x b ≡ q → (a ≤ x) × (x ≤ b)
    go true f true g = (leb-true a x f, leb-true x b g)
    go true f false g = absurd (false≢true (rw (f, g) at e))
    go false f q g = absurd (false≢true (rw f at e))

pub not_within : (a b x : ℕ) → between a b x ≡ false → a ≤ x → x ≤ b → ⊥
unfolding between
not_within a b x e h i = true≢false (rw (le-leb a x h, le-leb x b i) at e)

pub is_within : (a b x : ℕ) → a ≤ x → x ≤ b → between a b x ≡ true
unfolding between
is_within a b x h i = rw (le-leb a x h, le-leb x b i)

pub is_not_within : (a b x : ℕ) → (a ≤ x → x ≤ b → ⊥) → between a b x ≡ false
is_not_within a b x h = go (between a b x) refl
  where
    go : (p : Bool) → between a b x ≡ p → between a b x ≡ false
    go true e = absurd (h (within a b x e).0 (within a b x e).1)
    go false e = e

-- ------------------------------------------------------------------ letters

-- in lower case, or no letter
abbrev Small : ℕ → Type 0
Small c = 65 ≤ c → c ≤ 90 → ⊥

lower_up : (x : ℕ) → 65 ≤ x → x ≤ 90 → lower_octet x ≡ x + 32
unfolding lower_octet
lower_up x h i = rw (is_within 65 90 x h i)

lower_small : (x : ℕ) → Small x → lower_octet x ≡ x
unfolding lower_octet
lower_small x h = rw (is_not_within 65 90 x h)

letter_is : (c : ℕ) → 97 ≤ c → c ≤ 122 → letter c ≡ (one c or one (c - 32))
unfolding letter
letter_is c h i = rw (is_within 97 122 c h i)

letter_not : (c : ℕ) → (97 ≤ c → c ≤ 122 → ⊥) → letter c ≡ one c
unfolding letter
letter_not c h = rw (is_not_within 97 122 c h)

-- either a test holds, or it does not
within_or : (a b x : ℕ) → ((a ≤ x) × (x ≤ b)) ⊎ (a ≤ x → x ≤ b → ⊥)
within_or a b x = go (between a b x) refl
  where
    go : (p : Bool) → between a b x ≡ p → ((a ≤ x) × (x ≤ b)) ⊎ (a ≤ x → x ≤ b → ⊥)
    go true e = inl (within a b x e)
    go false e = inr (not_within a b x e)

on_that : (x c : ℕ) → x ≡ c → On x (one c) empty
on_that x c e = subst (λ y. On x (one y) empty) e (on_it x)

pub letter_on : (x c : ℕ) → Small c → lower_octet x ≡ c → On x (letter c) empty
letter_on x c h e = elim (within_or 97 122 c) [
  | inl l ↦ rw (letter_is c l.0 l.1) (elim (within_or 65 90 x) [
    | inl u ↦ on_right (not_it x c (λ f. omega (arith, f, u, l))) (on_that x (c - 32) (omega (arith, sym (lower_up x u.0 u.1) ∙ e)))
    | inr u ↦ on_left (on_that x c (sym (lower_small x u) ∙ e)) (not_it x (c - 32) (λ f. omega (arith, f, l, sym (lower_small x u) ∙ e)))
  ])
  | inr l ↦ rw (letter_not c l) (elim (within_or 65 90 x) [
    | inl u ↦ absurd (l (omega (arith, u, sym (lower_up x u.0 u.1) ∙ e)) (omega (arith, u, sym (lower_up x u.0 u.1) ∙ e)))
    | inr u ↦ on_that x c (sym (lower_small x u) ∙ e)
  ])
]

pub letter_dead : (x c : ℕ) → Small c → (lower_octet x ≡ c → ⊥) → Dead x (letter c)
letter_dead x c h k = elim (within_or 97 122 c) [
  | inl l ↦ rw (letter_is c l.0 l.1) (on_left (not_it x c same) (not_it x (c - 32) (λ f. k (lower_up x (omega (arith, f, l)) (omega (arith, f, l)) ∙ omega (arith, f, l)))))
  | inr l ↦ rw (letter_not c l) (not_it x c same)
]
  where
    same : x ≡ c → ⊥
    same f = k (ap lower_octet f ∙ lower_small c h)

pub letter_not_empty : (c : ℕ) → has_empty (letter c) ≡ false
unfolding has_empty one
letter_not_empty c = elim (within_or 97 122 c) [ inl l ↦ two (letter_is c l.0 l.1) | inr l ↦ rw (letter_not c l) (not_empty_one c) ]
  where
    two : letter c ≡ (one c or one (c - 32)) → has_empty (letter c) ≡ false
    two e = rw e

-- ------------------------------------------------------------------ words

unfoldable pub small : ℕ → Bool
small c = not (between 65 90 c)

is_small : (c : ℕ) → small c ≡ true → Small c
unfolding small
is_small c e h i = false≢true (rw (is_within 65 90 c h i) at e)

pub small_words : (w : Word) → all small (word_text w) ≡ true
unfolding all small between word_text octets
small_words Word.Name = refl
small_words Word.None = refl
small_words Word.Dkim = refl
small_words Word.Spf = refl

both : (a b : Bool) → (a && b) ≡ true → (a ≡ true) × (b ≡ true)
both true b e = (refl, e)
both false b e = absurd (false≢true e)

small_drop : (k : ℕ) (t : Octets) → all small t ≡ true → all small (drop k t) ≡ true
unfolding all
small_drop zero t e = e
small_drop (suc k) [] e = e
small_drop (suc k) (c ∷ t) e = small_drop k t (both (small c) (all small t) e).1

-- what is left of a word, and what comes after it; of a word that is over nothing is left to read
unfoldable pub left_of : Octets → Grammar → Grammar
left_of [] e = none
left_of (c ∷ w) e = literal (c ∷ w) then e

module _ (x : ℕ) (e : Grammar) where
  pub data Spells (t : Octets) : Spelled → Type 0 where
    wrong : Dead x (left_of t e) → Spells t Spelled.Wrong
    further : (c d : ℕ) (w : Octets) → t ≡ c ∷ d ∷ w → On x (left_of t e) (left_of (d ∷ w) e) → Spells t Spelled.Further
    whole : On x (left_of t e) e → Spells t Spelled.Whole

  pub first_letter : (c : ℕ) (w : Octets) → Small c → lower_octet x ≡ c → On x (left_of (c ∷ w) e) (literal w then e)
  unfolding left_of literal
  first_letter c w h i = on_from (assoc (letter c) (literal w) e) (on_one (letter_not_empty c) (letter_on x c h i))

  pub other_letter : (c : ℕ) (w : Octets) → Small c → (lower_octet x ≡ c → ⊥) → Dead x (left_of (c ∷ w) e)
  unfolding left_of literal
  other_letter c w h i = on_from (assoc (letter c) (literal w) e) (dead_then (letter_not_empty c) (letter_dead x c h i))

  pub spells : (t : Octets) → all small t ≡ true → Spells t (spelled t x)
  unfolding spelled all left_of literal
  spells [] h = wrong (dead_none x)
  spells (c ∷ []) h = go (eqb (lower_octet x) c) refl
    where
      sm : Small c
      sm = is_small c (both (small c) true h).0

      go : (b : Bool) → eqb (lower_octet x) c ≡ b → Spells (c ∷ []) (spelled (c ∷ []) x)
      go true i = rw i (whole (on_to (first_letter c [] sm (eqb-true (lower_octet x) c i)) (empty_then e)))
      go false i = rw i (wrong (other_letter c [] sm (eqb-false (lower_octet x) c i)))
  spells (c ∷ d ∷ w) h = go (eqb (lower_octet x) c) refl
    where
      sm : Small c
      sm = is_small c (both (small c) (all small (d ∷ w)) h).0

      go : (b : Bool) → eqb (lower_octet x) c ≡ b → Spells (c ∷ d ∷ w) (spelled (c ∷ d ∷ w) x)
      go true i = rw i (further c d w refl (first_letter c (d ∷ w) sm (eqb-true (lower_octet x) c i)))
      go false i = rw i (wrong (other_letter c (d ∷ w) sm (eqb-false (lower_octet x) c i)))

pub spells_at : (x : ℕ) (e : Grammar) (w : Word) (k : ℕ) → Spells x e (drop k (word_text w)) (spelled (drop k (word_text w)) x)
spells_at x e w k = spells x e (drop k (word_text w)) (small_drop k (word_text w) (small_words w))

-- one octet on
pub drop_next : (k : ℕ) (t : Octets) (c : ℕ) (w : Octets) → drop k t ≡ c ∷ w → drop (k + 1) t ≡ w
drop_next k t c w e = ap (λ j. drop j t) (add-one k) ∙ go k t e
  where
    go : (k : ℕ) (t : Octets) → drop k t ≡ c ∷ w → drop (suc k) t ≡ w
    go zero [] f = absurd (cons≢nil (sym f))
    go zero (y ∷ t) f = mathlib.Core.List.tail-eq_of_cons-eq f
    go (suc k) [] f = absurd (cons≢nil (sym f))
    go (suc k) (y ∷ t) f = go k t f
