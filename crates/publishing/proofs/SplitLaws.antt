-- Laws of texts with no blank at either end, and of texts up to a mark.
use mathlib.Core.Path.{◌≡◌, refl, ap, sym, ◌∙◌}
use mathlib.Core.List.{[], ◌∷◌, ◌++◌, reverse, reverse-append, reverse-reverse}
use mathlib.Core.Bool.{Bool, true, false}
use Prim.Native.Nat.{ℕ, ◌≤◌, ◌<◌}
use native.Mathlib.Omega.{arith}
use lib.Dec.{T, eqb}
use lib.ListN.{length, length-drop, length-reverse}
use borrow.Author.Tests.{eq-eqb, ne_eqb, eqb-false}
use Rattle.octets.specs.Octets.{Octets, all, any, one_of, split, onto_first, front, after, is_blank, trim_end, trim}
use Rattle.octets.proofs.TextLaws.{and_left, and_right, T→true}
use Rattle.octets.proofs.ListLaws.{neither}
use Rattle.octets.proofs.PartLaws.{front_fits, after_drop, split_found, split_other}

module _ (f : ℕ → Bool) where
  -- ---------------------------------------------------------------- octets at the front

  after_length : (s : Octets) → length (after f s) ≤ length s
  after_length s = omega (arith, ap length (after_drop f s), length-drop (length (front f s)) s)

  -- a text that loses none keeps its first octet, whatever follows
  after_all : (s : Octets) → length s ≤ length (after f s) → after f s ≡ s
  after_all s h =
      let none : length (front f s) ≡ 0 = omega (arith, front_fits f s, ap length (after_drop f s), length-drop (length (front f s)) s) in
      after_drop f s ∙ rw none

  pub after_more : (s u : Octets) → 0 < length s → after f s ≡ s → after f (s ++ u) ≡ s ++ u
  unfolding after
  after_more [] u h e = absurd (omega arith)
  after_more (x ∷ s) u h e = go (f x) refl
    where
      go : (b : Bool) → f x ≡ b → after f (x ∷ s ++ u) ≡ x ∷ s ++ u
      go true d = absurd (omega (arith, after_length s, ap length (rw (d, after) at e)))
      go false d = rw (d, after)

  -- ---------------------------------------------------------------- the front part up to a mark outside the class

  pub front_to : (c : ℕ) (s u : Octets) → f c ≡ false → T (all f s) → front f (s ++ (c ∷ u)) ≡ s
  unfolding front all
  front_to c [] u e t = rw (e, front)
  front_to c (x ∷ s) u e t = rw (T→true (f x) (and_left (f x) (all f s) t), front) (ap (λ (l : Octets). x ∷ l) (front_to c s u e (and_right (f x) (all f s) t)))

  pub after_to : (c : ℕ) (s u : Octets) → f c ≡ false → T (all f s) → after f (s ++ (c ∷ u)) ≡ c ∷ u
  unfolding after all
  after_to c [] u e t = rw (e, after)
  after_to c (x ∷ s) u e t = rw (T→true (f x) (and_left (f x) (all f s) t), after) (after_to c s u e (and_right (f x) (all f s) t))

-- ------------------------------------------------------------------ a text with no blank at either end

module _ (v : Octets) (e : trim v ≡ v) where
  -- the blanks at the end are those at the front, read backwards
  no_last : after is_blank (reverse v) ≡ reverse v
  unfolding trim trim_end
  no_last =
      let end : length (trim_end v) ≡ length (after is_blank (reverse v)) = length-reverse (after is_blank (reverse v)) in
      after_all is_blank (reverse v) (omega (arith, length-reverse v, end, after_length is_blank (trim_end v), ap length e))

  pub no_first : after is_blank v ≡ v
  unfolding trim trim_end
  no_first = ap (after is_blank) (sym (ap reverse no_last ∙ reverse-reverse v)) ∙ e

  -- nor at the end of a text that ends in it
  pub end_after : (a : Octets) → 0 < length v → trim_end (a ++ v) ≡ a ++ v
  unfolding trim_end
  end_after a h =
      ap reverse (ap (after is_blank) (reverse-append a v) ∙ after_more is_blank (reverse v) (reverse a) (omega (arith, length-reverse v)) no_last ∙ sym (reverse-append a v))
      ∙ reverse-reverse (a ++ v)

-- ------------------------------------------------------------------ a text split at a mark

module _ (c : ℕ) where
  other : (x : ℕ) (s : Octets) → one_of (x ∷ s) c ≡ false → (eqb x c ≡ false) × (one_of s c ≡ false)
  unfolding one_of any
  other x s h =
      let (first, rest) = neither (eqb c x) (one_of s c) h in
      (ne_eqb x c (λ e. eqb-false c x first (sym e)), rest)

  pub split_none : (s : Octets) → one_of s c ≡ false → split c s ≡ s ∷ []
  unfolding split onto_first
  split_none [] h = refl
  split_none (x ∷ s) h =
      let (o, rest) = other x s h in
      split_other c x s o ∙ ap (onto_first x) (split_none s rest)

  pub split_at : (s u : Octets) → one_of s c ≡ false → split c (s ++ (c ∷ u)) ≡ s ∷ split c u
  unfolding onto_first
  split_at [] u h = split_found c c u (eq-eqb c c refl)
  split_at (x ∷ s) u h =
      let (o, rest) = other x s h in
      split_other c x (s ++ (c ∷ u)) o ∙ ap (onto_first x) (split_at s u rest)
