-- Laws of tests over lists, and over the octets of a text.
use Rattle.std.specs.Prelude.{None, Some}
use mathlib.Core.Path.{◌≡◌, refl, ap, ap₂, ◌∙◌}
use mathlib.Core.List.{List, [], ◌∷◌, ◌++◌}
use mathlib.Core.Bool.{Bool, true, false, ◌&&◌, ◌||◌, or-true, true≢false}
use Prim.Native.Nat.{ℕ, zero, suc, ◌+◌, ◌-◌, ◌≤◌, ◌<◌}
use native.Mathlib.Omega.{arith}
use native.Mathlib.Numerals.{add-one}
use lib.ListN.{length, take, drop, get_or, drop_of_length-le}
use lib.Seq.{drop-cons, take-nil}
use Rattle.octets.specs.Octets.{Octets, any, all}
use Rattle.octets.specs.Refusing.{numbered}

-- a number past a list of cases
pub past : {A : Type 0} (xs : List A) (n : ℕ) (d : A) → length xs ≤ n → get_or xs n d ≡ d
past [] n d h = refl
past (x ∷ xs) zero d h = absurd (omega (arith, h))
past (x ∷ xs) (suc n) d h = past xs n d (omega (arith, h))

-- its bound is built up one case at a time
pub further : (k n : ℕ) → k ≤ n → (n ≡ k → ⊥) → suc k ≤ n
further k n h differs = omega arith

pub any_append : {A : Type 0} (f : A → Bool) (a b : List A) → any f (a ++ b) ≡ (any f a || any f b)
unfolding any
any_append f [] b = refl
any_append f (x ∷ a) b = elim (f x) as (λ t. (t || any f (a ++ b)) ≡ ((t || any f a) || any f b)) [ true ↦ refl | false ↦ any_append f a b ]

-- a test that is one of two
exchange : (a b c d : Bool) → ((a || b) || (c || d)) ≡ ((a || c) || (b || d))
exchange true b c d = refl
exchange false true true d = refl
exchange false true false d = refl
exchange false false c d = refl

pub any_either : {A : Type 0} (f g h : A → Bool) → ((x : A) → h x ≡ (f x || g x)) → (l : List A) → any h l ≡ (any f l || any g l)
unfolding any
any_either f g h e [] = refl
any_either f g h e (x ∷ l) = ap₂ ◌||◌ (e x) (any_either f g h e l) ∙ exchange (f x) (g x) (any f l) (any g l)

-- a stronger test: where an element meets it, one meets the weaker
pub any_weaker : {A : Type 0} (f g : A → Bool) → ((x : A) → f x ≡ true → g x ≡ true) → (l : List A) → any f l ≡ true → any g l ≡ true
unfolding any
any_weaker f g h [] e = e
any_weaker f g h (x ∷ l) e = go (h x) (any_weaker f g h l) (f x) refl e
  where
    go : (f x ≡ true → g x ≡ true) → (any f l ≡ true → any g l ≡ true) → (b : Bool) → f x ≡ b → (b || any f l) ≡ true → (g x || any g l) ≡ true
    go first others true p q = ap (λ b. b || any g l) (first p)
    go first others false p q = ap (λ b. g x || b) (others q) ∙ or-true (g x)

-- neither of two tests holds
pub neither : (a b : Bool) → (a || b) ≡ false → (a ≡ false) × (b ≡ false)
neither true b e = absurd (true≢false e)
neither false b e = (refl, e)

-- ------------------------------------------------------------------ numbers of a list

module _ {A : Type 0} where
  pub numbered_in : (l : List A) (n : ℕ) (d : A) → n < length l → numbered l n ≡ Some (get_or l n d)
  unfolding numbered
  numbered_in [] n d h = absurd (omega arith)
  numbered_in (a ∷ l) zero d h = refl
  numbered_in (a ∷ l) (suc n) d h = numbered_in l n d (omega arith)

  pub numbered_out : (l : List A) (n : ℕ) → length l ≤ n → numbered l n ≡ None
  unfolding numbered
  numbered_out [] n h = refl
  numbered_out (a ∷ l) zero h = absurd (omega arith)
  numbered_out (a ∷ l) (suc n) h = numbered_out l n (omega arith)

-- ------------------------------------------------------------------ the octets of a text, one by one

module _ (f : ℕ → Bool) (s : Octets) (i : ℕ) where
  pub all_next : i < length s → all f (drop i s) ≡ (f (get_or s i 0) && all f (drop (i + 1) s))
  unfolding all
  all_next h = rw (add-one i, drop-cons s i 0 h)

  pub all_end : length s ≤ i → all f (drop i s) ≡ true
  unfolding all
  all_end h = rw (drop_of_length-le s h)

-- ------------------------------------------------------------------ parts

-- the end of a front part
pub drop_take : (m n : ℕ) (s : Octets) → drop m (take n s) ≡ take (n - m) (drop m s)
drop_take zero n s = let e : n - 0 ≡ n = omega arith in rw e
drop_take (suc m) zero s = let e : 0 - suc m ≡ 0 = omega arith in rw e
drop_take (suc m) (suc n) [] = rw take-nil
drop_take (suc m) (suc n) (x ∷ s) = let e : suc n - suc m ≡ n - m = omega arith in rw e (drop_take m n s)
