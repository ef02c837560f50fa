-- Laws of values with a refusal in their place.
use Rattle.std.specs.Prelude.{Option, None, Some, option_map}
use mathlib.Core.Path.{◌≡◌, refl}
use mathlib.Core.Bool.{Bool, true, false}
use Prim.Native.Nat.{ℕ}
use native.Mathlib.Omega.{arith}
use Rattle.octets.specs.declared.Refusal.{Refusal}
use Rattle.octets.specs.Refusing.{◌>>=◌, OrRefused, ok, not_ok, refuse_if, or_refuse}

-- a value changed twice
pub option_map_map : {A B C : Type 0} (g : B → C) (f : A → B) (o : Option A) → option_map g (option_map f o) ≡ option_map (λ a. g (f a)) o
option_map_map g f None = refl
option_map_map g f (Some a) = refl

-- one value after another

module _ {A B : Type 0} where
  pub bind_bind : {C : Type 0} (u : OrRefused A) (f : A → OrRefused B) (g : B → OrRefused C) → (u >>= f >>= g) ≡ (u >>= λ a. f a >>= g)
  unfolding ◌>>=◌
  bind_bind (ok a) f g = refl
  bind_bind (not_ok r) f g = refl

  pub bind_same : (u : OrRefused A) (f g : A → OrRefused B) → ((a : A) → f a ≡ g a) → (u >>= f) ≡ (u >>= g)
  unfolding ◌>>=◌
  bind_same (ok a) f g e = e a
  bind_same (not_ok r) f g e = refl

  -- where all is well, each was

  pub bind_ok : (u : OrRefused A) (f : A → OrRefused B) (b : B) → (u >>= f) ≡ ok b → (a : A) × ((u ≡ ok a) × (f a ≡ ok b))
  unfolding ◌>>=◌
  bind_ok (ok a) f b e = (a, (refl, e))
  bind_ok (not_ok r) f b e = absurd (let z : ◌≡◌ {A = ℕ} 0 1 = cc in omega arith)

  pub or_refuse_ok : (o : Option A) (r : Refusal) (f : A → OrRefused B) (b : B) → (or_refuse o r >>= f) ≡ ok b → (a : A) × ((o ≡ Some a) × (f a ≡ ok b))
  unfolding ◌>>=◌ or_refuse
  or_refuse_ok (Some a) r f b e = (a, (refl, e))
  or_refuse_ok None r f b e = absurd (let z : ◌≡◌ {A = ℕ} 0 1 = cc in omega arith)

pub refuse_if_ok : {A : Type 0} (t : Bool) (r : Refusal) (u : OrRefused A) (b : A) → (refuse_if t r >>= λ _. u) ≡ ok b → (t ≡ false) × (u ≡ ok b)
unfolding ◌>>=◌ refuse_if
refuse_if_ok false r u b e = (refl, e)
refuse_if_ok true r u b e = absurd (let z : ◌≡◌ {A = ℕ} 0 1 = cc in omega arith)

pub not_refused : (t : Bool) (r : Refusal) (u : Unit {0}) → refuse_if t r ≡ ok u → t ≡ false
unfolding refuse_if
not_refused false r u e = refl
not_refused true r u e = absurd (let z : ◌≡◌ {A = ℕ} 0 1 = cc in omega arith)
