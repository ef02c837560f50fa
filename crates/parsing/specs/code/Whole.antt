-- What a program reads whole, and what that says of the place of a refusal.
use Rattle.std.specs.Prelude.{◌≡◌, List, [], ◌∷◌, ◌++◌, ◌⊎◌, ℕ, suc, ◌<◌, length, take, None}
use Rattle.octets.specs.Octets.{Octets}
use Rattle.octets.specs.Refusing.{ok, not_ok, refusal}
use Rattle.octets.specs.declared.Refusal.{Refusal}
use Rattle.parsing.specs.Reads.{Reads, done, give, next, stuck, run, ended}

-- a text that a program reads whole, the rows that it hands out, and its value
unfoldable pub Whole : {R A : Type 0} → Reads R A → Octets → List R → A → Type 0
Whole (done a) s rs b = (s ≡ []) × (rs ≡ []) × (a ≡ b)
Whole {R} (give r t) s rs b = (qs : List R) × (rs ≡ r ∷ qs) × Whole t s qs b
Whole (next refuses k) s rs b = (x : ℕ) × (u : Octets) × (s ≡ x ∷ u) × (refuses x ≡ None) × Whole (k x) u rs b

-- whether some text that a program reads whole begins so
abbrev pub Begun : {R A : Type 0} → Reads R A → Octets → Type 0
Begun {R} {A} t s = (rest : Octets) × (rs : List R) × (a : A) × Whole t (s ++ rest) rs a

-- a program that takes no octet after which no text could be whole
unfoldable pub Live : {R A : Type 0} → Reads R A → Type 0
Live (done a) = Unit
Live (give r t) = Live t
Live (next refuses k) = ((x : ℕ) × (refuses x ≡ None)) × ((x : ℕ) → refuses x ≡ None → Live (k x))

pub record Reading {R A : Type 0} (t : Reads R A) (s : Octets) : Type 0 where
  -- what is accepted is what it reads whole, with these rows
  pub accepted : (a : A) → ended (run 0 t s).reader ≡ ok a → Whole t s (run 0 t s).rows a
  pub whole : (rs : List R) (a : A) → Whole t s rs a → ((run 0 t s).rows ≡ rs) × (ended (run 0 t s).reader ≡ ok a)
  -- "A refusal's place is the first octet .. that no such text can have there"
  pub place : Live t → (q : Refusal) → (run 0 t s).reader.left ≡ stuck q → (q.place < length s) × Begun t (take q.place s) × (Begun t (take (suc q.place) s) → ⊥)
  -- "22 the text ends early, given at its length"
  pub early : Live t → (q : Refusal) → ended (run 0 t s).reader ≡ not_ok q → (run 0 t s).reader.left ≡ stuck q ⊎ ((q ≡ refusal 22 (length s)) × Begun t s)
