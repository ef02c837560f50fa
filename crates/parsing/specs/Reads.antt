-- Programs that read a text octet by octet and hand out rows on the way; a text read whole, and in parts.
use Rattle.std.specs.Prelude.{List, [], ◌∷◌, ◌++◌, Bool, ℕ, suc, eqb, if◌then◌else◌, Option, None, Some}
use Rattle.octets.specs.Octets.{Octets}
use Rattle.octets.specs.Refusing.{OrRefused, ok, not_ok, refusal}
use Rattle.octets.specs.declared.Refusal.{Refusal}

-- it has its value; it hands out a row and goes on; it takes an octet, or refuses it with a number
pub data Reads (R A : Type 0) : Type 0 where
  done : A → Reads R A
  give : R → Reads R A → Reads R A
  next : (refuses : ℕ → Option ℕ) → (ℕ → Reads R A) → Reads R A

-- one program, and then another with its value: what `do` stands for
infixl 20 ◌>>=◌
unfoldable pub ◌>>=◌ : {R A B : Type 0} → Reads R A → (A → Reads R B) → Reads R B
done a >>= f = f a
give r t >>= f = give r (t >>= f)
next refuses k >>= f = next refuses (λ x. k x >>= f)

infixl 20 ◌>>◌
unfoldable pub ◌>>◌ : {R A B : Type 0} → Reads R A → Reads R B → Reads R B
t >> u = t >>= λ _. u

-- an octet that passes a test; any other is refused 20, "text outside the form"
unfoldable pub octet_where : {R A : Type 0} → (ℕ → Bool) → (ℕ → Reads R A) → Reads R A
octet_where f k = next (λ x. if f x then None else Some 20) k

-- these octets
unfoldable pub exactly : {R : Type 0} → Octets → Reads R (Unit {0})
exactly [] = done tt
exactly (c ∷ s) = octet_where (eqb c) (λ x. exactly s)

-- ------------------------------------------------------------------ a reader: how many octets it has taken, and what is left of its program

pub data Left (R A : Type 0) : Type 0 where
  open_at : Reads R A → Left R A
  stuck : Refusal → Left R A

pub record Reader (R A : Type 0) : Type 0 where
  pub taken : ℕ
  pub left : Left R A

-- the rows handed out, and the reader after them
pub record Fed (R A : Type 0) : Type 0 where
  pub rows : List R
  pub reader : Reader R A

unfoldable pub handing : {R A : Type 0} → R → Fed R A → Fed R A
handing r f = record { rows = r ∷ f.rows; reader = f.reader }

abbrev pub stands : {R A : Type 0} → ℕ → Left R A → Fed R A
stands n l = record { rows = []; reader = record { taken = n; left = l } }

-- a program after a part of the text that begins at a place
unfoldable pub run : {R A : Type 0} → ℕ → Reads R A → Octets → Fed R A
run at (give r t) s = handing r (run at t s)
run at (done a) [] = stands at (open_at (done a))
run at (done a) (x ∷ s) = stands at (stuck (refusal 20 at))
run at (next refuses k) [] = stands at (open_at (next refuses k))
run at (next refuses k) (x ∷ s) = elim (refuses x) [ None ↦ run (suc at) (k x) s | Some n ↦ stands at (stuck (refusal n at)) ]

-- a part of the text: "after a refusal every later part gets the same one"
unfoldable pub feed : {R A : Type 0} → Reader R A → Octets → Fed R A
feed r s = elim r.left [ open_at t ↦ run r.taken t s | stuck q ↦ stands r.taken (stuck q) ]

-- parts one after the other
unfoldable pub feed_all : {R A : Type 0} → Reader R A → List Octets → Fed R A
feed_all r [] = record { rows = []; reader = r }
feed_all r (s ∷ ss) = record { rows = (feed r s).rows ++ (feed_all (feed r s).reader ss).rows; reader = (feed_all (feed r s).reader ss).reader }

-- the end is declared: "22 the text ends early, given at its length, only when the end is declared"
unfoldable pub ended : {R A : Type 0} → Reader R A → OrRefused A
ended r = elim r.left [
  | stuck q ↦ not_ok q
  | open_at t ↦ elim t [ done a ↦ ok a | give x u ↦ not_ok (refusal 22 r.taken) | next f k ↦ not_ok (refusal 22 r.taken) ]
]

-- the reader after its end is declared: where that is refused, so is every later part
unfoldable pub closed : {R A : Type 0} → Reader R A → Reader R A
closed r = elim (ended r) [ ok a ↦ r | not_ok q ↦ record { taken = r.taken; left = stuck q } ]
