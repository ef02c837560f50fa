-- What is claimed of every reading program, of parts.
use Rattle.std.specs.Prelude.{◌≡◌, take}
use mathlib.Core.List.{List, [], ◌∷◌, ◌++◌, flatten}
use Rattle.octets.specs.Octets.{Octets}
use Rattle.octets.specs.Refusing.{not_ok}
use Rattle.octets.specs.declared.Refusal.{Refusal}
use Rattle.parsing.specs.Reads.{Reads, Reader, open_at, stuck, feed, feed_all, ended, closed}

abbrev pub new : {R A : Type 0} → Reads R A → Reader R A
new t = record { taken = 0; left = open_at t }

pub record Parts {R A : Type 0} (t : Reads R A) : Type 0 where
  -- "in parts cut anywhere": "The rows, the refusal and its place are those of the uncut text"
  pub any_cutting : (s : Octets) (ss : List Octets) → feed_all (new t) (s ∷ ss) ≡ feed (new t) (s ++ flatten ss)
  -- "after a refusal every later part gets the same one"
  pub same_again : (s u : Octets) (q : Refusal) → (feed (new t) s).reader.left ≡ stuck q → feed (feed (new t) s).reader u ≡ record { rows = []; reader = (feed (new t) s).reader }
  -- of a declared end too
  pub after_the_end : (s u : Octets) (q : Refusal) → ended (feed (new t) s).reader ≡ not_ok q
      → ((closed (feed (new t) s).reader).left ≡ stuck q) × (feed (closed (feed (new t) s).reader) u ≡ record { rows = []; reader = closed (feed (new t) s).reader })
  -- the rows handed out are those of what stands before the refusal's place
  pub rows_before : (s : Octets) (q : Refusal) → (feed (new t) s).reader.left ≡ stuck q → (feed (new t) s).rows ≡ (feed (new t) (take q.place s)).rows
