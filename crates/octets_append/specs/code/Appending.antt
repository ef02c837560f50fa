-- One text after another in lent memory.
use Rattle.std.specs.Prelude.{◌≡◌, ◌++◌, Bool, ℕ, ◌+◌, leb, length, take, drop, if◌then◌else◌}
use Rattle.octets.specs.Octets.{Octets}
use Rattle.octets.specs.Lent.{over}

-- whether the memory has room for the text from a place on
unfoldable pub fits_at : Octets → ℕ → Octets → Bool
fits_at text at memory = leb (at + length text) (length memory)

-- the promise of a writer that goes on at a place: the text stands there, and the place after it is given; or, without room, nothing moves
pub record Appends (text : Octets) (at : ℕ) (before : Octets) (next : ℕ) (after : Octets) : Type 0 where
  pub moves : next ≡ (if fits_at text at before then at + length text else at)
  pub leaves : after ≡ (if fits_at text at before then take at before ++ over text (drop at before) else before)
