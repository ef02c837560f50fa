-- A writer that counts on where lent memory has no room: one round tells the room that the next one needs.
use Rattle.std.specs.Prelude.{◌≡◌, ℕ, ◌+◌, ◌^◌, ◌<◌, ◌≤◌, length}
use Rattle.octets.specs.Octets.{Octets}
use Rattle.octets_append.specs.code.Appending.{Appends}

-- the promise: the place after the text, whatever the room; and where there is room, the text from the place on
pub record Puts (text : Octets) (at : ℕ) (before : Octets) (next : ℕ) (after : Octets) : Type 0 where
  pub counts : at + length text < 2 ^ 64 → next ≡ at + length text
  pub appends : at + length text ≤ length before → Appends text at before next after
  pub keeps : length after ≡ length before
