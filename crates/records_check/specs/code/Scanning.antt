-- One record of a sheet as the code checks it, after those before it.
use mathlib.Core.List.{List, map, flatten}
use Rattle.std.specs.Prelude.{ℕ, ◌-◌, ltb, length, Result, Ok, Err, Option, None, Some}
use Rattle.octets.specs.Octets.{Octets}
use Rattle.octets.specs.Refusing.{◌>>=◌, OrRefused, ok, not_ok, refusal}
use Rattle.records.specs.declared.Phase.{Phase}
use Rattle.records.specs.Sheet.{Entry, phase_after, answered_name, entry_at}
use Rattle.records_fields.specs.code.Layout.{listed}

-- the names that the first k records answer
unfoldable pub names_before : ℕ → Octets → List Octets
names_before k sheet = flatten (map answered_name (listed k sheet))

-- what may come after a record, where it can be read
unfoldable pub phase_read : Phase → Option Entry → Option Phase
phase_read phase None = None
phase_read phase (Some r) = phase_after phase r

abbrev pub phase_only : OrRefused (Entry × Phase) → OrRefused Phase
phase_only u = u >>= λ e. ok e.1

-- what may come after the record at the front of t, which follows the first k records of a sheet
abbrev pub phase_entered : ℕ → Phase → (t sheet : Octets) → OrRefused Phase
phase_entered k phase t sheet = phase_only (entry_at (ltb 65536 (length sheet)) phase (names_before k sheet) (length sheet - length t) t)

-- and how the code says it
unfoldable pub next_as : Result Phase ℕ → OrRefused Phase
next_as (Ok phase) = ok phase
next_as (Err place) = not_ok (refusal 8 place)
