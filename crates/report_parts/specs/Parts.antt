-- A reader of aggregate reports in the caller's memory, and what each call on it promises (document 02, Ask 10).
use Rattle.std.specs.Prelude.{◌≡◌, List, [], ◌∷◌, Bool, true, false, ℕ, ◌≤◌, eqb, length, take, get_or, if◌then◌else◌}
use Rattle.octets.specs.Octets.{Octets, is_set}
use Rattle.octets.specs.Refusing.{OrRefused, ok, not_ok}
use Rattle.octets.specs.declared.Refusal.{Refusal}
use Rattle.policy.specs.declared.Policy.{Policy}
use Rattle.parsing.specs.Reads.{Left, open_at, stuck, Reader, Fed, feed, ended, closed}
use Rattle.parsing_limit.specs.Limits.{limited}
use Rattle.report_form.specs.ReportForm.{Said}
use Rattle.report_form.specs.code.ReportReading.{new_reader}
use Rattle.report_kept.specs.declared.ReaderState.{ReaderState}
use Rattle.report_kept.specs.Layout.{name_in, listed, source_in}
use Rattle.report_taken.specs.code.Taking.{largest, view}
use Rattle.report_parts.specs.declared.Told.{Told}

-- ------------------------------------------------------------------ a reader

-- its numbers, and the 8,432 octets of its row: "nothing kept but a bounded state and the open row"
pub record LentReader : Type 0 where
  pub state : ReaderState
  pub row : Octets

-- the row that is handed out stands there: dispositions are numbered pass, none, quarantine, reject
unfoldable pub row_in : LentReader → Said
row_in r = record {
  source = source_in r.state.kind r.row;
  count = r.state.count;
  disposition = get_or (Policy.None ∷ Policy.None ∷ Policy.Quarantine ∷ Policy.Reject ∷ []) r.state.disposition Policy.None;
  dkim = is_set r.state.dkim;
  spf = is_set r.state.spf;
  author = name_in 16 r.state.author r.row;
  identifiers = listed r.state.identifiers r.row;
}

-- every value is a reader
unfoldable pub read_as : LentReader → Reader Said (Unit {0})
read_as r = view r.state r.row

-- ------------------------------------------------------------------ what a call tells

-- all is used
abbrev pub told_more : Told
told_more = record { event = 0; number = 0; place = 0; count = 0 }

-- a row is handed out
abbrev pub told_row : Said → Told
told_row s = record { event = 1; number = 0; place = 0; count = s.count }

-- refused
abbrev pub told_refusal : Refusal → Told
told_refusal q = record { event = 2; number = q.number; place = q.place; count = 0 }

unfoldable pub told_left : {A : Type 0} → Left Said A → Told
told_left (open_at t) = told_more
told_left (stuck q) = told_refusal q

-- of a part
unfoldable pub told_of : {A : Type 0} → Fed Said A → Told
told_of f = elim f.rows [ [] ↦ told_left f.reader.left | s ∷ ss ↦ told_row s ]

-- of an end
unfoldable pub told_end : {A : Type 0} → OrRefused A → Told
told_end (ok a) = told_more
told_end (not_ok q) = told_refusal q

-- the row, where the event is 1
unfoldable pub row_given : Told → LentReader → List Said
row_given t r = if eqb t.event 1 then row_in r ∷ [] else []

-- ------------------------------------------------------------------ what a call promises

-- a reader that has read nothing, over any row; it counts to the largest number of 64 bits, which no report reaches
abbrev pub IsNew : ReaderState → Type 0
IsNew s = (row : Octets) → read_as (record { state = s; row = row }) ≡ limited largest new_reader

-- a part: its octets are used up to a row that is handed out, or all
pub record Feeds (before : LentReader) (part : Octets) (after : LentReader) (used : ℕ) (told : Told) : Type 0 where
  pub within : used ≤ length part
  pub whole : (told.event ≡ 1 → ⊥) → used ≡ length part
  pub tells : told ≡ told_of (feed (read_as before) (take used part))
  pub hands : row_given told after ≡ (feed (read_as before) (take used part)).rows
  pub leaves : read_as after ≡ (feed (read_as before) (take used part)).reader

-- the end; the row stays as it is
pub record EndsAt (before after : ReaderState) (told : Told) : Type 0 where
  pub tells : (row : Octets) → told ≡ told_end (ended (read_as (record { state = before; row = row })))
  pub leaves : (row : Octets) → read_as (record { state = after; row = row }) ≡ closed (read_as (record { state = before; row = row }))
