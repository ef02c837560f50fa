-- What a part of the text, and its end, leave of a reader.
use Rattle.std.specs.Prelude.{◌≡◌, List, Bool, true, false, ℕ, ◌≤◌, ◌<◌, eqb, length, take, if◌then◌else◌}
use Rattle.octets.specs.Octets.{Octets}
use Rattle.octets.specs.Refusing.{OrRefused, ok, not_ok, refusal}
use Rattle.parsing.specs.Reads.{feed, ended, closed}
use Rattle.parsing_limit.specs.Limits.{limited}
use Rattle.report_form.specs.code.ReportReading.{new_reader}
use Rattle.report_kept.specs.declared.ReaderState.{ReaderState}
use Rattle.report_taken.specs.code.Taking.{largest, view, rows_by}
use Rattle.report_runs.specs.code.Runs.{IsTable}
use Rattle.report_reader.specs.declared.Progress.{Progress}

-- octets of a part, one or more where it has any, over a row's 8,432 octets
abbrev pub TakesSome : Octets → List ℕ → ReaderState → (rest row : Octets) → Progress → (after : Octets) → Type 0
TakesSome all begins s rest row r after = IsTable all begins → (r.used ≤ length rest) × (0 < length rest → 0 < r.used) × (length row ≡ 8432
    → (length after ≡ 8432) × (feed (view s row) (take r.used rest) ≡ record { rows = rows_by r.gives r.state after; reader = view r.state after }))

-- it stops behind the octet at which a row is handed out, and else with the part
pub record ReadsOn (s : ReaderState) (part row : Octets) (r : Progress) (after : Octets) : Type 0 where
  pub long : length after ≡ 8432
  pub within : r.used ≤ length part
  pub fed : feed (view s row) (take r.used part) ≡ record { rows = rows_by r.gives r.state after; reader = view r.state after }
  pub whole : r.gives ≡ false → r.used ≡ length part

-- over a row's 8,432 octets
abbrev pub ReadsPart : ReaderState → Octets → Octets → Progress → Octets → Type 0
ReadsPart s part row r after = length row ≡ 8432 → ReadsOn s part row r after

abbrev pub Begins : ReaderState → Type 0
Begins r = (row : Octets) → view r row ≡ limited largest new_reader

-- what a refusal's number says of the end
unfoldable pub end_of : ReaderState → OrRefused (Unit {0})
end_of s = if eqb s.refused 0 then ok tt else not_ok (refusal s.refused s.taken)

abbrev pub Ends : ReaderState → ReaderState → Type 0
Ends s r = (row : Octets) → (ended (view s row) ≡ end_of r) × (closed (view s row) ≡ view r row)

unfoldable pub fresh : ReaderState
fresh = record {
  taken = 0;
  refused = 0;
  value = 0;
  begin = 0;
  count = 0;
  length = 0;
  left = 255;
  ten = 0;
  sixteen = 0;
  node = 0;
  which = 0;
  at = 0;
  label = 0;
  some = 0;
  disposition = 0;
  dkim = 0;
  spf = 0;
  kind = 0;
  digits = 0;
  numbers = 0;
  author = 0;
  identifiers = 0;
  domain = 0;
  selector = 0;
  outcome = 0;
}
