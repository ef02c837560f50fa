-- What octets of one literal, word or name leave of a reader.
use Rattle.std.specs.Prelude.{◌≡◌, false, ℕ, ◌+◌, ◌-◌, ◌≤◌, ◌<◌, length, take, get_or, Option, None, Some, Result, Ok}
use mathlib.Core.List.{List, [], flatten}
use Rattle.octets.specs.Octets.{Octets}
use Rattle.octets_pieces.specs.code.Pieces.{starts}
use Rattle.parsing.specs.Reads.{feed}
use Rattle.parsing_steps.specs.Stepping.{step_of, behind}
use Rattle.report_form.specs.ReportForm.{Said}
use Rattle.report_leaves.specs.code.Leaves.{said, Names}
use Rattle.report_leaves.specs.declared.NamePlace.{NamePlace}
use Rattle.report_steps.specs.declared.Leaf.{Leaf}
use Rattle.report_steps.specs.declared.Refusal.{Refusal}
use Rattle.report_kept.specs.declared.Written.{Written}
use Rattle.report_words.specs.code.Table.{texts}
use Rattle.report_kept.specs.declared.ReaderState.{ReaderState}
use Rattle.report_kept.specs.declared.Turn.{Turn}
use Rattle.report_kept.specs.code.View.{Turned, plain, arrived}
use Rattle.report_literals.specs.code.Literals.{next_number_of, LeavesLiteral}
use Rattle.report_choices.specs.code.Choices.{LeavesWord}
use Rattle.report_names.specs.code.Names.{name_left_at}
use Rattle.report_taken.specs.code.Taking.{view}
use Rattle.report_runs.specs.declared.Run.{Run}
use Rattle.report_runs.specs.declared.NameRun.{NameRun}

abbrev pub far : ℕ
far = 18446744073709551000

-- a state behind some octets of its node
unfoldable pub onward : (taken at length label : ℕ) → ReaderState → ReaderState
onward taken at length label s = record {
  taken = taken;
  refused = 0;
  value = s.value;
  begin = s.begin;
  count = s.count;
  length = length;
  left = s.left;
  ten = s.ten;
  sixteen = s.sixteen;
  node = s.node;
  which = s.which;
  at = at;
  label = label;
  some = s.some;
  disposition = s.disposition;
  dkim = s.dkim;
  spf = s.spf;
  kind = s.kind;
  digits = s.digits;
  numbers = s.numbers;
  author = s.author;
  identifiers = s.identifiers;
  domain = s.domain;
  selector = s.selector;
  outcome = s.outcome;
}

-- what so many octets of a part have left, no row among them, over a row's 8,432 octets
abbrev pub Held : ReaderState → (part row : Octets) → ReaderState → (now : Octets) → ℕ → Type 0
Held s part row t now i = length row ≡ 8432 → (length now ≡ 8432) × (feed (view s row) (take i part) ≡ record { rows = []; reader = view t now })

abbrev pub Advances : ReaderState → (rest row : Octets) → Run → (after : Octets) → Type 0
Advances s rest row r after = s.refused ≡ 0 → (r.used ≤ length rest) × Held s rest row r.state after r.used

-- a run, and more behind it
abbrev pub Longer : Run → (rest row : Octets) → Run → (after : Octets) → Type 0
Longer q rest row r after = q.used ≤ length rest
    → (r.used ≤ length rest) × ((s : ReaderState) (row₀ : Octets) → Held s rest row₀ q.state row q.used → Held s rest row₀ r.state after r.used)

-- an octet goes on within a text, and ends it
abbrev pub GoesOn : (text : Octets) → (at x : ℕ) → Type 0
GoesOn text at x = step_of (behind {R = Said} at text) x ≡ said (λ (_ : Unit {0}). behind (at + 1) text) tt (Ok (Leaf.More tt))

abbrev pub Ended : (text : Octets) → (at x : ℕ) → Type 0
Ended text at x = step_of (behind {R = Said} at text) x ≡ said (λ (_ : Unit {0}). behind (at + 1) text) tt (Ok Leaf.Ended)

pub record Matches (text : Octets) (at : ℕ) (rest : Octets) (k : ℕ) : Type 0 where
  pub few : k ≤ 116
  pub room : at + k ≤ 255
  pub within : k ≤ length rest
  pub each : (j : ℕ) → j < k → GoesOn text (at + j) (get_or rest j 0)

-- behind a literal that only leads on
abbrev pub LeadsOn : ReaderState → Turn → Type 0
LeadsOn s r = r ≡ plain false (arrived (next_number_of s.node s.disposition s.dkim s.identifiers s.left) s)

-- behind the literal or word that is open
abbrev pub LeavesPiece : ReaderState → Result Turn Refusal → Type 0
LeavesPiece s r = LeavesLiteral s r × ((s.which ≡ 0 → ⊥) → LeavesWord s (s.which - 1) r)

-- a text is open, and so its octets and its end are a reader's
pub record OpenText (s : ReaderState) (text : Octets) : Type 0 where
  pub apart : s.node < 64
  pub goes : (taken at x : ℕ) → GoesOn text at x
      → Turned (onward taken at s.length s.label s) false x (Ok (plain false (onward taken (at + 1) s.length s.label s)))
  pub ends : (taken at x : ℕ) (r : Result Turn Refusal) → Ended text at x → LeavesPiece (onward taken at s.length s.label s) r
      → Turned (onward taken at s.length s.label s) false x r

-- the text of that number is open, where there is one
unfoldable pub OpenPiece : ReaderState → (number : Option ℕ) → Type 0
OpenPiece s None = Unit {0}
OpenPiece s (Some n) = OpenText s (get_or texts n [])

-- a run within a text, or a name, and the octet that ends it
abbrev pub AtEnd : (text : Octets) → ReaderState → Type 0
AtEnd text s = (s.node < 64) × (s.refused ≡ 0) × ((x : ℕ) (r : Result Turn Refusal) → Ended text s.at x → LeavesPiece s r → Turned s false x r)

abbrev pub EndsPiece : (text : Octets) → Run → (rest row : Octets) → Run → (after : Octets) → Type 0
EndsPiece text q rest row r after = AtEnd text q.state → Longer q rest row r after

abbrev pub AtNameEnd : ReaderState → Type 0
AtNameEnd s = (s.node < 64) × (s.refused ≡ 0) × ((x : ℕ) → Names s.length s.label x (Ok Leaf.Ended) → Turned s false x (Ok (plain false (name_left_at s))))

abbrev pub EndsName : Run → (rest : Octets) → Run → Type 0
EndsName q rest r = AtNameEnd q.state → (row : Octets) → Longer q rest row r row

-- the table of literals and words
abbrev pub IsTable : Octets → List ℕ → Type 0
IsTable all begins = (all ≡ flatten texts) × (begins ≡ starts 0 texts)

abbrev pub RunsPiece : Octets → List ℕ → ReaderState → (rest row : Octets) → Run → (after : Octets) → Type 0
RunsPiece all begins s rest row r after = IsTable all begins → Advances s rest row r after

-- a name is open, and stands from a place of the row on
pub record OpenName (s : ReaderState) (place : ℕ) : Type 0 where
  pub apart : s.node < 64
  pub goes : (taken length label x : ℕ) (q : NamePlace) → Names length label x (Ok (Leaf.More q)) → (q.length ≡ length + 1) × (length < 253)
      → Turned (onward taken s.at length label s) false x (Ok (record { gives = false; state = onward taken s.at q.length q.label s; written = Written.One (place + length) x }))
  pub ends : (taken length label x : ℕ) → Names length label x (Ok Leaf.Ended)
      → Turned (onward taken s.at length label s) false x (Ok (plain false (name_left_at (onward taken s.at length label s))))

pub record Copied (s : ReaderState) (rest row : Octets) (r : NameRun) (after : Octets) : Type 0 where
  pub within : r.used ≤ length rest
  pub held : s.refused ≡ 0 → Held s rest row (onward (s.taken + r.used) s.at r.length r.label s) after r.used

abbrev pub RunsName : (length label place : ℕ) → (rest row : Octets) → NameRun → (after : Octets) → Type 0
RunsName length label place rest row r after =
    (r.used ≤ 253) × ((s : ReaderState) → s.length ≡ length → s.label ≡ label → OpenName s place → s.taken < far → Copied s rest row r after)

-- whatever is open
abbrev pub AdvancesBy : Octets → List ℕ → ReaderState → (rest row : Octets) → Run → (after : Octets) → Type 0
AdvancesBy all begins s rest row r after = IsTable all begins → (r.used ≤ length rest) × Held s rest row r.state after r.used
