-- The reader that a state and a row's octets are: every value of them is one, and it takes no more octets than its count can tell.
use Rattle.std.specs.Prelude.{◌≡◌, List, [], ◌∷◌, Bool, true, false, ℕ, eqb, length, if◌then◌else◌}
use Rattle.octets.specs.Octets.{Octets}
use Rattle.octets.specs.Refusing.{refusal}
use Rattle.parsing.specs.Reads.{Left, open_at, stuck, Reader, Fed, feed}
use Rattle.parsing_limit.specs.Limits.{limited}
use Rattle.report_form.specs.ReportForm.{Said}
use Rattle.report_source.specs.code.Sources.{five_zeros}
use Rattle.report_kept.specs.declared.ReaderState.{ReaderState}
use Rattle.report_kept.specs.code.View.{before_in, left_in, said_in}
use Rattle.report_taken.specs.declared.Taken.{Taken}

unfoldable pub largest : ℕ
largest = 18446744073709551615

-- a refusal of number 0 is none
unfoldable pub left_of : ReaderState → Octets → Left Said (Unit {0})
left_of s row = if eqb s.refused 0 then open_at (left_in s row) else stuck (refusal s.refused s.taken)

unfoldable pub counting : ReaderState → Octets → Reader Said (Unit {0})
counting s row = record { taken = s.taken; left = left_of s row }

unfoldable pub view : ReaderState → Octets → Reader Said (Unit {0})
view s row = limited largest (counting s row)

-- the row, where one is handed out
unfoldable pub rows_by : Bool → ReaderState → Octets → List Said
rows_by gives s row = if gives then said_in s row ∷ [] else []

-- an octet, over a row's 8,432 octets
abbrev pub Takes : ReaderState → (x : ℕ) → Octets → Taken → Octets → Type 0
Takes s x row r after = length row ≡ 8432
    → (length after ≡ 8432) × (feed (view s row) (x ∷ []) ≡ record { rows = rows_by r.gives r.state after; reader = view r.state after })

abbrev pub KnowsFive : ReaderState → Octets → Bool → Type 0
KnowsFive s row r = s.node ≡ 64 → five_zeros (before_in s.kind s.numbers row) ≡ r

-- ------------------------------------------------------------------ states

unfoldable pub stopped : (number : ℕ) → ReaderState → ReaderState
stopped number s = record {
  taken = s.taken;
  refused = number;
  value = s.value;
  begin = s.begin;
  count = s.count;
  length = s.length;
  left = s.left;
  ten = s.ten;
  sixteen = s.sixteen;
  node = s.node;
  which = s.which;
  at = s.at;
  label = s.label;
  some = s.some;
  disposition = s.disposition;
  dkim = s.dkim;
  spf = s.spf;
  kind = s.kind;
  digits = s.digits;
  numbers = s.numbers;
  author = s.author;
  identifiers = s.identifiers;
  domain = s.domain;
  selector = s.selector;
  outcome = s.outcome;
}

unfoldable pub counted : (taken : ℕ) → ReaderState → ReaderState
counted taken s = record {
  taken = taken;
  refused = 0;
  value = s.value;
  begin = s.begin;
  count = s.count;
  length = s.length;
  left = s.left;
  ten = s.ten;
  sixteen = s.sixteen;
  node = s.node;
  which = s.which;
  at = s.at;
  label = s.label;
  some = s.some;
  disposition = s.disposition;
  dkim = s.dkim;
  spf = s.spf;
  kind = s.kind;
  digits = s.digits;
  numbers = s.numbers;
  author = s.author;
  identifiers = s.identifiers;
  domain = s.domain;
  selector = s.selector;
  outcome = s.outcome;
}
