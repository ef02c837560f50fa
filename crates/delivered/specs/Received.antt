-- What is claimed of reading aggregate reports as they arrive (document 02, Ask 10).
use Rattle.std.specs.Prelude.{◌≡◌, ◌⊎◌, true, ℕ, suc, ◌≤◌, ◌<◌, length, take, Some}
use mathlib.Core.List.{List, ◌++◌, map, flatten}
use Rattle.octets.specs.Octets.{Octets}
use Rattle.octets.specs.Refusing.{ok, not_ok, refusal}
use Rattle.octets.specs.declared.Refusal.{Refusal}
use Rattle.policy.specs.declared.Settings.{Settings}
use Rattle.rows.specs.Lists.{Lists}
use Rattle.rows.specs.Rows.{Listing, on_list}
use Rattle.report.specs.Report.{Reporter, Line, counted_rows, lines, report}
use Rattle.parsing.specs.Reads.{stuck, feed, ended}
use Rattle.report_form.specs.ReportForm.{Said, said, Writing, widths, text_of, good, Form, Begins}
use Rattle.report_form.specs.ReportClaims.{EndBelow, BeginsWider, end_place, handed_by, Kept}
use Rattle.report_form.specs.code.ReportReading.{new_reader, read_report}
use Rattle.report_kept.specs.declared.ReaderState.{ReaderState}
use Rattle.report_parts.specs.declared.Told.{Told}
use Rattle.report_parts.specs.Parts.{LentReader, row_in, IsNew, EndsAt}
use Rattle.report_parts.specs.PartsClaims.{PartCall, FedBy, Called, reader_after, used_by, text_used, rows_given, Lends}

-- of every text, cut anywhere
pub record TextsRead : Type 0 where
  -- "Read the form that Ask 9 writes from any rows": what it writes is of the form
  pub written_in_form : (l : Listing) (lists : Lists) (by : Reporter) (s : Settings) (t : Octets) → Kept l by → report l lists by s ≡ ok t
      → (w : Writing) × (good widths w ≡ true) × (w.reporter.begin ≤ w.reporter.end) × (text_of w ≡ t)
      × (lines lists (counted_rows (on_list l.rows)) ≡ Some w.lines)
  -- and each text of the form, its end not below its begin, is one that it writes
  pub form_written : (w : Writing) → good widths w ≡ true → w.reporter.begin ≤ w.reporter.end
      → (l : Listing) × (lists : Lists) × Kept l w.reporter × (report l lists w.reporter w.settings ≡ ok (text_of w))
  -- "Reading a written report gives the rows written, in order, domains and selectors as it spells them, DKIM before SPF, SPF without selector"
  pub reads_written : (l : Listing) (lists : Lists) (by : Reporter) (s : Settings) (t : Octets) → Kept l by → report l lists by s ≡ ok t
      → (ls : List Line) × (lines lists (counted_rows (on_list l.rows)) ≡ Some ls) × (read_report t ≡ (map said ls, ok tt))
  -- and nothing else is accepted
  pub accepted_exactly : (s : Octets) (rows : List Said) → read_report s ≡ (rows, ok tt)
      → (w : Writing) × (good widths w ≡ true) × (w.reporter.begin ≤ w.reporter.end) × (text_of w ≡ s) × (map said w.lines ≡ rows)
  -- "Each row is handed out when its record ends": of every text of the form, wherever it is cut
  pub handed_out : (w : Writing) → good widths w ≡ true → (n : ℕ) → (feed new_reader (take n (text_of w))).rows ≡ map said (handed_by n w)
  -- and of every text that is refused, those of what stands before the refusal's place
  pub rows_before : (s : Octets) (q : Refusal) → (feed new_reader s).reader.left ≡ stuck q
      → (feed new_reader s).rows ≡ (feed new_reader (take q.place s)).rows
  -- "A refusal's place is the first octet, counted from the start, that no such text can have there, begin and end judged apart"
  pub first_octet : (s : Octets) (q : Refusal) → (feed new_reader s).reader.left ≡ stuck q
      → Begins widths (take q.place s) × ((Begins widths (take (suc q.place) s) → ⊥) ⊎ EndBelow s q.place)
  -- "20 text outside the form .. 21 a digit that takes a begin, end or count over its width"
  pub numbered : (s : Octets) (q : Refusal) → (feed new_reader s).reader.left ≡ stuck q
      → ((q.number ≡ 20) × ((BeginsWider (take (suc q.place) s) → ⊥) ⊎ EndBelow s q.place))
      ⊎ ((q.number ≡ 21) × (Begins widths (take (suc q.place) s) → ⊥) × BeginsWider (take (suc q.place) s))
  -- "20 .. an end below begin at the `<` after it": of every text that is of the form up to that `<`
  pub end_below : (w : Writing) → good widths w ≡ true → w.reporter.end < w.reporter.begin
      → (s : Octets) → take (suc (end_place w.reporter)) s ≡ take (suc (end_place w.reporter)) (text_of w)
      → (feed new_reader s).reader.left ≡ stuck (refusal 20 (end_place w.reporter))
  -- "22 the text ends early, given at its length, only when the end is declared"
  pub ends_early : (s : Octets) (rows : List Said) (p : ℕ) → read_report s ≡ (rows, not_ok (refusal 22 p)) → (p ≡ length s) × Begins widths s × (Form widths s → ⊥)

-- of every list of calls, about the very numbers and octets that a caller gets
pub record CallsRead : Type 0 where
  -- calls that are lent all parts use the whole text
  pub all_used : (r : LentReader) (cs : List PartCall) → Called r cs → (ps : List Octets) → Lends cs ps → text_used cs ≡ flatten ps
  -- "in parts cut anywhere, with nothing kept but a bounded state and the open row. The rows, the refusal and its place are those of the uncut text"
  pub rows_uncut : (s : ReaderState) (row : Octets) → IsNew s → (cs : List PartCall) → Called (record { state = s; row = row }) cs
      → rows_given cs ≡ (feed new_reader (text_used cs)).rows
  pub told_uncut : (s : ReaderState) (row : Octets) → IsNew s → (cs : List PartCall) → Called (record { state = s; row = row }) cs
      → (c : PartCall) → FedBy (reader_after (record { state = s; row = row }) cs) c
      → ((c.told ≡ record { event = 0; number = 0; place = 0; count = 0 }) × ((q : Refusal) → (feed new_reader (text_used cs ++ used_by c)).reader.left ≡ stuck q → ⊥))
      ⊎ (c.told ≡ record { event = 1; number = 0; place = 0; count = (row_in c.after).count })
      ⊎ ((q : Refusal) × ((feed new_reader (text_used cs ++ used_by c)).reader.left ≡ stuck q) × (c.told ≡ record { event = 2; number = q.number; place = q.place; count = 0 }))
  pub end_uncut : (s : ReaderState) (row : Octets) → IsNew s → (cs : List PartCall) → Called (record { state = s; row = row }) cs
      → (after : ReaderState) (told : Told) → EndsAt (reader_after (record { state = s; row = row }) cs).state after told
      → ((ended (feed new_reader (text_used cs)).reader ≡ ok tt) × (told ≡ record { event = 0; number = 0; place = 0; count = 0 }))
      ⊎ ((q : Refusal) × (ended (feed new_reader (text_used cs)).reader ≡ not_ok q) × (told ≡ record { event = 2; number = q.number; place = q.place; count = 0 }))
  -- "after a refusal every later part gets the same one", and so does the end
  pub same_again : (r : LentReader) (c d : PartCall) → FedBy r c → c.told.event ≡ 2 → FedBy c.after d → d.told ≡ c.told
  pub same_at_the_end : (r : LentReader) (c : PartCall) → FedBy r c → c.told.event ≡ 2
      → (after : ReaderState) (told : Told) → EndsAt c.after.state after told → told ≡ c.told
  -- an end that is refused is such a refusal
  pub same_after_the_end : (s after : ReaderState) (told : Told) → EndsAt s after told → told.event ≡ 2
      → (row : Octets) (c : PartCall) → FedBy (record { state = after; row = row }) c → c.told ≡ told
