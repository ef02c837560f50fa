-- What is claimed of reading an aggregate report (document 02, Ask 10), by Ask 9's text alone.
use Rattle.std.specs.Prelude.{◌≡◌, List, [], ◌∷◌, ◌++◌, map, ◌⊎◌, true, false, ℕ, suc, ◌+◌, ◌-◌, ◌≤◌, ◌<◌, leb, length, take, get_or, if◌then◌else◌, Some}
use Rattle.octets.specs.Octets.{Octets, octets, all}
use Rattle.octets.specs.Decimal.{decimal}
use Rattle.octets.specs.Refusing.{ok, not_ok, refusal}
use Rattle.octets.specs.declared.Refusal.{Refusal}
use Rattle.policy.specs.declared.Settings.{Settings}
use Rattle.rows.specs.Lists.{Lists}
use Rattle.rows.specs.Rows.{Listing, on_list}
use Rattle.report.specs.Report.{Reporter, metadata, published, policy_published, Line, record_element, counted_rows, lines, report}
use Rattle.parsing.specs.Reads.{stuck, feed}
use Rattle.parsing.specs.Claims.{Parts}
use Rattle.report_form.specs.ReportForm.{Said, said, Writing, Widths, widths, good_row, text_of, good, Form, Begins}
use Rattle.report_form.specs.code.ReportReading.{reading_report as reading, new_reader, read_report}

-- "an end below begin at the `<` after it"
pub record EndBelow (s : Octets) (place : ℕ) : Type 0 where
  pub front : Octets
  pub begin : ℕ
  pub end : ℕ
  pub written : take place s ≡ front ++ octets "<begin>" ++ decimal begin ++ octets "</begin><end>" ++ decimal end
  pub below : end < begin
  pub there : get_or s place 0 ≡ 60

-- whether a text could begin so if begin, end and counts had wider numbers
abbrev pub BeginsWider : Octets → Type 0
BeginsWider s = (ws : Widths) × Begins ws s

-- what stands before the policy published
unfoldable pub opening_of : Reporter → Octets
opening_of by =
    octets "<?xml version=\"1.0\" encoding=\"UTF-8\"?>"
    ++ octets "<feedback xmlns=\"urn:ietf:params:xml:ns:dmarc-2.0\">"
    ++ metadata by

-- what stands before the records
unfoldable pub front_of : Writing → Octets
front_of w = opening_of w.reporter ++ policy_published w.domain (published w.settings)

-- where "the `<` after it" stands, behind an end's last digit: from there on the metadata has `</end></date_range></report_metadata>`
unfoldable pub end_place : Reporter → ℕ
end_place by = length (opening_of by) - length (octets "</end></date_range></report_metadata>")

-- the lines whose records end by a place, the first of them beginning at another
unfoldable pub ended_by : (place at : ℕ) → List Line → List Line
ended_by n at [] = []
ended_by n at (l ∷ ls) = elim (leb (at + length (record_element l)) n) [ true ↦ l ∷ ended_by n (at + length (record_element l)) ls | false ↦ [] ]

-- the lines handed out by a place: none of a text whose end is below its begin, which is refused before its records
unfoldable pub handed_by : (place : ℕ) → Writing → List Line
handed_by n w = if leb w.reporter.begin w.reporter.end then ended_by n (length (front_of w)) w.lines else []

-- of every text
pub record ReportClaims : Type 0 where
  -- "Reading a written report gives the rows written, in order"
  pub reads_back : (w : Writing) → good widths w ≡ true → w.reporter.begin ≤ w.reporter.end → read_report (text_of w) ≡ (map said w.lines, ok tt)
  -- "Each row is handed out when its record ends": of every text of the form, wherever it is cut
  pub handed_out : (w : Writing) → good widths w ≡ true → (n : ℕ) → (feed new_reader (take n (text_of w))).rows ≡ map said (handed_by n w)
  -- and no other text is accepted
  pub accepted : (s : Octets) (rows : List Said) → read_report s ≡ (rows, ok tt)
      → (w : Writing) × (good widths w ≡ true) × (w.reporter.begin ≤ w.reporter.end) × (text_of w ≡ s) × (map said w.lines ≡ rows)
  -- "A refusal's place is the first octet, counted from the start, that no such text can have there"
  pub place : (s : Octets) (q : Refusal) → (feed new_reader s).reader.left ≡ stuck q
      → Begins widths (take q.place s) × ((Begins widths (take (suc q.place) s) → ⊥) ⊎ EndBelow s q.place)
  -- "20 text outside the form, an end below begin at the `<` after it; 21 a digit that takes a begin, end or count over its width"
  pub number : (s : Octets) (q : Refusal) → (feed new_reader s).reader.left ≡ stuck q
      → ((q.number ≡ 20) × ((BeginsWider (take (suc q.place) s) → ⊥) ⊎ EndBelow s q.place)) ⊎ ((q.number ≡ 21) × (Begins widths (take (suc q.place) s) → ⊥) × BeginsWider (take (suc q.place) s))
  -- "20 text outside the form, an end below begin at the `<` after it": of every text that is of the form up to that `<`, whatever follows
  pub end_below : (w : Writing) → good widths w ≡ true → w.reporter.end < w.reporter.begin
      → (s : Octets) → take (suc (end_place w.reporter)) s ≡ take (suc (end_place w.reporter)) (text_of w)
      → (feed new_reader s).reader.left ≡ stuck (refusal 20 (end_place w.reporter))
  -- "22 the text ends early, given at its length, only when the end is declared"
  pub early : (s : Octets) (rows : List Said) (p : ℕ) → read_report s ≡ (rows, not_ok (refusal 22 p)) → (p ≡ length s) × Begins widths s × (Form widths s → ⊥)

-- numbers within their types
pub record Kept (l : Listing) (by : Reporter) : Type 0 where
  pub within : all (good_row widths) (counted_rows (on_list l.rows)) ≡ true
  pub times : (by.begin ≤ widths.times) × (by.end ≤ widths.times)

-- "the form that Ask 9 writes from any rows"
pub record WritesClaims : Type 0 where
  -- what it writes is of the form, of the rows with a count and what their numbers name
  pub in_form : (l : Listing) (lists : Lists) (by : Reporter) (s : Settings) (t : Octets) → Kept l by → report l lists by s ≡ ok t
      → (w : Writing) × (good widths w ≡ true) × (w.reporter.begin ≤ w.reporter.end) × (text_of w ≡ t) × (lines lists (counted_rows (on_list l.rows)) ≡ Some w.lines)
  -- and every text of the form, its end not below its begin, is written from some rows and lists
  pub all_of_it : (w : Writing) → good widths w ≡ true → w.reporter.begin ≤ w.reporter.end
      → (l : Listing) × (lists : Lists) × Kept l w.reporter × (report l lists w.reporter w.settings ≡ ok (text_of w))
  -- "Reading a written report gives the rows written, in order"
  pub reads_written : (l : Listing) (lists : Lists) (by : Reporter) (s : Settings) (t : Octets) → Kept l by → report l lists by s ≡ ok t
      → (ls : List Line) × (lines lists (counted_rows (on_list l.rows)) ≡ Some ls) × (read_report t ≡ (map said ls, ok tt))

-- "in parts cut anywhere": "The rows, the refusal and its place are those of the uncut text"; "after a refusal every later part gets the same one"
abbrev pub ReportParts : Type 0
ReportParts = Parts reading
