-- What is claimed of aggregate reports (document 02, Ask 9).
use Rattle.std.specs.Prelude.{◌≡◌, List, [], ◌++◌, Bool, true, false, not, ◌^◌, ◌≤◌, ◌<◌, length, None}
use Rattle.octets.specs.Octets.{Octets, is_nothing, all}
use Rattle.octets.specs.Refusing.{ok}
use Rattle.policy.specs.declared.Settings.{Settings}
use Rattle.rows.specs.declared.Seen.{Seen}
use Rattle.rows.specs.declared.Row.{Row}
use Rattle.rows.specs.Lists.{Lists}
use Rattle.rows.specs.Rows.{Listing, is_free, on_list}
use Rattle.rows.specs.History.{History, since_clearing, total, number}
use Rattle.rows_day.specs.declared.DayList.{DayList}
use Rattle.rows_day.specs.Day.{domain_in, listing, Ran}
use Rattle.rows_gather.specs.declared.Gathered.{Gathered}
use Rattle.rows_gather.specs.code.Gathered.{rows_in}
use Rattle.report.specs.Report.{Reporter, counted_rows, report}
use Rattle.report.specs.Claims.{typed_row}
use Rattle.report.specs.Examples.{ReportExamples}

pub record ReportsHold : Type 0 where
  -- "from Ask 1's rows": the report of rows that were gathered for it is that of the rows as they were lent
  pub of_gathered_rows : (list : DayList) (rows : List Row) (g : Gathered) → rows_in g ≡ on_list rows
      → (lists : Lists) (by : Reporter) (s : Settings) → report (listing list (rows_in g)) lists by s ≡ report (listing list rows) lists by s
  -- "one record element per row with a count", "rows .. in list order"
  pub each_row_counts : (rows : List Row) → all (λ r. not (is_free r)) (counted_rows rows) ≡ true
  pub in_list_order : (rows later : List Row) → counted_rows (rows ++ later) ≡ counted_rows rows ++ counted_rows later
  -- "and Ask 1's sum still holds": after every run of clearing and entering, the rows that a report has count the verdicts accepted since the clearing,
  -- told apart by whatever rows are
  pub counts_what_was_entered : (first last : DayList) (before after : List Row) (h : History)
      → domain_in first ≡ None → Ran first before h last after → is_nothing (domain_in last) ≡ false
      → (f : Seen → Bool) → total f (counted_rows (on_list after)) ≡ number f (since_clearing [] h)
  -- no report is longer
  pub longest_report : (l : Listing) (lists : Lists) (by : Reporter) (s : Settings) → by.begin < 2 ^ 64 → by.end < 2 ^ 64 → all typed_row (on_list l.rows) ≡ true
      → (t : Octets) → report l lists by s ≡ ok t → length t ≤ 2592802
  -- reports and subjects, and each refusal with the faults behind it: computed
  pub reports_written : ReportExamples
