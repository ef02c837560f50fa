-- What is claimed of aggregate reports (document 02, Ask 9).
use Rattle.std.specs.Prelude.{◌≡◌, List, ◌++◌, Bool, true, ◌&&◌, not, ◌^◌, ◌≤◌, ◌<◌, eqb, ltb, length}
use Rattle.octets.specs.Octets.{Octets, all}
use Rattle.octets.specs.Refusing.{ok}
use Rattle.policy.specs.declared.Settings.{Settings}
use Rattle.rows.specs.declared.Seen.{Seen}
use Rattle.rows.specs.declared.Row.{Row}
use Rattle.rows.specs.Lists.{Lists}
use Rattle.rows.specs.Rows.{Listing, is_free, on_list}
use Rattle.rows.specs.History.{total}
use Rattle.report.specs.Report.{Reporter, counted_rows, report}

-- "from Ask 1's rows": those on the list are all that a report depends on
pub record OfTheList (l : Listing) (lists : Lists) (by : Reporter) (s : Settings) : Type 0 where
  pub same_report : report (record { domain = l.domain; rows = on_list l.rows }) lists by s ≡ report l lists by s

-- "one record element per row with a count": the others count nothing, so what is written counts what the rows do
pub record OfCountedRows (rows : List Row) : Type 0 where
  pub each_counts : all (λ r. not (is_free r)) (counted_rows rows) ≡ true
  pub nothing_lost : (f : Seen → Bool) → total f (counted_rows rows) ≡ total f rows
  -- "rows .. in list order"
  pub in_order : (later : List Row) → counted_rows (rows ++ later) ≡ counted_rows rows ++ counted_rows later

-- a row as its type has it: 16 octets of source, a count of 32 bits
unfoldable pub typed_row : Row → Bool
typed_row r = eqb (length r.seen.source) 16 && all (λ x. ltb x 256) r.seen.source && ltb r.count (2 ^ 32)

-- the longest report: what is lent for one need not be longer
pub record Longest (l : Listing) (lists : Lists) (by : Reporter) (s : Settings) : Type 0 where
  pub at_most : by.begin < 2 ^ 64 → by.end < 2 ^ 64 → all typed_row (on_list l.rows) ≡ true → (t : Octets) → report l lists by s ≡ ok t → length t ≤ 2592802
