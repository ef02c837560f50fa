-- What is claimed of aggregate reports, proved.
use mathlib.Core.Path.{◌≡◌, refl, ap}
use mathlib.Core.List.{List, [], ◌∷◌, ◌++◌, map, flatten}
use mathlib.Core.Bool.{Bool, true, false, ◌&&◌, not}
use Prim.Native.Nat.{◌+◌, ◌*◌, ◌^◌, ◌≤◌, ◌<◌}
use native.Mathlib.Omega.{arith}
use lib.Dec.{eqb, ltb}
use lib.ListN.{length, take, length-append, length-take}
use lib.Seq.{take-take}
use borrow.Author.Tests.{eqb-true, ltb-true}
use Rattle.std.specs.Prelude.{if◌then◌else◌}
use Rattle.octets.specs.Octets.{all}
use Rattle.octets.proofs.DecimalLaws.{decimal_below}
use Rattle.policy.specs.declared.Settings.{Settings}
use Rattle.rows.specs.declared.Seen.{Seen}
use Rattle.rows.specs.declared.Row.{Row}
use Rattle.rows.specs.Lists.{Lists}
use Rattle.rows.specs.Rows.{Listing, is_free, on_list}
use Rattle.rows.specs.History.{count_if, total}
use Rattle.report.specs.Report.{Reporter, row_element, counted_rows, report}
use Rattle.report.specs.Claims.{OfTheList, OfCountedRows, typed_row, Longest}
use Rattle.report.proofs.SizeLaws.{both_hold, address_size, row_size, report_size}

pub of_the_list : (l : Listing) (lists : Lists) (by : Reporter) (s : Settings) → OfTheList l lists by s
unfolding report on_list
of_the_list l lists by s = record { same_report = rw (take-take 256 256 l.rows (omega arith)) }

-- ------------------------------------------------------------------ rows with a count

all_count : (rows : List Row) → all (λ r. not (is_free r)) (counted_rows rows) ≡ true
unfolding all counted_rows
all_count [] = refl
all_count (r ∷ rows) = go (all_count rows) (is_free r) refl
  where
    go : all (λ r. not (is_free r)) (counted_rows rows) ≡ true → (b : Bool) → is_free r ≡ b → all (λ r. not (is_free r)) (counted_rows (r ∷ rows)) ≡ true
    go ih true e = rw (e, counted_rows) ih
    go ih false e = rw (e, counted_rows, e) ih

free_none : (f : Seen → Bool) (r : Row) → is_free r ≡ true → count_if f r ≡ 0
unfolding count_if is_free
free_none f r e = go (f r.seen)
  where
    go : (b : Bool) → (if b then r.count else 0) ≡ 0
    go true = eqb-true r.count 0 e
    go false = refl

same_total : (f : Seen → Bool) (rows : List Row) → total f (counted_rows rows) ≡ total f rows
unfolding total counted_rows
same_total f [] = refl
same_total f (r ∷ rows) = go (same_total f rows) (is_free r) refl
  where
    go : total f (counted_rows rows) ≡ total f rows → (b : Bool) → is_free r ≡ b → total f (counted_rows (r ∷ rows)) ≡ total f (r ∷ rows)
    go ih true e = rw (e, counted_rows) (omega (arith, ih, free_none f r e))
    go ih false e = rw (e, counted_rows) (ap (λ n. count_if f r + n) ih)

counted_along : (rows later : List Row) → counted_rows (rows ++ later) ≡ counted_rows rows ++ counted_rows later
unfolding counted_rows
counted_along [] later = refl
counted_along (r ∷ rows) later = go (counted_along rows later) (is_free r) refl
  where
    go : counted_rows (rows ++ later) ≡ counted_rows rows ++ counted_rows later → (b : Bool) → is_free r ≡ b → counted_rows (r ∷ rows ++ later) ≡ counted_rows (r ∷ rows) ++ counted_rows later
    go ih true e = rw (e, counted_rows) ih
    go ih false e = rw (e, counted_rows) (ap (λ (l : List Row). r ∷ l) ih)

pub of_counted_rows : (rows : List Row) → OfCountedRows rows
of_counted_rows rows = record { each_counts = all_count rows; nothing_lost = λ f. same_total f rows; in_order = counted_along rows }

-- ------------------------------------------------------------------ the longest

typed_size : (r : Row) → typed_row r ≡ true → length (row_element r) ≤ 204
unfolding typed_row
typed_size r e =
    let (source, count) = both_hold (eqb (length r.seen.source) 16 && all (λ x. ltb x 256) r.seen.source) (ltb r.count (2 ^ 32)) e in
    let (sixteen, small) = both_hold (eqb (length r.seen.source) 16) (all (λ x. ltb x 256) r.seen.source) source in
    let few : r.count < 10 ^ 10 = omega (arith, ltb-true r.count (2 ^ 32) count) in
    omega (arith, row_size r, address_size r.seen.source (eqb-true (length r.seen.source) 16 sixteen) small, decimal_below 9 r.count few)

typed_sizes : (rows : List Row) → all typed_row rows ≡ true → length (flatten (map row_element (counted_rows rows))) ≤ 204 * length rows
unfolding all counted_rows flatten
typed_sizes [] e = omega arith
typed_sizes (r ∷ rows) e =
    let (a, b) = both_hold (typed_row r) (all typed_row rows) e in
    go (typed_sizes rows b) (typed_size r a) (is_free r) refl
  where
    go : length (flatten (map row_element (counted_rows rows))) ≤ 204 * length rows → length (row_element r) ≤ 204 → (b : Bool) → is_free r ≡ b
        → length (flatten (map row_element (counted_rows (r ∷ rows)))) ≤ 204 * length (r ∷ rows)
    go ih one true k = rw (k, counted_rows) (omega (arith, ih))
    go ih one false k = rw (k, counted_rows, length-append) (omega (arith, ih, one))

pub longest : (l : Listing) (lists : Lists) (by : Reporter) (s : Settings) → Longest l lists by s
unfolding on_list
longest l lists by s = record {
  at_most = λ b n typed t e.
      omega (arith, report_size l lists by s b n t e, typed_sizes (take 256 l.rows) typed, length-take 256 l.rows);
}
