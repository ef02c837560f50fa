-- What is claimed of the rows after a history of calls (document 02, Ask 1); `rows_day` claims it of every run of the two calls.
use Rattle.std.specs.Prelude.{◌≡◌, List, [], ◌∷◌, map, Bool, true, false, ℕ, ◌+◌, eqb, length, if◌then◌else◌}
use Rattle.octets.specs.Octets.{Octets}
use Rattle.octets.specs.Refusing.{OrRefused, ok, not_ok, refusal}
use Rattle.octets.specs.declared.Refusal.{Refusal}
use Rattle.rows.specs.declared.Seen.{Seen}
use Rattle.rows.specs.declared.Row.{Row}
use Rattle.rows.specs.declared.Entry.{Entry}
use Rattle.rows.specs.Lists.{Lists}
use Rattle.rows.specs.Rows.{Listing, on_list, past_list, seen_in, cleared, entered}

-- ------------------------------------------------------------------ calls

-- an entry comes with the two lists and the domain of its applied record
pub data Call : Type 0 where
  clear : Octets → Call
  enter : Entry → Lists → Octets → Call

unfoldable pub gives : Call → Listing → OrRefused Listing
gives (clear d) l = cleared d l
gives (enter e lists d) l = entered e lists d l

-- what a call answers: the refusal, by number and place; number 0 is none
unfoldable pub refusal_of : OrRefused Listing → Refusal
refusal_of (ok after) = refusal 0 0
refusal_of (not_ok f) = f

unfoldable pub is_accepted : Refusal → Bool
is_accepted f = eqb f.number 0

-- what it leaves: "A refusal leaves the evaluation and lent memory unchanged"
unfoldable pub left_by : Listing → OrRefused Listing → Listing
left_by before (ok after) = after
left_by before (not_ok f) = before

-- ------------------------------------------------------------------ histories

-- each call and its answer, refused ones too
abbrev pub History : Type 0
History = List (Call × Refusal)

-- what the accepted verdicts had seen, the latest first, with one call more: a clearing leaves none of those before it
unfoldable pub with_call : List Seen → Call → (was_accepted : Bool) → List Seen
with_call seen c false = seen
with_call seen (clear d) true = []
with_call seen (enter e lists d) true = seen_in e ∷ seen

-- "the number of verdicts accepted since the list was cleared, that number taken from the history of calls"
unfoldable pub since_clearing : List Seen → History → List Seen
since_clearing seen [] = seen
since_clearing seen (x ∷ h) = since_clearing (with_call seen x.0 (is_accepted x.1)) h

-- ------------------------------------------------------------------ totals

-- the sum of the counts of those rows that pass a test
unfoldable pub count_if : (Seen → Bool) → Row → ℕ
count_if f r = if f r.seen then r.count else 0

unfoldable pub total : (Seen → Bool) → List Row → ℕ
total f [] = 0
total f (r ∷ rs) = count_if f r + total f rs

-- how many of the verdicts pass it
unfoldable pub number : (Seen → Bool) → List Seen → ℕ
number f [] = 0
number f (s ∷ ss) = (if f s then 1 else 0) + number f ss

-- ------------------------------------------------------------------ the claim

-- of a history, and the rows after it; by Ask 9 the row has two numbers more, "and Ask 1's sum still holds"
pub record Tallies (h : History) (after : List Row) : Type 0 where
  -- "the sum of all counts equals the number of verdicts accepted since the list was cleared"
  pub sum : total (λ _. true) (on_list after) ≡ length (since_clearing [] h)
  -- "and so each disposition's total", by its number
  pub by_disposition : (d : ℕ) → total (λ s. eqb d s.disposition) (on_list after) ≡ number (λ s. eqb d s.disposition) (since_clearing [] h)
  -- and so the total of whatever else rows are told apart by
  pub by_any : (f : Seen → Bool) → total f (on_list after) ≡ number f (since_clearing [] h)

-- "Rows past the 256th are no part of the list and not touched", and none is lost
pub record Untouched (before after : List Row) : Type 0 where
  pub past : past_list after ≡ past_list before
  pub as_many : length after ≡ length before

-- "A day's end clears the list, its counts to 0 and no more"
pub record DayEnd (before after : List Row) : Type 0 where
  pub counts : map (λ r. r.count) (on_list after) ≡ map (λ _. 0) (on_list before)
  pub no_more : map (λ r. r.seen) after ≡ map (λ r. r.seen) before
