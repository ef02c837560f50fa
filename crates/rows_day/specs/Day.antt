-- What clearing and entering promise, and what is claimed of every run of these calls (document 02, Ask 1).
use Rattle.std.specs.Prelude.{◌≡◌, List, [], ◌∷◌, true, false, length, take, replicate, if◌then◌else◌, Option, None, Some}
use Rattle.octets.specs.Octets.{Octets, is_nothing, is_set, lower}
use Rattle.octets.specs.Lent.{left}
use Rattle.octets.specs.declared.Refusal.{Refusal}
use Rattle.domain.specs.Domain.{Domain, without_dot}
use Rattle.rows.specs.declared.Row.{Row}
use Rattle.rows.specs.Rows.{Listing}
use Rattle.rows.specs.History.{Call, clear, enter, gives, refusal_of, is_accepted, left_by, History, Tallies, Untouched, DayEnd}
use Rattle.rows_day.specs.declared.DayList.{DayList}
use Rattle.rows_day.specs.declared.Changed.{Changed}

-- ------------------------------------------------------------------ a list in octets

-- the policy domain of a list
unfoldable pub domain_in : DayList → Option Domain
domain_in l = if is_set l.cleared then Some (take l.length l.domain) else None

unfoldable pub listing : DayList → List Row → Listing
listing l rows = record { domain = domain_in l; rows = rows }

-- the list that no call was made on, and the one that is named for a domain: in lower case, without a final dot, what lies past it 0
unfoldable pub never_cleared : DayList
never_cleared = record { cleared = 0; domain = replicate 253 0; length = 0 }

unfoldable pub named_for : Octets → DayList
named_for d = record { cleared = 1; domain = left (lower (without_dot d)) (replicate 253 0); length = length (without_dot d) }

-- ------------------------------------------------------------------ the promise of both calls

-- the list that a call gives back: only an accepted clearing gives another
unfoldable pub list_after : Call → DayList → Refusal → DayList
list_after (clear d) list f = if is_accepted f then named_for d else list
list_after (enter e lists d) list f = list

-- of the call, the list and the rows that it gets, what it answers, and the rows that it leaves
pub record Does (c : Call) (list : DayList) (before : List Row) (r : Changed) (after : List Row) : Type 0 where
  pub answers : r.refusal ≡ refusal_of (gives c (listing list before))
  pub leaves : listing r.list after ≡ left_by (listing list before) (gives c (listing list before))
  pub goes_on : r.list ≡ list_after c list r.refusal

-- ------------------------------------------------------------------ runs

-- calls one after the other, "While the same rows are lent and nobody else writes them": each gets the list and the rows as the last one left them
pub data Ran : DayList → List Row → History → DayList → List Row → Type 0 where
  none : {list : DayList} {rows : List Row} → Ran list rows [] list rows
  call : {list last : DayList} {before after rows : List Row} {c : Call} {r : Changed} {h : History}
      → Does c list before r after → Ran r.list after h last rows → Ran list before ((c, r.refusal) ∷ h) last rows

-- ------------------------------------------------------------------ the claim

-- one claim on the history of calls, from a list that was never cleared, whatever its rows hold
pub record DayClaims (first : DayList) (before : List Row) (h : History) (last : DayList) (after : List Row) : Type 0 where
  pub tallies : domain_in first ≡ None → Ran first before h last after → is_nothing (domain_in last) ≡ false → Tallies h after
  pub untouched : Ran first before h last after → Untouched before after
  pub day_end : (d : Domain) (r : Changed) (cleared : List Row) → Does (clear d) last after r cleared → is_accepted r.refusal ≡ true → DayEnd after cleared
