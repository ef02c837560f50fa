-- How it is read what is ahead of an evaluation, and what it waits for.
use Rattle.std.specs.Prelude.{◌≡◌, List, ℕ, ◌≤◌, drop, Option, None, Some}
use Rattle.octets.specs.Octets.{Octets}
use Rattle.lookup.specs.Lookup.{Name, Standing, needs, has}
use Rattle.domain.specs.Domain.{asked_name}
use Rattle.alignment_stored.specs.code.Stored.{slot}
use Rattle.verdict.specs.Verdict.{Verdict, unjudged}
use Rattle.verdict_judgement.specs.declared.Terms.{Terms}
use Rattle.verdict_judgement.specs.code.Judging.{stored_message}
use Rattle.verdict_cursor.specs.declared.Place.{Place}
use Rattle.verdict_cursor.specs.code.Cursor.{stands, needed}
use Rattle.verdict_cursor.specs.code.Standing.{verdict_by, cursor_in}
use Rattle.verdict_ahead.specs.declared.Ahead.{Ahead}
use Rattle.verdict_ahead.specs.declared.Asked.{Asked}

-- ------------------------------------------------------------------ what is ahead

-- a target is marked by its walk, and by where it begins in that walk's domain
unfoldable pub ahead_standing : Octets → List ℕ → Terms → (stored : List ℕ) → Ahead → Standing Verdict
ahead_standing domains numbers t stored (Ahead.Target walk place) = needs (asked_name (drop place.0 (slot domains numbers walk)))
ahead_standing domains numbers t stored (Ahead.Unjudged begin r p) = has (unjudged (stored_message domains numbers t) (drop begin.0 (slot domains numbers 0)) r p)
ahead_standing domains numbers t stored (Ahead.Aligning ruling) = has (verdict_by domains numbers t stored ruling)

unfoldable pub AheadWithin : Ahead → Type 0
AheadWithin (Ahead.Target walk place) = walk ≤ 16
AheadWithin (Ahead.Unjudged begin r p) = Unit
AheadWithin (Ahead.Aligning ruling) = Unit

-- the promise of code that looks ahead
pub record Looks (t : Terms) (p : Place) (a : Ahead) : Type 0 where
  pub standing : (domains : Octets) (numbers stored : List ℕ) → ahead_standing domains numbers t stored a ≡ stands (stored_message domains numbers t) (cursor_in domains numbers t stored p)
  pub within : AheadWithin a

-- ------------------------------------------------------------------ what is waited for

unfoldable pub waiting_name : Octets → List ℕ → Option Asked → Option Name
waiting_name domains numbers None = None
waiting_name domains numbers (Some a) = Some (asked_name (drop a.place.0 (slot domains numbers a.walk)))

unfoldable pub Within : Option Asked → Type 0
Within None = Unit
Within (Some a) = a.walk ≤ 16

-- the promise of code that finds it
pub record Waits (t : Terms) (p : Place) (w : Option Asked) : Type 0 where
  pub name : (domains : Octets) (numbers stored : List ℕ) → waiting_name domains numbers w ≡ needed (stands (stored_message domains numbers t) (cursor_in domains numbers t stored p))
  pub within : Within w
