-- What a check keeps, read from its numbers. Every check is read, those too that no call can make.
use Rattle.std.specs.Prelude.{List, [], ◌∷◌, Bool, true, false, ℕ, drop, get_or, Result, Ok, Err, Option, None, Some}
use Rattle.octets.specs.Octets.{is_set}
use Rattle.lookup.specs.Lookup.{Name, Answers}
use Rattle.txt.specs.declared.Reply.{Reply}
use Rattle.walk_known.specs.code.Kept.{kept_answers}
use Rattle.walk_progress.specs.code.Stops.{pause_in}
use Rattle.walk_stop.specs.code.KeptStops.{stop_in}
use Rattle.asking.specs.Asking.{Back, ask_name, verdict, accepted, refused}
use Rattle.address.specs.declared.Agreement.{Agreement}
use Rattle.address.specs.Checks.{Pair}
use Rattle.address_check.specs.declared.PointKind.{PointKind}
use Rattle.address_check.specs.declared.CheckPoint.{CheckPoint}
use Rattle.address_check.specs.declared.Check.{Check}
use Rattle.address_check.specs.declared.CheckStep.{CheckStep}
use Rattle.address_check.specs.Numbers.{pair_now, check_name}
use Rattle.address_check.specs.code.Cursor.{Cursor, on_policy, on_host, on_confirming, settled, stands, needed}
use Rattle.address_check.specs.code.Machine.{Keeps, keeps_nothing}
use Rattle.address_check.specs.declared.CheckOutcome.{CheckOutcome}
use Rattle.octets.specs.declared.Refusal.{Refusal}

-- ------------------------------------------------------------------ what a check keeps

abbrev pub point_kinds : List PointKind
point_kinds =
    PointKind.Policy ∷ PointKind.Host ∷ PointKind.Confirming ∷ PointKind.PlainNo ∷ PointKind.Inside ∷ PointKind.Confirmed ∷ PointKind.Replaced ∷ []

-- a number that is not listed says that the outcome is not known
unfoldable pub point_kind_in : ℕ → PointKind
point_kind_in n = get_or point_kinds n PointKind.NotKnown

unfoldable pub cursor_by : Pair → CheckPoint → PointKind → Cursor
cursor_by c p PointKind.Policy = on_policy (pause_in c.policy (stop_in p.stop))
cursor_by c p PointKind.Host = on_host (drop p.organization.0 c.policy) (pause_in c.host (stop_in p.stop))
cursor_by c p PointKind.Confirming = on_confirming
cursor_by c p PointKind.PlainNo = settled Agreement.PlainNo
cursor_by c p PointKind.Inside = settled Agreement.Inside
cursor_by c p PointKind.Confirmed = settled Agreement.Confirmed
cursor_by c p PointKind.Replaced = settled (Agreement.Replaced p.instead)
cursor_by c p PointKind.NotKnown = settled Agreement.NotKnown

unfoldable pub cursor_in : Pair → CheckPoint → Cursor
cursor_in c p = cursor_by c p (point_kind_in p.kind)

unfoldable pub replies_now : Check → Answers Reply
replies_now e = kept_answers e.domains e.count e.kept

unfoldable pub cursor_now : Check → Cursor
cursor_now e = cursor_in (pair_now e) e.point

unfoldable pub asked_now : Check → (asked : Bool) → Option Name
asked_now e false = None
asked_now e true = needed (stands (pair_now e) (cursor_now e))

unfoldable pub view_by : Check → (started : Bool) → Keeps
view_by e false = keeps_nothing
view_by e true = record {
  pair = Some (pair_now e);
  replies = replies_now e;
  confirmed = is_set e.confirmed;
  asked = asked_now e (is_set e.asked);
  at = cursor_now e;
}

unfoldable pub view : Check → Keeps
view e = view_by e (is_set e.started)

-- ------------------------------------------------------------------ the code's answers, read

unfoldable pub step_back : Check → CheckStep → Back Agreement
step_back e (CheckStep.Ask walk place) = ask_name (check_name e walk place)
step_back e (CheckStep.Outcome o) = verdict o.agreement o.count
step_back e (CheckStep.Refused f) = refused f

unfoldable pub resulting_back : Result CheckOutcome Refusal → Back Agreement
resulting_back (Ok o) = verdict o.agreement o.count
resulting_back (Err f) = refused f

unfoldable pub acceptance_back : Result Unit Refusal → Back Agreement
acceptance_back (Ok tt) = accepted
acceptance_back (Err f) = refused f
