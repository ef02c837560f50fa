-- A place as an evaluation keeps it, read. Every value is read as a place.
use Rattle.std.specs.Prelude.{ℕ, eqb, if◌then◌else◌}
use Rattle.policy.specs.declared.Policy.{Policy}
use Rattle.txt_codes.specs.code.Codes.{settings_of}
use Rattle.verdict.specs.declared.AppliedPolicy.{AppliedPolicy}
use Rattle.walk_stop.specs.code.KeptStops.{stop_in}
use Rattle.verdict_cursor.specs.declared.Ruling.{Ruling}
use Rattle.verdict_cursor.specs.declared.Place.{Place}
use Rattle.verdict_cursor.specs.declared.PlaceKind.{PlaceKind}
use Rattle.verdict_cursor.specs.declared.KeptRuling.{KeptRuling}
use Rattle.verdict_cursor.specs.declared.Position.{Position}

unfoldable pub policy_in : ℕ → AppliedPolicy
policy_in n =
    if eqb n 0 then AppliedPolicy.Known Policy.None
    else if eqb n 1 then AppliedPolicy.Known Policy.Quarantine
    else if eqb n 2 then AppliedPolicy.Known Policy.Reject
    else AppliedPolicy.Unknown

unfoldable pub ruling_in : KeptRuling → Ruling
ruling_in k = record { begin = k.begin; settings = settings_of k.settings; policy = policy_in k.policy }

unfoldable pub place_by : Position → PlaceKind → Place
place_by q PlaceKind.OwnName = Place.OwnName
place_by q PlaceKind.Author = Place.Author (stop_in q.stop)
place_by q PlaceKind.Completing = Place.Completing (ruling_in q.ruling) (stop_in q.stop)
place_by q PlaceKind.Identifier = Place.Identifier (ruling_in q.ruling) q.walk (stop_in q.stop)
place_by q PlaceKind.NotKnown = Place.NotKnown
place_by q PlaceKind.NoRecord = Place.NoRecord
place_by q PlaceKind.NotUsable = Place.NotUsable q.ruling.begin
place_by q PlaceKind.Judged = Place.Judged (ruling_in q.ruling)

unfoldable pub place_in : Position → Place
place_in q = place_by q q.kind
