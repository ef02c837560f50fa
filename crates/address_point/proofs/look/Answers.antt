-- `address_point::look` meets its contract.
use mathlib.Core.Path.{◌≡◌, refl, sym}
use Rattle.walk_progress.specs.code.Stops.{pause_in}
use Rattle.walk_stop.specs.code.KeptStops.{stop_in}
use Rattle.address_check.specs.code.Cursor.{stands, is_walk}
use Rattle.address_check.specs.Numbers.{mark_in}
use Rattle.address_check.specs.code.View.{point_kind_in, cursor_by, cursor_in}
use Rattle.address_point.specs.code.Ahead.{ahead_standing, ahead_walks}
use Rattle.address_point.proofs.look.Goals as goal
use Rattle.address_point.proofs.look.Goals.{After-read_kind}

-- the kind is that of its number
kind_read : (v : After-read_kind) → point_kind_in v.args.p.kind ≡ v.read_kind.result
kind_read v = sym v.read_kind.ensures

pub returns-in-Policy : goal.returns-in-Policy
unfolding ahead_standing ahead_walks is_walk mark_in stands cursor_in cursor_by pause_in stop_in
returns-in-Policy c = λ d. rw (kind_read (goal.at.returns-in-Policy c).After-read_kind, c.in-Policy.is) (refl, refl)

pub returns-in-Host : goal.returns-in-Host
unfolding ahead_standing ahead_walks is_walk mark_in stands cursor_in cursor_by pause_in stop_in
returns-in-Host c = λ d. rw (kind_read (goal.at.returns-in-Host c).After-read_kind, c.in-Host.is) (refl, refl)

pub returns-in-Confirming : goal.returns-in-Confirming
unfolding ahead_standing ahead_walks is_walk mark_in stands cursor_in cursor_by pause_in stop_in
returns-in-Confirming c = λ d. rw (kind_read (goal.at.returns-in-Confirming c).After-read_kind, c.in-Confirming.is) (refl, refl)

pub returns-in-PlainNo : goal.returns-in-PlainNo
unfolding ahead_standing ahead_walks is_walk mark_in stands cursor_in cursor_by pause_in stop_in
returns-in-PlainNo c = λ d. rw (kind_read (goal.at.returns-in-PlainNo c).After-read_kind, c.in-PlainNo.is) (refl, refl)

pub returns-in-Inside : goal.returns-in-Inside
unfolding ahead_standing ahead_walks is_walk mark_in stands cursor_in cursor_by pause_in stop_in
returns-in-Inside c = λ d. rw (kind_read (goal.at.returns-in-Inside c).After-read_kind, c.in-Inside.is) (refl, refl)

pub returns-in-Confirmed : goal.returns-in-Confirmed
unfolding ahead_standing ahead_walks is_walk mark_in stands cursor_in cursor_by pause_in stop_in
returns-in-Confirmed c = λ d. rw (kind_read (goal.at.returns-in-Confirmed c).After-read_kind, c.in-Confirmed.is) (refl, refl)

pub returns-in-Replaced : goal.returns-in-Replaced
unfolding ahead_standing ahead_walks is_walk mark_in stands cursor_in cursor_by pause_in stop_in
returns-in-Replaced c = λ d. rw (kind_read (goal.at.returns-in-Replaced c).After-read_kind, c.in-Replaced.is) (refl, refl)

pub returns-in-NotKnown : goal.returns-in-NotKnown
unfolding ahead_standing ahead_walks is_walk mark_in stands cursor_in cursor_by pause_in stop_in
returns-in-NotKnown c = λ d. rw (kind_read (goal.at.returns-in-NotKnown c).After-read_kind, c.in-NotKnown.is) (refl, refl)
