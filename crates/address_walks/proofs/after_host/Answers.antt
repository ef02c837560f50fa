-- `address_walks::after_host` meets its contract.
use mathlib.Core.Path.{◌≡◌, ap₂, ◌∙◌}
use lib.ListN.{drop}
use Rattle.octets.specs.Octets.{same}
use Rattle.walk_progress.specs.code.Summary.{summary_in}
use Rattle.walk_progress.specs.code.Stops.{reached_in}
use Rattle.address_check.specs.code.Cursor.{host_reached}
use Rattle.address_check.specs.code.View.{point_kind_in, cursor_by, cursor_in}
use Rattle.address_check.specs.code.Pairs.{both}
use Rattle.address_walks.proofs.after_host.Goals as goal
use Rattle.address_walks.proofs.after_host.Goals.{After-same_octets}

-- the two organizational domains
compared : (v : After-same_octets)
    → let a = v.args in
    v.same_octets.result ≡ same (drop v.in-Done.o.begin.0 a.host.now) (drop a.organization.0 a.policy.now)
compared v =
    let a = v.args in
    v.same_octets.ensures
    ∙ ap₂ same v.skip-own.ensures v.skip-other.ensures

pub returns-then-same_octets : goal.returns-then-same_octets
unfolding host_reached reached_in summary_in
returns-then-same_octets c =
    let a = c.args in
    λ β. c.settle-then-same_octets.ensures (both a.policy.now a.host.now)
    ∙ rw (c.in-Done.is, ← (compared (goal.at.returns-then-same_octets c).After-same_octets), c.if-same_octets.true)

pub returns-in-Stops : goal.returns-in-Stops
unfolding point_kind_in cursor_in cursor_by host_reached reached_in
returns-in-Stops c = λ β. rw (c.in-Stops.is, c.on.ensures.0, c.on.ensures.1, c.on.ensures.2)

pub returns-in-Failed : goal.returns-in-Failed
unfolding host_reached reached_in
returns-in-Failed c =
    let a = c.args in
    λ β. c.settle.ensures (both a.policy.now a.host.now) ∙ rw c.in-Failed.is

pub returns-else-same_octets : goal.returns-else-same_octets
unfolding host_reached reached_in summary_in
returns-else-same_octets c =
    λ β. c.confirm.ensures β ∙ rw (c.in-Done.is, ← (compared (goal.at.returns-else-same_octets c).After-same_octets), c.if-same_octets.false)
