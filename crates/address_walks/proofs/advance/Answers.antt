-- `address_walks::advance` meets its contract.
use mathlib.Core.Path.{◌≡◌, ap, sym, ◌∙◌}
use lib.ListN.{drop}
use Rattle.walk_known.specs.code.Kept.{kept_answers}
use Rattle.address_check.specs.code.Cursor.{host_reached, policy_reached, answered_on}
use Rattle.address_check.specs.code.View.{point_kind_in, cursor_by, cursor_in}
use Rattle.address_check.specs.code.Pairs.{both}
use Rattle.address_walks.proofs.advance.Goals as goal
use Rattle.address_walks.proofs.advance.Goals.{After-read_kind}

-- the kind is that of its number
kind_read : (v : After-read_kind)
    → point_kind_in v.args.p.kind ≡ v.read_kind.result
kind_read v = sym v.read_kind.ensures

pub returns-in-Policy : goal.returns-in-Policy
unfolding answered_on cursor_in cursor_by
returns-in-Policy c =
    let a = c.args in
    let β = kept_answers a.domains.now a.count a.kept.now in
    c.after_policy.ensures
    ∙ rw (kind_read (goal.at.returns-in-Policy c).After-read_kind, c.in-Policy.is)
    (ap (policy_reached β (both a.policy.now a.host.now)) (rw c.read_stop-stop.ensures at c.reach_after-reached.ensures))

pub returns-in-Host : goal.returns-in-Host
unfolding answered_on cursor_in cursor_by
returns-in-Host c =
    let a = c.args in
    let β = kept_answers a.domains.now a.count a.kept.now in
    c.after_host.ensures β
    ∙ rw (kind_read (goal.at.returns-in-Host c).After-read_kind, c.in-Host.is)
    (ap (host_reached β (both a.policy.now a.host.now) (drop a.p.organization.0 a.policy.now))
    (rw c.read_stop-stop.ensures at c.reach_after-reached-in-Host.ensures))

pub returns-in-Confirming : goal.returns-in-Confirming
unfolding answered_on cursor_in cursor_by
returns-in-Confirming c = rw (kind_read (goal.at.returns-in-Confirming c).After-read_kind, c.in-Confirming.is)

pub returns-in-PlainNo : goal.returns-in-PlainNo
unfolding answered_on cursor_in cursor_by
returns-in-PlainNo c = rw (kind_read (goal.at.returns-in-PlainNo c).After-read_kind, c.in-PlainNo.is)

pub returns-in-Inside : goal.returns-in-Inside
unfolding answered_on cursor_in cursor_by
returns-in-Inside c = rw (kind_read (goal.at.returns-in-Inside c).After-read_kind, c.in-Inside.is)

pub returns-in-Confirmed : goal.returns-in-Confirmed
unfolding answered_on cursor_in cursor_by
returns-in-Confirmed c = rw (kind_read (goal.at.returns-in-Confirmed c).After-read_kind, c.in-Confirmed.is)

pub returns-in-Replaced : goal.returns-in-Replaced
unfolding answered_on cursor_in cursor_by
returns-in-Replaced c = rw (kind_read (goal.at.returns-in-Replaced c).After-read_kind, c.in-Replaced.is)

pub returns-in-NotKnown : goal.returns-in-NotKnown
unfolding answered_on cursor_in cursor_by
returns-in-NotKnown c = rw (kind_read (goal.at.returns-in-NotKnown c).After-read_kind, c.in-NotKnown.is)
