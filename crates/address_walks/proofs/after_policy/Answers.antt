-- `address_walks::after_policy` meets its contract.
use mathlib.Core.Path.{ap, ◌∙◌}
use lib.ListN.{drop}
use Rattle.walk_known.specs.code.Kept.{kept_answers}
use Rattle.walk_progress.specs.code.Summary.{summary_in}
use Rattle.walk_progress.specs.code.Stops.{reached_in}
use Rattle.address_check.specs.code.Cursor.{host_reached, policy_reached}
use Rattle.address_check.specs.code.View.{point_kind_in, cursor_by, cursor_in}
use Rattle.address_check.specs.code.Pairs.{both}
use Rattle.address_walks.proofs.after_policy.Goals as goal

pub returns-in-Stops : goal.returns-in-Stops
unfolding point_kind_in cursor_in cursor_by policy_reached reached_in
returns-in-Stops c = rw (c.in-Stops.is, c.on.ensures.0, c.on.ensures.2)

pub returns-in-Failed : goal.returns-in-Failed
unfolding policy_reached reached_in
returns-in-Failed c =
    let a = c.args in
    c.settle.ensures (both a.policy.now a.host.now) ∙ rw c.in-Failed.is

pub returns-in-Done : goal.returns-in-Done
unfolding policy_reached reached_in summary_in
returns-in-Done c =
    let a = c.args in
    let β = kept_answers a.domains.now a.count a.kept.now in
    let pair = both a.policy.now a.host.now in
    c.after_host.ensures β
    ∙ rw c.in-Done.is
    (ap (host_reached β pair (drop c.in-Done.o.begin.0 a.policy.now)) c.reach-reached.ensures)
