-- `walk_reach::reach_after` meets its contract.
use mathlib.Core.Path.{◌≡◌, ◌∙◌}
use Rattle.walk_known.specs.code.Kept.{kept_answers}
use Rattle.walk_progress.specs.code.Reaching.{reach, reach_after}
use Rattle.walk_progress.specs.code.Stops.{targets_left, pause_in, turned_in}
use Rattle.walk_step.proofs.StepLaws.{reaches_from}
use Rattle.walk_reach.proofs.reach_after.Goals as goal
use Rattle.walk_reach.proofs.reach_after.Goals.{After-turn}

-- the walk after the reply
after : (v : After-turn) →
    let a = v.args in
    let β = kept_answers a.domains.now a.count a.kept.now in
    turned_in a.d.now (λ l. reach β a.d.now l (targets_left a.d.now a.stop.more.0)) v.turn.result ≡ reach_after β a.d.now (pause_in a.d.now a.stop) a.r
unfolding reach_after pause_in
after v =
    let a = v.args in
    let β = kept_answers a.domains.now a.count a.kept.now in
    v.turn.ensures (λ l. reach β a.d.now l (targets_left a.d.now a.stop.more.0))

pub returns-in-Break : goal.returns-in-Break
unfolding turned_in
returns-in-Break c = rw c.in-Break.is at (after (goal.at.returns-in-Break c).After-turn)

pub returns-in-Continue : goal.returns-in-Continue
unfolding turned_in
returns-in-Continue c =
    let a = c.args in
    let β = kept_answers a.domains.now a.count a.kept.now in
    reaches_from β a.d.now _ c.find_starts-starts.ensures _ _ _ c.reach_from.ensures
    ∙ rw c.in-Continue.is at (after (goal.at.returns-in-Continue c).After-turn)
