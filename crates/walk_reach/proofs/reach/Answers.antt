-- `walk_reach::reach` meets its contract.
use mathlib.Core.Path.{ap, ◌∙◌}
use Rattle.domain_labels.proofs.StartLaws.{targets_counted}
use Rattle.walk_known.specs.code.Kept.{kept_answers}
use Rattle.std.specs.Prelude.{None}
use Rattle.walk_progress.specs.code.Summary.{found_in}
use Rattle.walk_progress.specs.code.Reaching.{reach}
use Rattle.walk_progress.proofs.StopLaws.{left_whole}
use Rattle.walk_step.proofs.StepLaws.{reaches_from}
use Rattle.walk_reach.proofs.reach.Goals as goal

pub returns : goal.returns
unfolding found_in
returns c =
    let number = c.count_targets-all in
    let pass = c.find_starts-starts.ensures in
    let a = c.args in
    let β = kept_answers a.domains.now a.count a.kept.now in
    reaches_from β a.d.now _ pass None _ _ c.reach_from.ensures
    ∙ ap (reach β a.d.now _) (left_whole a.d.now _ (targets_counted a.d.now _ pass _ number.ensures))
