-- `walk_reach::reach_on` meets its contract.
use mathlib.Core.Path.{ap, ◌∙◌}
use native.Mathlib.Omega.{arith}
use Rattle.domain_labels.proofs.StartLaws.{targets_counted}
use Rattle.walk_known.specs.code.Kept.{kept_answers}
use Rattle.walk_progress.specs.code.Summary.{found_in}
use Rattle.walk_progress.specs.code.Reaching.{reach}
use Rattle.walk_progress.proofs.StopLaws.{left_later}
use Rattle.walk_step.proofs.StepLaws.{reaches_from}
use Rattle.walk_reach.proofs.ReachLaws.{some_target}
use Rattle.walk_reach.proofs.reach_on.Goals as goal

pub overflow_sub-later : goal.overflow_sub-later
overflow_sub-later c =
    let d = c.args.d.now in
    omega (arith, targets_counted d _ c.find_starts-starts.ensures _ c.count_targets-later.ensures, some_target d)

pub returns : goal.returns
returns c =
    let a = c.args in
    let β = kept_answers a.domains.now a.count a.kept.now in
    let pass = c.find_starts-starts.ensures in
    let number = targets_counted a.d.now _ pass _ c.count_targets-later.ensures in
    reaches_from β a.d.now _ pass _ _ _ c.reach_from.ensures
    ∙ ap (reach β a.d.now (found_in a.d.now a.last)) (left_later a.d.now _ (omega (arith, number, some_target a.d.now)))
