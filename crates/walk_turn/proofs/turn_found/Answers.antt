-- `walk_turn::turn_found` meets its contract.
use mathlib.Core.Path.{refl}
use Rattle.walk_progress.specs.code.Summary.{found_in}
use Rattle.walk_progress.specs.code.Reaching.{reach_found}
use Rattle.walk_progress.specs.code.Stops.{turned_in}
use Rattle.walk_turn.proofs.TurnLaws.{by_psd}
use Rattle.walk_turn.proofs.turn_found.Goals as goal

pub returns-in-Yes : goal.returns-in-Yes
unfolding reach_found turned_in
returns-in-Yes c = λ on.
    let a = c.args in
    by_psd a.d.now (found_in a.d.now a.last) _ _ on a.settings c.in-Yes.is _ c.end_suffix.ensures

pub returns-in-No : goal.returns-in-No
unfolding found_in reach_found turned_in
returns-in-No c = λ on.
    let a = c.args in
    by_psd a.d.now (found_in a.d.now a.last) _ _ on a.settings c.in-No.is _ (c.end_at.ensures a.d.now)

pub returns-in-Unset : goal.returns-in-Unset
unfolding found_in reach_found turned_in
returns-in-Unset c = λ on.
    let a = c.args in
    by_psd a.d.now (found_in a.d.now a.last) _ _ on a.settings c.in-Unset.is _ refl
