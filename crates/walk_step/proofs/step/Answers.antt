-- `walk_step::step` meets its contract.
use mathlib.Core.Path.{sym, ◌∙◌}
use Rattle.walk_progress.specs.code.Stops.{pause_in, reached_in, turned_in}
use Rattle.walk_step.specs.code.Steps.{by_looked, reach_at}
use Rattle.walk_step.proofs.step.Goals as goal

pub returns-in-None : goal.returns-in-None
unfolding turned_in reached_in pause_in reach_at by_looked
returns-in-None c = λ on. rw (sym c.look_at.ensures ∙ c.in-None.is)

pub returns-in-Some : goal.returns-in-Some
unfolding reach_at by_looked
returns-in-Some c = λ on. rw (sym c.look_at.ensures ∙ c.in-Some.is) (c.turn.ensures on)
