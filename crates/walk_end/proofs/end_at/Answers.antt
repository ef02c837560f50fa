-- `walk_end::end_at` meets its contract.
use Rattle.walk_progress.specs.code.Summary.{found_in, summary_in}
use Rattle.walk_progress.specs.code.Turns.{last_summary}
use Rattle.walk_progress.specs.code.Stops.{reached_in}
use Rattle.walk_end.proofs.end_at.Goals as goal

pub returns-in-Some : goal.returns-in-Some
unfolding reached_in summary_in found_in last_summary
returns-in-Some c = λ d. rw c.in-Some.is

pub returns-in-None : goal.returns-in-None
unfolding reached_in summary_in found_in last_summary
returns-in-None c = λ d. rw c.in-None.is
