-- `verdict_own::gone` meets its contract.
use Rattle.walk_progress.specs.code.Stops.{turned_in}
use Rattle.verdict_own.proofs.gone.Goals as goal

pub returns-in-Break : goal.returns-in-Break
unfolding turned_in
returns-in-Break c = rw c.in-Break.is

pub returns-in-Continue : goal.returns-in-Continue
unfolding turned_in
returns-in-Continue c = rw (c.in-Continue.is, turned_in) c.reach_on.ensures
