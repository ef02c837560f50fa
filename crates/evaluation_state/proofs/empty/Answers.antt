-- `evaluation_state::empty` meets its contract.
use Rattle.evaluation.specs.code.View.{blank}
use Rattle.evaluation_state.proofs.empty.Goals as goal

pub returns : goal.returns
unfolding blank
returns c = rw c.no_stop.ensures
