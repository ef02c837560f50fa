-- `evaluation_state::write_name` meets its contract.
use Rattle.evaluation_state.proofs.write_name.Goals as goal

pub returns : goal.returns
returns c = rw (← c.slot-d.ensures) c.write_name.ensures
