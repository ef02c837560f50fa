-- `evaluation_lent::read_position` meets its contract.
use Rattle.evaluation_numbers.specs.Numbers.{held_of}
use Rattle.evaluation_lent.proofs.read_position.Goals as goal

pub returns : goal.returns
unfolding held_of
returns c = rw c.read_kind.ensures
