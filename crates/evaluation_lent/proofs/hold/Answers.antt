-- `evaluation_lent::hold` meets its contract.
use Rattle.octets.specs.Octets.{is_set}
use Rattle.evaluation_numbers.specs.Numbers.{held_of}
use Rattle.evaluation_lent.proofs.hold.Goals as goal

pub returns : goal.returns
unfolding held_of is_set
returns c = rw (c.read_position.ensures, c.read_existence.ensures)
