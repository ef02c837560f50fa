-- `evaluation_given::refuse` meets its contract.
use Rattle.evaluation_numbers.specs.Numbers.{refused_numbers}
use Rattle.evaluation_given.proofs.refuse.Goals as goal

pub returns : goal.returns
unfolding refused_numbers
returns c = rw c.blank.ensures
