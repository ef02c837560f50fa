-- `evaluation_given::accept` meets its contract.
use Rattle.evaluation_numbers.specs.Numbers.{accepted_numbers}
use Rattle.evaluation_given.proofs.accept.Goals as goal

pub returns : goal.returns
unfolding accepted_numbers
returns c = rw c.blank.ensures
