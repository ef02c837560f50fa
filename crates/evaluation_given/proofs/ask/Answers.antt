-- `evaluation_given::ask` meets its contract.
use Rattle.evaluation_numbers.specs.Numbers.{ask_numbers}
use Rattle.evaluation_given.proofs.ask.Goals as goal

pub returns : goal.returns
unfolding ask_numbers
returns c = rw c.blank.ensures
