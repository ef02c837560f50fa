-- `evaluation_given::judge` meets its contract.
use Rattle.evaluation_numbers.specs.Numbers.{judged_numbers}
use Rattle.evaluation_given.proofs.judge.Goals as goal

pub returns : goal.returns
unfolding judged_numbers
returns c = rw (c.blank.ensures, c.number_verdict.ensures)
