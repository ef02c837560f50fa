-- `evaluation_given::number_verdict` meets its contract.
use Rattle.evaluation_numbers.specs.Numbers.{verdict_numbers}
use Rattle.evaluation_given.proofs.number_verdict.Goals as goal

pub returns : goal.returns
unfolding verdict_numbers
returns c = rw (c.number_disposition.ensures, c.number_applied.ensures, c.number_result.ensures)
