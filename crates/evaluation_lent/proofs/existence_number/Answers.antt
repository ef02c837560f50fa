-- `evaluation_lent::existence_number` meets its contract.
use Rattle.evaluation_open.specs.code.Opening.{existence_in}
use borrow.Author.Rules.{rules}
use Rattle.evaluation_lent.proofs.existence_number.Goals as goal

pub returns-in-Missing : goal.returns-in-Missing
unfolding existence_in
returns-in-Missing c = search rules

pub returns-in-Exists : goal.returns-in-Exists
unfolding existence_in
returns-in-Exists c = search rules

pub returns-in-Unknown : goal.returns-in-Unknown
unfolding existence_in
returns-in-Unknown c = search rules
