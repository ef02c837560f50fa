-- `evaluation_lent::flag_number` meets its contract.
use borrow.Author.Rules.{rules}
use Rattle.octets.specs.Octets.{is_set}
use Rattle.evaluation_lent.proofs.flag_number.Goals as goal

pub returns-then-b : goal.returns-then-b
unfolding is_set
returns-then-b c = search rules

pub returns : goal.returns
unfolding is_set
returns c = search rules
