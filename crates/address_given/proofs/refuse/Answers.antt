-- `address_given::refuse` meets its contract.
use Rattle.address_check.specs.Numbers.{given_refused}
use Rattle.address_given.proofs.refuse.Goals as goal

pub returns : goal.returns
unfolding given_refused
returns c = rw c.blank-given.ensures
