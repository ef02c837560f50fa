-- `address_given::number_acceptance` meets its contract.
use Rattle.address_check.specs.Numbers.{given_accepted, Tells}
use Rattle.address_check.specs.code.View.{acceptance_back}
use Rattle.address_given.proofs.number_acceptance.Goals as goal

pub returns-in-Ok : goal.returns-in-Ok
unfolding Tells acceptance_back given_accepted
returns-in-Ok c = λ e. rw c.in-Ok.is c.blank.ensures

pub returns-in-Err : goal.returns-in-Err
unfolding Tells acceptance_back
returns-in-Err c = λ e. rw c.in-Err.is c.refuse.ensures
