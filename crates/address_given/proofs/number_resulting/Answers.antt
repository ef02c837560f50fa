-- `address_given::number_resulting` meets its contract.
use Rattle.address_check.specs.Numbers.{Tells}
use Rattle.address_check.specs.code.View.{resulting_back}
use Rattle.address_given.proofs.number_resulting.Goals as goal

pub returns-in-Ok : goal.returns-in-Ok
unfolding Tells resulting_back
returns-in-Ok c = λ e. rw c.in-Ok.is c.tell.ensures

pub returns-in-Err : goal.returns-in-Err
unfolding Tells resulting_back
returns-in-Err c = λ e. rw c.in-Err.is c.refuse.ensures
