-- `address_point::confirming` meets its contract.
use Rattle.address_check.specs.code.View.{cursor_by, cursor_in}
use Rattle.address_point.proofs.confirming.Goals as goal

pub returns : goal.returns
unfolding cursor_in cursor_by
returns c = λ d. rw c.at.ensures.0
