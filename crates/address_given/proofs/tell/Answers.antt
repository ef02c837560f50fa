-- `address_given::tell` meets its contract.
use Rattle.address_check.specs.Numbers.{given_outcome}
use Rattle.address_given.proofs.tell.Goals as goal

pub returns : goal.returns
unfolding given_outcome
returns c = rw (c.blank-given.ensures, c.number_agreement.ensures, c.find_instead-instead.ensures)
