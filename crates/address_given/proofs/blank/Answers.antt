-- `address_given::blank` meets its contract.
use mathlib.Core.Path.{refl}
use Rattle.address_given.proofs.blank.Goals as goal

pub returns : goal.returns
returns c = refl
