-- `address_accept::settle` meets its contract.
use mathlib.Core.Path.{refl}
use Rattle.address_check.specs.Numbers.{pair_now}
use Rattle.address_check.specs.code.View.{replies_now, cursor_now}
use Rattle.address_accept.proofs.settle.Goals as goal

pub returns : goal.returns
unfolding pair_now replies_now cursor_now
returns c = record { started = refl; confirmed = refl; asked = refl; domains = refl; numbers = refl; replies = refl; cursor = c.settle-point.ensures _ }
