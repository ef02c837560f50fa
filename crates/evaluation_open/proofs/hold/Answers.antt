-- `evaluation_open::hold` meets its contract.
use mathlib.Core.Path.{refl}
use native.Mathlib.Omega.{arith}
use Rattle.evaluation.specs.GivenBack.{message_now}
use Rattle.evaluation_open.proofs.SlotLaws.{held_message}
use Rattle.evaluation_open.proofs.hold.Goals as goal

pub returns : goal.returns
unfolding message_now
returns c =
    let a = c.args in
    let message = held_message a.e.numbers a.author.now _ a.support (omega arith) (omega arith) c.requires c.append_lower.ensures in
    (record { started = refl; not_handed = refl; message = rw (← c.read_existence.ensures) message }, refl)
