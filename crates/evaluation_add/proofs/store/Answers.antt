-- `evaluation_add::store` meets its contract.
use mathlib.Core.Path.{refl}
use Prim.Native.Nat.{◌+◌}
use native.Mathlib.Omega.{arith}
use Rattle.evaluation.specs.GivenBack.{message_now}
use Rattle.evaluation_add.proofs.MoreLaws.{message_with}
use Rattle.evaluation_add.proofs.store.Goals as goal

pub returns : goal.returns
unfolding message_now
returns c =
    let a = c.args in
    let message = message_with a.e.numbers a.d.now (a.e.terms.identifiers + 1) a.kind a.outcome (omega (arith, c.requires.identifiers_bound)) (omega arith) (omega arith) c.requires.d_len_bound c.append_lower.ensures a.e.terms refl in
    (λ m h. record { started = h.started; not_handed = h.not_handed; message = rw (← h.message) message }, refl)
