-- `address_walks::confirm` meets its contract.
use mathlib.Core.Path.{◌∙◌}
use native.Mathlib.Omega.{arith}
use Rattle.address_check.specs.code.Pairs.{both}
use Rattle.address_walks.proofs.WalkLaws.{too_long, short_enough}
use Rattle.address_walks.proofs.confirm.Goals as goal
use Rattle.address_walks.proofs.confirm.Goals.{else-policy-le237-via-then-policy-le237+else-host-policy, else-policy-le237-via-else-policy-le237}

pub returns-then-host-policy : goal.returns-then-host-policy
returns-then-host-policy c =
    let a = c.args in
    λ β. c.confirming.ensures (both a.policy.now a.host.now) ∙ short_enough β a.policy.now a.host.now (omega arith)

pub returns-else-policy-le237 : goal.returns-else-policy-le237
returns-else-policy-le237 c =
    let a = c.args in
    λ β. c.settle.ensures (both a.policy.now a.host.now)
    ∙ too_long β a.policy.now a.host.now (elim c.else-policy-le237.branch [
      | else-policy-le237-via-then-policy-le237+else-host-policy w ↦ omega arith
      | else-policy-le237-via-else-policy-le237 w ↦ omega arith
    ])
