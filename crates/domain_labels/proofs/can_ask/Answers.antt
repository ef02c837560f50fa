-- `domain_labels::can_ask` meets its contract.
use mathlib.Core.Path.{◌≡◌, ap}
use Prim.Native.Nat.{ℕ, ◌-◌}
use native.Mathlib.Omega.{arith}
use lib.ListN.{length, drop, length-drop}
use lib.Dec.{leb}
use Rattle.domain.specs.Domain.{can_ask}
use Rattle.domain_labels.proofs.can_ask.Goals as goal

pub returns : goal.returns
unfolding can_ask
returns c =
    let a = c.args in
    let left : length a.s.now - c.clip.result.0 ≡ length (drop a.at.0 a.s.now) = omega (arith, length-drop a.at.0 a.s.now) in
    ap (λ (n : ℕ). leb n 246) left
