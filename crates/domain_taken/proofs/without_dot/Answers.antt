-- `domain_taken::without_dot` meets its contract.
use mathlib.Core.Path.{sym}
use Prim.Native.Nat.{◌-◌}
use native.Mathlib.Omega.{arith}
use lib.ListN.{length}
use Rattle.domain_taken.proofs.LastLaws.{dot_of_none, dot_stays, dot_goes}
use Rattle.domain_taken.proofs.without_dot.Goals as goal

pub returns-in-46 : goal.returns-in-46
returns-in-46 c =
    let s = c.args.s.now in
    sym (dot_goes s (length s - 1) (omega arith) (omega arith))

pub returns-in_default : goal.returns-in_default
returns-in_default c = sym (dot_of_none c.args.s.now (omega arith))

pub returns-in_default-2 : goal.returns-in_default-2
returns-in_default-2 c =
    let s = c.args.s.now in
    sym (dot_stays s (length s - 1) (omega arith) (λ e. omega arith))
