-- `walk_keep::put` meets its contract.
use mathlib.Core.Path.{refl}
use Prim.Native.Nat.{◌+◌}
use native.Mathlib.Omega.{arith}
use lib.ListN.{set, length-set}
use Rattle.walk_keep.proofs.put.Goals as goal

pub bounds-kept-at : goal.bounds-kept-at
bounds-kept-at c = omega (arith, c.requires)

pub bounds-kept-at-2 : goal.bounds-kept-at-2
bounds-kept-at-2 c = rw (length-set c.args.kept.now c.args.at c.args.from) (omega (arith, c.requires))

pub bounds-kept-at-3 : goal.bounds-kept-at-3
bounds-kept-at-3 c =
    let a = c.args in
    rw (length-set (set a.kept.now a.at a.from) (a.at + 1) a.end, length-set a.kept.now a.at a.from) (omega (arith, c.requires))

pub returns : goal.returns
returns c = refl
