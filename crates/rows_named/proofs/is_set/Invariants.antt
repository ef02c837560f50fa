-- `rows_named::is_set` meets its contract.
use mathlib.Core.Path.{◌≡◌}
use mathlib.Core.Bool.{false}
use Prim.Native.Nat.{◌+◌, ◌≤◌}
use lib.ListN.{length}
use Rattle.rows.specs.Lists.{set_in}
use Rattle.rows_named.specs.code.Naming.{passes_set}
use Rattle.rows_named.proofs.is_set.Given as goal

abbrev pub invariant-loop-t : goal.invariant-loop-t
invariant-loop-t l = (l.index + length l.t ≤ length l.body) × (passes_set 0 false (set_in l.body) ≡ passes_set l.index l.seen (set_in l.t))

abbrev pub decreases-loop-t : goal.decreases-loop-t
decreases-loop-t l = length l.t
