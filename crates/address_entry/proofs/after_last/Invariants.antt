-- `address_entry::after_last` meets its contract. The loop's invariant: no mark stands from place `i` on.
use Rattle.std.specs.Prelude.{None}
use mathlib.Core.Path.{◌≡◌}
use Prim.Native.Nat.{◌≤◌}
use lib.ListN.{length, drop}
use Rattle.address.specs.Address.{after_last}
use Rattle.address_entry.proofs.after_last.Given as goal

abbrev pub invariant-loop-i : goal.invariant-loop-i
invariant-loop-i l = (l.i ≤ length l.s) × (after_last l.mark (drop l.i l.s) ≡ None)
