-- The loop of `octets_write::write_lower`.
use mathlib.Core.Path.{◌≡◌}
use mathlib.Core.List.{◌++◌}
use Prim.Native.Nat.{◌≤◌}
use lib.ListN.{take, drop, length}
use Rattle.octets.specs.Octets.{lower}
use Rattle.octets_write.proofs.write_lower.Given as goal

abbrev pub invariant-loop-i : goal.invariant-loop-i
invariant-loop-i l = record {
  room : length l.text ≤ length l.initial.out;
  as_long : length l.out ≡ length l.initial.out;
  copied : l.out ≡ take l.i (lower l.text) ++ drop l.i l.initial.out;
}
