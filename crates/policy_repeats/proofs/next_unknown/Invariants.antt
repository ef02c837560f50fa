-- `policy_repeats::next_unknown` meets its contract: the names of the whole are those of what is left.
use mathlib.Core.Path.{◌≡◌}
use Prim.Native.Nat.{◌≤◌, ◌-◌}
use lib.ListN.{length}
use Rattle.policy_repeats.specs.code.Storing.{names_left}
use Rattle.policy_repeats.proofs.next_unknown.Given as goal

abbrev pub invariant-loop-at : goal.invariant-loop-at
invariant-loop-at l = (l.from ≤ l.at) × (names_left l.text l.from ≡ names_left l.text l.at)

abbrev pub decreases-loop-at : goal.decreases-loop-at
decreases-loop-at l = length l.text - l.at
