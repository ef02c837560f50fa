-- `policy_repeats::is_stored` meets its contract: names of other keys are other names.
use mathlib.Core.Path.{◌≡◌}
use Prim.Native.Nat.{◌≤◌}
use Rattle.policy_repeats.specs.code.Storing.{name_at, is_stored}
use Rattle.policy_repeats.proofs.is_stored.Given as goal

abbrev pub invariant-loop-left : goal.invariant-loop-left
invariant-loop-left l = (l.left ≤ l.count) × (is_stored l.text l.places l.count (name_at l.text l.at) ≡ is_stored l.text l.places l.left (name_at l.text l.at))

abbrev pub decreases-loop-left : goal.decreases-loop-left
decreases-loop-left l = l.left
