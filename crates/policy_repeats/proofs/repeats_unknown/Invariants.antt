-- `policy_repeats::repeats_unknown` meets its contract: whether a name repeats is what the names stored and those left say together.
use Prim.Native.Nat.{◌-◌, ◌<◌}
use lib.ListN.{length}
use Rattle.policy_repeats.specs.code.Storing.{Holds}
use Rattle.policy_repeats.proofs.repeats_unknown.Given as goal

abbrev pub invariant-loop-at : goal.invariant-loop-at
invariant-loop-at l = (l.count < 1024) × Holds l.text l.from l.keys l.places l.count l.at

abbrev pub decreases-loop-at : goal.decreases-loop-at
decreases-loop-at l = length l.text - l.at
