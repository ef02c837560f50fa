-- `policy_repeats::comes_again` meets its contract: whether any name is stored is whether any is that is left.
use mathlib.Core.Path.{◌≡◌}
use Prim.Native.Nat.{◌-◌}
use lib.ListN.{length}
use Rattle.octets.specs.Octets.{any}
use Rattle.policy_repeats.specs.code.Storing.{names_left, is_stored, First}
use Rattle.policy_repeats.proofs.comes_again.Given as goal

abbrev pub invariant-loop-at : goal.invariant-loop-at
invariant-loop-at l = First l.text l.at × (any (is_stored l.text l.places 1024) (names_left l.text l.from) ≡ any (is_stored l.text l.places 1024) (names_left l.text l.at))

abbrev pub decreases-loop-at : goal.decreases-loop-at
decreases-loop-at l = length l.text - l.at
