-- `policy_repeats::key_of` meets its contract: the key of the whole is that of what is left.
use Rattle.std.proofs.Common.{◌≡◌, ◌<◌, drop}
use Rattle.policy_repeats.specs.code.Storing.{prime, key_from}
use Rattle.policy_repeats.proofs.key_of.Given as goal

abbrev pub invariant-loop-x : goal.invariant-loop-x
invariant-loop-x l = (l.key < prime) × (key_from 0 l.name ≡ key_from l.key (drop l.x-index l.name))
