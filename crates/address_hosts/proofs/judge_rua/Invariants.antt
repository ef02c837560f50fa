-- `address_hosts::judge_rua` meets its contract: what was said so far and what is left say together what the whole says.
use mathlib.Core.Path.{◌≡◌}
use mathlib.Core.Bool.{not}
use Prim.Native.Nat.{◌≤◌}
use lib.Dec.{eqb}
use lib.ListN.{length}
use Rattle.octets.specs.Octets.{front, lower}
use Rattle.address.specs.Address.{rua_hosts}
use Rattle.address_hosts.specs.code.Saying.{hosts_said, both_said}
use Rattle.address_hosts.proofs.judge_rua.Given as goal

abbrev pub invariant-loop-n : goal.invariant-loop-n
invariant-loop-n l = (length l.t ≤ length l.rua) × (l.n ≡ length (front (λ x. not (eqb x 44)) l.t))
    × (both_said l.said (hosts_said (lower l.host) (rua_hosts l.t)) ≡ hosts_said (lower l.host) (rua_hosts l.rua))

abbrev pub decreases-loop-n : goal.decreases-loop-n
decreases-loop-n l = length l.t
