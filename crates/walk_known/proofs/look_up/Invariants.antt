-- `walk_known::look_up` meets its contract. The loop's invariant: what is known by all answers is known by those from the i-th on.
use mathlib.Core.Path.{◌≡◌}
use Prim.Native.Nat.{◌-◌, ◌*◌}
use lib.ListN.{drop}
use Rattle.domain.specs.Domain.{asked_name}
use Rattle.walk_known.specs.code.Kept.{known}
use Rattle.walk_known.proofs.look_up.Given as goal

abbrev pub invariant-loop-i : goal.invariant-loop-i
invariant-loop-i l = known l.domains l.count l.kept (asked_name l.target) ≡ known l.domains (l.count - l.i) (drop (3 * l.i) l.kept) (asked_name l.target)
