-- `text_front::trim_end` meets its contract: every octet that was passed, from the end, is a blank.
use mathlib.Core.Path.{◌≡◌}
use Prim.Native.Nat.{◌≤◌}
use lib.ListN.{take, length}
use Rattle.octets.specs.Octets.{trim_end}
use Rattle.text_front.proofs.trim_end.Given as goal

abbrev pub invariant-loop-end : goal.invariant-loop-end
invariant-loop-end l = (l.end ≤ length l.s) × (trim_end l.s ≡ trim_end (take l.end l.s))

abbrev pub decreases-loop-end : goal.decreases-loop-end
decreases-loop-end l = l.end
