-- `domain_rule::scan` meets its contract. The loop's invariant: if nothing is wrong so far, the labels from `i` on are whole but for the first.
use mathlib.Core.Path.{◌≡◌}
use Prim.Native.Nat.{◌≤◌, ◌+◌, ◌-◌, ◌*◌}
use lib.ListN.{length, drop}
use Rattle.domain_rule.proofs.PlainLaws.{Plain}
use Rattle.domain_rule.proofs.scan.Given as goal

abbrev pub invariant-loop-i : goal.invariant-loop-i
invariant-loop-i l = (l.i ≤ length l.s) × (l.after ≤ 2) × (l.wrong ≤ 2 * (length l.s - l.i)) × (l.dots ≤ 2 * (length l.s - l.i)) × (l.wrong ≡ 0 → Plain (drop l.i l.s) l.after (l.dots + 1))
