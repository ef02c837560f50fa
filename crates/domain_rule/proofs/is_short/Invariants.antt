-- `domain_rule::is_short` meets its contract. The loop's invariant: if no run was long so far, the labels from `i` on are short, the first of `run` octets.
use mathlib.Core.Path.{◌≡◌}
use Prim.Native.Nat.{◌≤◌, ◌-◌, ◌*◌}
use lib.ListN.{length, drop}
use Rattle.domain_rule.proofs.PlainLaws.{Short}
use Rattle.domain_rule.proofs.is_short.Given as goal

abbrev pub invariant-loop-i : goal.invariant-loop-i
invariant-loop-i l = (l.i ≤ length l.s) × (l.run ≤ length l.s - l.i) × (l.over ≤ 253 * (length l.s - l.i)) × (l.over ≡ 0 → (l.run ≤ 63) × Short (drop l.i l.s) l.run)
