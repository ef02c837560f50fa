-- `domain_rule::check_labels` meets its contract. The loop's invariant: what is said of all labels is said of those from `begin` on.
use mathlib.Core.Path.{◌≡◌}
use Prim.Native.Nat.{◌≤◌, ◌+◌, ◌-◌}
use lib.ListN.{length, drop}
use Rattle.domain.specs.Domain.{labels, first_bad, label_count}
use Rattle.domain_rule.proofs.check_labels.Given as goal

abbrev pub invariant-loop-rest : goal.invariant-loop-rest
invariant-loop-rest l = (l.begin ≤ length l.s) × (l.labels ≤ l.begin + 1) × (label_count l.s + 1 ≡ l.labels + label_count (drop l.begin l.s)) × (first_bad 0 (labels l.s) ≡ first_bad l.begin (labels (drop l.begin l.s)))

abbrev pub decreases-loop-rest : goal.decreases-loop-rest
decreases-loop-rest l = length l.s - l.begin
