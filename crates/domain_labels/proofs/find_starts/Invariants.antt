-- `domain_labels::find_starts` meets its contract. The loop's invariant: the octets from `i` on are passed, one a round, and their labels counted and placed.
use mathlib.Core.Path.{◌≡◌}
use Prim.Native.Nat.{◌≤◌, ◌<◌, ◌+◌}
use lib.ListN.{length, drop}
use Rattle.domain.specs.Domain.{label_count}
use Rattle.domain_labels.proofs.StartLaws.{Found}
use Rattle.domain_labels.proofs.find_starts.Given as goal

abbrev pub invariant-loop-i : goal.invariant-loop-i
invariant-loop-i l = (l.rounds + l.i ≡ length l.s) × (0 < l.labels) × (l.labels ≤ l.rounds + 1) × (l.labels ≡ label_count (drop l.i l.s)) × Found l.s l.begins l.labels
