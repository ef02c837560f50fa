-- `policy_gather::gather_known` meets its contract: what was found and what is left say together what the whole says.
use mathlib.Core.Path.{◌≡◌}
use Prim.Native.Nat.{◌-◌, ◌≤◌}
use lib.ListN.{length, replicate}
use Rattle.policy_tags.specs.code.TagValues.{tags_at}
use Rattle.policy_gather.proofs.GatherLaws.{Leaves, Even, first_lengths}
use Rattle.policy_gather.proofs.gather_known.Given as goal

abbrev pub invariant-loop-at : goal.invariant-loop-at
invariant-loop-at l = (l.others ≤ l.at) × (length l.begins ≡ 14) × (length l.lengths ≡ 14) × Even l.begins l.lengths × Leaves (replicate 14 0) first_lengths 0 (tags_at l.from l.text) l.begins l.lengths l.others (tags_at l.at l.text)

abbrev pub decreases-loop-at : goal.decreases-loop-at
decreases-loop-at l = length l.text - l.at
