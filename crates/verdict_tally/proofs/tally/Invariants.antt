-- `verdict_tally::tally` meets its contract. The loop's invariant: the tally is that of the identifiers past `walk`.
use mathlib.Core.Path.{◌≡◌}
use Prim.Native.Nat.{◌+◌, ◌-◌, ◌≤◌}
use Rattle.verdict_tally.proofs.TallyLaws.{tally_from}
use Rattle.verdict_tally.proofs.tally.Given as goal

abbrev pub invariant-loop-walk : goal.invariant-loop-walk
invariant-loop-walk l = (l.walk ≤ l.initial.walk) × ((l.initial.walk ≤ 16) × (l.all ≡ tally_from l.s l.domains l.numbers l.stored (l.walk + 1) (l.initial.walk - l.walk)))
