-- `report_runs::count_matching` meets its contract.
use Prim.Native.Nat.{◌≤◌, ◌<◌}
use lib.ListN.{length}
use Rattle.report_runs.proofs.RunLaws.{Each}
use Rattle.report_runs.proofs.count_matching.Given as goal

abbrev pub invariant-loop-k : goal.invariant-loop-k
invariant-loop-k l = (l.k ≤ 116) × (l.k ≤ length l.rest) × (l.at < 116) × Each l.text l.at l.rest l.k
