-- `report_reader::read_part` meets its contract.
use mathlib.Core.Path.{◌≡◌}
use Prim.Native.Nat.{◌≤◌, ◌-◌}
use lib.ListN.{length}
use Rattle.report_words.specs.code.Table.{texts}
use Rattle.report_runs.specs.code.Runs.{Held, IsTable}
use Rattle.report_reader.proofs.read_part.Given as goal

abbrev pub invariant-loop-i : goal.invariant-loop-i
invariant-loop-i l = (l.i ≤ l.n) × (l.n ≡ length l.part) × (length l.row ≡ length l.initial.row) × IsTable l.texts l.begins × Held l.initial.state l.part l.initial.row l.state l.row l.i

abbrev pub decreases-loop-i : goal.decreases-loop-i
decreases-loop-i l = l.n - l.i
