-- `report_runs::copy_name` meets its contract.
use mathlib.Core.Path.{◌≡◌}
use lib.ListN.{length}
use Rattle.report_runs.proofs.RunLaws.{Named}
use Rattle.report_runs.proofs.copy_name.Given as goal

abbrev pub invariant-loop-k : goal.invariant-loop-k
invariant-loop-k l = (length l.row ≡ length l.initial.row) × (l.k ≡ l.run.used) × Named l.length l.label l.place l.rest l.initial.row l.run l.row
