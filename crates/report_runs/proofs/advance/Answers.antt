-- `report_runs::advance` meets its contract.
use native.Mathlib.Omega.{arith}
use Rattle.report_runs.proofs.HeldLaws.{held_first}
use Rattle.report_runs.proofs.advance.Goals as goal

pub returns-then-s-ge-FAR : goal.returns-then-s-ge-FAR
returns-then-s-ge-FAR c = let a = c.args in λ table. (omega arith, held_first a.s a.rest.now a.row.now)
