-- `report_store::put_one` meets its contract.
use mathlib.Core.List.{[], ◌∷◌}
use Rattle.report_store.proofs.StoreLaws.{set_laid, laid_past}
use Rattle.report_store.proofs.put_one.Goals as goal

pub returns-then-at-row : goal.returns-then-at-row
returns-then-at-row c = let a = c.args in set_laid a.row.now a.at a.x c.if-at-row.true

pub returns-else-at-row : goal.returns-else-at-row
returns-else-at-row c = let a = c.args in laid_past a.row.now a.at (a.x ∷ []) c.if-at-row.false
