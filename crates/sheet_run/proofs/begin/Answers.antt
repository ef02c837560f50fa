-- `sheet_run::begin` meets its contract.
use Rattle.sheet_run.proofs.WholeLaws.{whole, broken}
use Rattle.records_fields.specs.code.Layout.{Checks}
use Rattle.sheet_run.proofs.begin.Goals as goal

pub returns-in-Ok : goal.returns-in-Ok
unfolding Checks
returns-in-Ok c =
    whole c.in-Ok.records c.args.sheet.now (rw c.in-Ok.is at c.check_sheet.ensures) c.open-opened.result c.open-opened.ensures

pub returns-in-Err : goal.returns-in-Err
unfolding Checks
returns-in-Err c =
    broken c.args.sheet.now _ _ _ (rw c.in-Err.is at c.check_sheet.ensures)
