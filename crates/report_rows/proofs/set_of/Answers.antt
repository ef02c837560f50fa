-- `report_rows::set_of` meets its contract.
use Rattle.report_rows.proofs.LineLaws.{set_is}
use Rattle.report_rows.proofs.set_of.Goals as goal

pub returns : goal.returns
returns c =
    let a = c.args in
    set_is a.row.now a.sets.now c.number_at-number.ensures c.record_at.ensures c.body.ensures
