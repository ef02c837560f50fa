-- `sheet_open::open` meets its contract.
use Rattle.sheet_open.proofs.OpenLaws.{not_opened, opened_adding}
use Rattle.sheet_open.proofs.open.Goals as goal

pub returns-in-Err : goal.returns-in-Err
returns-in-Err c =
    let a = c.args in
    not_opened a.records a.sheet.now c.body.ensures c.skip.ensures c.octet_at.ensures c.octet_at-2.ensures c.empty.result c.open-opened.result c.open-opened.ensures c.in-Err.is

pub returns : goal.returns
returns c =
    let a = c.args in
    opened_adding a.records a.sheet.now c.body.ensures c.skip.ensures c.octet_at.ensures c.octet_at-2.ensures c.empty.result c.open-opened.result c.open-opened.ensures c.in_default.is c.add_each.result c.add_each.ensures
