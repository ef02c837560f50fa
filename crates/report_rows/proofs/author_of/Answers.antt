-- `report_rows::author_of` meets its contract.
use Rattle.report_rows.proofs.LineLaws.{author_is}
use Rattle.report_rows.proofs.author_of.Goals as goal

pub returns : goal.returns
returns c =
    let a = c.args in
    author_is a.row.now a.authors.now c.number_at-number.ensures c.record_at.ensures c.body.ensures c.without_dot.ensures
