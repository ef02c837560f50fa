-- `report_judge::is_passing` meets its contract.
use Rattle.report_judge.proofs.JudgeLaws.{row_free, row_counts, row_named, row_line}
use Rattle.report_judge.proofs.is_passing.Goals as goal

pub returns-then-number_at-eq0 : goal.returns-then-number_at-eq0
returns-then-number_at-eq0 c =
    let a = c.args in
    row_free _ a.row.now a.test c.number_at.ensures c.if-number_at-eq0.true

pub returns-in-Free : goal.returns-in-Free
returns-in-Free c =
    let a = c.args in
    row_counts _ a.row.now a.test c.number_at.ensures c.if-number_at-eq0.false c.in-Free.is

pub returns-in-Named : goal.returns-in-Named
returns-in-Named c =
    let a = c.args in
    row_named _ a.row.now a.test c.number_at.ensures c.if-number_at-eq0.false c.in-Named.is c.number_at-author.ensures c.number_at-set.ensures c.is_named.ensures

pub returns-in-Ruled : goal.returns-in-Ruled
returns-in-Ruled c =
    let a = c.args in
    row_line _ a.row.now a.test c.number_at.ensures c.if-number_at-eq0.false c.in-Ruled.is c.is_line.ensures
