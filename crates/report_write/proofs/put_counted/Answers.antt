-- `report_write::put_counted` meets its contract.
use Rattle.report_write.proofs.WritingLaws.{free_puts, counted_puts}
use Rattle.report_write.proofs.put_counted.Goals as goal

pub returns-then-number_at-eq0 : goal.returns-then-number_at-eq0
returns-then-number_at-eq0 c =
    let a = c.args in
    free_puts _ a.row.now a.out.now a.at c.number_at.ensures c.if-number_at-eq0.true

pub returns-else-number_at-eq0 : goal.returns-else-number_at-eq0
returns-else-number_at-eq0 c =
    let a = c.args in
    counted_puts _ a.row.now a.out.now a.at c.number_at.ensures c.if-number_at-eq0.false c.put_record.ensures
