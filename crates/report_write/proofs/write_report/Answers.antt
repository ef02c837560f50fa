-- `report_write::write_report` meets its contract.
use Rattle.std.proofs.Common.{◌≡◌, rules, arith, Err}
use Rattle.report_write.proofs.WholeLaws.{never, faulty, report_written}
use Rattle.report_write.proofs.write_report.Goals as goal

pub returns-then-list-eq0 : goal.returns-then-list-eq0
returns-then-list-eq0 c =
    let a = c.args in
    never a.list a.count a.rows.now _ _ a.s a.out.now c.if-list-eq0.true

pub returns-in_err-check : goal.returns-in_err-check
returns-in_err-check c =
    let a = c.args in
    let refused : c.from_residual.result ≡ Err c.in_err-check.field-0.0 = search rules in
    rw refused (faulty a.list a.count a.rows.now _ _ a.s a.out.now c.if-list-eq0.false (rw c.from.ensures at c.part-domain.ensures) c.min-most.ensures c.check.ensures _ c.in_err-check.was)

pub returns : goal.returns
returns c =
    let a = c.args in
    report_written a.list a.count a.rows.now _ _ a.s a.out.now c.if-list-eq0.false (rw c.from.ensures at c.part-domain.ensures) c.min-most.ensures c.check.ensures _ c.in_ok-check.was
    (omega (arith, c)) (omega (arith, c)) c.write_text.ensures
