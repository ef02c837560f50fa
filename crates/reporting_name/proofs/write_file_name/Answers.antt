-- `reporting_name::write_file_name` meets its contract.
use Rattle.std.proofs.Common.{not, ap, arith}
use Rattle.std.specs.Option.{option_copied}
use Rattle.reporting_name.proofs.FileNameLaws.{name_refused, name_too_long, name_written, as_given}
use Rattle.reporting_name.proofs.write_file_name.Goals as goal

pub returns-then-not-is_report : goal.returns-then-not-is_report
returns-then-not-is_report c =
    let a = c.args in
    rw (as_given a.named a.id _ c.then_some-given.ensures)
    (name_refused a.receiver.now a.policy_domain.now c.without_dot-reporter.ensures c.without_dot-reported.ensures a.begin a.end (option_copied c.then_some-given.result) a.out.now
    c.is_report.ensures (ap not c.if-not-is_report.true))

pub returns-then-out-n : goal.returns-then-out-n
returns-then-out-n c =
    let a = c.args in
    rw (as_given a.named a.id _ c.then_some-given.ensures, c.too_short.ensures)
    (name_too_long a.receiver.now a.policy_domain.now c.without_dot-reporter.ensures c.without_dot-reported.ensures a.begin a.end (option_copied c.then_some-given.result) a.out.now
    c.is_report.ensures (ap not c.if-not-is_report.false) (omega (arith, c)) (omega (arith, c)) c.put_name-n.ensures c.if-out-n.true)

pub returns : goal.returns
returns c =
    let a = c.args in
    rw (as_given a.named a.id _ c.then_some-given.ensures)
    (name_written a.receiver.now a.policy_domain.now c.without_dot-reporter.ensures c.without_dot-reported.ensures a.begin a.end (option_copied c.then_some-given.result) a.out.now
    c.is_report.ensures (ap not c.if-not-is_report.false) (omega (arith, c)) (omega (arith, c)) c.put_name-n.ensures c.if-out-n.false c.put_name.ensures)
