-- `report_subject::write_subject` meets its contract.
use mathlib.Core.Bool.{not}
use mathlib.Core.Path.{ap}
use Rattle.report_subject.proofs.SubjectLaws.{subject_refused, subject_too_long, subject_written}
use Rattle.report_subject.proofs.write_subject.Goals as goal

pub returns-then-not-is_subject : goal.returns-then-not-is_subject
returns-then-not-is_subject c =
    let a = c.args in
    subject_refused a.receiver.now a.policy_domain.now a.id.now c.without_dot-reporter.ensures c.without_dot-reported.ensures a.out.now
    c.is_subject.ensures (ap not c.if-not-is_subject.true)

pub returns-then-out-needed : goal.returns-then-out-needed
returns-then-out-needed c =
    let a = c.args in
    subject_too_long a.receiver.now a.policy_domain.now a.id.now c.without_dot-reporter.ensures c.without_dot-reported.ensures a.out.now
    c.is_subject.ensures (ap not c.if-not-is_subject.false) c.put_subject-needed.ensures c.if-out-needed.true c.too_short.ensures

pub returns : goal.returns
returns c =
    let a = c.args in
    subject_written a.receiver.now a.policy_domain.now a.id.now c.without_dot-reporter.ensures c.without_dot-reported.ensures a.out.now
    c.is_subject.ensures (ap not c.if-not-is_subject.false) c.put_subject-needed.ensures c.if-out-needed.false c.put_subject.ensures
