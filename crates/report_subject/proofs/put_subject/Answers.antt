-- `report_subject::put_subject` meets its contract.
use Rattle.report_subject.proofs.SubjectLaws.{subject_puts}
use Rattle.octets.specs.Octets.{octets}
use Rattle.report_subject.proofs.put_subject.Goals as goal

pub returns : goal.returns
unfolding octets
returns c =
    let a = c.args in
    subject_puts a.receiver.now a.policy_domain.now a.id.now a.out.now c.put-first.ensures c.put_lower_then-second.ensures
    c.put_lower_then-last.ensures c.put_then.ensures
