-- `report_record::disposition_word` meets its contract.
use Rattle.std.proofs.Common.{◌≡◌, arith}
use Rattle.octets.specs.Octets.{octets}
use Rattle.report_record.proofs.RecordLaws.{is_quarantine, is_reject, is_pass, is_none}
use Rattle.report_record.proofs.disposition_word.Goals as goal

pub returns-in-1 : goal.returns-in-1
unfolding octets
returns-in-1 c = rw c.in-1.is (is_quarantine c.args.aligned)

pub returns-in-2 : goal.returns-in-2
unfolding octets
returns-in-2 c = rw c.in-2.is (is_reject c.args.aligned)

pub returns-in_default : goal.returns-in_default
unfolding octets
returns-in_default c =
    let d = c.args.disposition in
    rw c.if-aligned.true (is_pass d (λ (e : d ≡ 1). omega arith) (λ (e : d ≡ 2). omega arith))

pub returns-in_default-2 : goal.returns-in_default-2
unfolding octets
returns-in_default-2 c =
    let d = c.args.disposition in
    rw c.if-aligned.false (is_none d (λ (e : d ≡ 1). omega arith) (λ (e : d ≡ 2). omega arith))
