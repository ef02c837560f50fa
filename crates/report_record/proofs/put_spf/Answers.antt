-- `report_record::put_spf` meets its contract.
use Rattle.octets.specs.Octets.{octets}
use Rattle.report_record.proofs.RecordLaws.{spf_puts}
use Rattle.report_record.proofs.put_spf.Goals as goal

pub returns : goal.returns
unfolding octets
returns c =
    let a = c.args in
    spf_puts a.out.now a.at a.domain.now a.outcome c.put-first.ensures c.put_lower_then-second.ensures (rw c.outcome_word.ensures at c.put_then.ensures)
