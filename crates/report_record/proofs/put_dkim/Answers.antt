-- `report_record::put_dkim` meets its contract.
use Rattle.octets.specs.Octets.{octets}
use Rattle.report_record.proofs.RecordLaws.{dkim_puts}
use Rattle.report_record.proofs.put_dkim.Goals as goal

pub returns : goal.returns
unfolding octets
returns c =
    let a = c.args in
    dkim_puts a.out.now a.at a.domain.now a.selector.now a.outcome c.put-first.ensures c.put_lower_then-second.ensures c.put_lower_then-third.ensures (rw c.outcome_word.ensures at c.put_then.ensures)
