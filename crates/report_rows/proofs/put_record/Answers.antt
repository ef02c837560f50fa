-- `report_rows::put_record` meets its contract.
use Rattle.report_rows.proofs.LineLaws.{record_puts}
use Rattle.octets.specs.Octets.{octets}
use Rattle.report_rows.proofs.put_record.Goals as goal

pub returns : goal.returns
unfolding octets
returns c =
    let a = c.args in (
      record_puts _ a.row.now a.out.now a.at c.author_of.ensures c.set_of.ensures c.put-first.ensures c.put_row-second.ensures.0
          c.put-third.ensures c.put_lower_then-fourth.ensures c.put_results-last.ensures c.put.ensures,
      c.put_row-second.ensures.1,
    )
