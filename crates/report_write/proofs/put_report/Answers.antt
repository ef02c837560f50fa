-- `report_write::put_report` meets its contract.
use Rattle.report_write.proofs.WritingLaws.{report_puts}
use Rattle.octets.specs.Octets.{octets}
use Rattle.rows_gather.specs.code.Gathered.{rows_of}
use Rattle.report_write.proofs.put_report.Goals as goal

pub shape_of-out : goal.shape_of-out
unfolding octets
shape_of-out c =
    let a = c.args in
    (report_puts a.domain.now a.s (record { organization = a.organization.now; email = a.email.now; contact = a.contact.now; id = a.id.now; begin = a.begin; end = a.end })
    (record { authors = a.authors.now; sets = a.sets.now }) (rows_of a.count a.rows.now) a.out.now c.put-first.ensures c.put_metadata-second.ensures
    c.put_published-third.ensures c.put_records-last.ensures.0 c.put.ensures).keeps

pub returns : goal.returns
unfolding octets
returns c =
    let a = c.args in (
      report_puts a.domain.now a.s _ _ _ a.out.now c.put-first.ensures c.put_metadata-second.ensures c.put_published-third.ensures
          c.put_records-last.ensures.0 c.put.ensures,
      c.put_records-last.ensures.1,
      c.put_records-last.ensures.2,
    )
