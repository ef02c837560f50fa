-- `report_head::put_metadata` meets its contract.
use Rattle.report_head.proofs.HeadLaws.{metadata_puts}
use Rattle.octets.specs.Octets.{octets}
use Rattle.report_head.proofs.put_metadata.Goals as goal

pub shape_of-out : goal.shape_of-out
unfolding octets
shape_of-out c =
    let a = c.args in
    (metadata_puts (record { organization = a.organization.now; email = a.email.now; contact = a.contact.now; id = a.id.now; begin = a.begin; end = a.end }) a.out.now a.at
    c.put-first.ensures c.put_escaped_then-second.ensures c.put_escaped_then-third.ensures c.put_contact-fourth.ensures c.put-fifth.ensures
    c.put_then-sixth.ensures c.put_decimal_then-last.ensures c.put_decimal_then.ensures).keeps

pub returns : goal.returns
unfolding octets
returns c =
    let a = c.args in
    metadata_puts _ a.out.now a.at c.put-first.ensures c.put_escaped_then-second.ensures c.put_escaped_then-third.ensures
    c.put_contact-fourth.ensures c.put-fifth.ensures c.put_then-sixth.ensures c.put_decimal_then-last.ensures
    c.put_decimal_then.ensures
