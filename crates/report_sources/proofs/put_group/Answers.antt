-- `report_sources::put_group` meets its contract.
use Prim.Native.Nat.{◌/◌}
use lib.ListN.{length}
use Rattle.report_sources.proofs.SourceLaws.{group_text}
use Rattle.report_sources.proofs.put_group.Goals as goal

pub returns : goal.returns
returns c =
    let text = group_text c.octet_at-high.result c.octet_at-low.result (length c.args.t.now / 4) c.octet_at-high.ensures c.octet_at-low.ensures
    c.digit.ensures c.digit-2.ensures c.digit-3.ensures c.digit-4.ensures c.leading_zeros-from.ensures c.part.ensures in
    rw (← text) c.put.ensures
