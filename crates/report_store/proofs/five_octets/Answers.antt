use Prim.Native.Nat.{◌-◌}
use Rattle.report_store.proofs.StoreLaws.{octets_sum}
use Rattle.report_store.proofs.five_octets.Goals as goal

-- src/lib.rt:55:1
pub returns : goal.returns
returns c =
    octets_sum c.args.row.now c.octet_at-a.ensures c.octet_at-b.ensures c.octet_at-c.ensures c.octet_at-d.ensures c.octet_at-e.ensures
