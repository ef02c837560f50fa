use Prim.Native.Nat.{◌-◌}
use Rattle.report_store.proofs.StoreLaws.{groups_sum}
use Rattle.report_store.proofs.five_groups.Goals as goal

-- src/lib.rt:66:1
pub returns : goal.returns
returns c =
    groups_sum c.args.row.now c.pair_at-a.ensures c.pair_at-b.ensures c.pair_at-c.ensures c.pair_at-d.ensures c.pair_at-e.ensures
