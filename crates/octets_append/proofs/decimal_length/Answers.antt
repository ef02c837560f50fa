use Rattle.octets_append.proofs.DecimalLength.{so_long}
use Rattle.octets_append.proofs.decimal_length.Goals as goal

pub returns : goal.returns
returns c =
    let e = c.checked_ilog10.ensures in
    rw c.unwrap_or.ensures (so_long c.args.x c.checked_ilog10.result e.none e.power_le e.next_power_gt)
