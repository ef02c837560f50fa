-- `rows_gather::put_row` meets its contract.
use native.Mathlib.Omega.{arith}
use Rattle.rows_gather.proofs.GatherLaws.{puts_row}
use Rattle.rows_gather.proofs.put_row.Goals as goal

pub returns : goal.returns
returns c =
    puts_row c.args.row c.args.out.now c.args.at (omega arith) c.requires
    c.append-after_source.ensures c.append-after_flags.ensures c.put_number-after_author.ensures c.put_number-after_set.ensures c.put_number.ensures
