-- `rows_gather::add` meets its contract.
use Rattle.std.proofs.Common.{◌≡◌, length, arith}
use Rattle.rows_gather.proofs.GatherLaws.{Sized, adds, is_full, has_room}
use Rattle.rows_gather.proofs.add.Goals as goal

pub returns-then-g-lt-MOST_ROWS-clause-whole : goal.returns-then-g-lt-MOST_ROWS-clause-whole
returns-then-g-lt-MOST_ROWS-clause-whole c = has_room c.args.row c.args.g.now (omega arith) (omega arith) c.if-g-lt-MOST_ROWS.true c.put_row.ensures

pub returns-then-g-lt-MOST_ROWS-clause-rows : goal.returns-then-g-lt-MOST_ROWS-clause-rows
returns-then-g-lt-MOST_ROWS-clause-rows c l =
    let a = c.args in
    let sized : Sized a.row = record { source = omega arith; author = omega arith; set = omega arith; count = omega arith } in
    let full : length a.g.now.octets ≡ 8192 = omega arith in
    rw (has_room a.row a.g.now sized.source full c.if-g-lt-MOST_ROWS.true c.put_row.ensures) (adds a.row a.g.now sized full l)

pub returns-else-g-lt-MOST_ROWS-clause-whole : goal.returns-else-g-lt-MOST_ROWS-clause-whole
returns-else-g-lt-MOST_ROWS-clause-whole c = is_full c.args.row c.args.g.now c.if-g-lt-MOST_ROWS.false
