-- `walk_keep::slot_begin` meets its contract.
use borrow.Author.Tests.{le-leb, lt-leb}
use Rattle.walk_keep.specs.code.Keeping.{begin_of_slot}
use Rattle.walk_keep.proofs.slot_begin.Goals as goal

pub returns-else-walk-le16 : goal.returns-else-walk-le16
unfolding begin_of_slot
returns-else-walk-le16 c = rw (lt-leb c.args.walk 16 c.if-walk-le16.false)

pub returns-then-walk-le16 : goal.returns-then-walk-le16
unfolding begin_of_slot
returns-then-walk-le16 c = rw (le-leb c.args.walk 16 c.if-walk-le16.true)
