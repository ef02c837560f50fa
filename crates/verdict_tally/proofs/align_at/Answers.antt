-- `verdict_tally::align_at` meets its contract.
use Rattle.alignment_stored.specs.code.Stored.{identifier_at}
use Rattle.verdict_cursor.specs.code.Cursor.{read_by, read_alignment}
use Rattle.verdict_cursor.specs.code.Standing.{stored_at}
use Rattle.verdict_tally.proofs.align_at.Goals as goal

pub returns-in-Some : goal.returns-in-Some
unfolding read_alignment read_by
returns-in-Some c =
    rw (← c.slot-author.ensures, ← c.settle_at.ensures, c.in-Some.is)

pub returns-in-None : goal.returns-in-None
unfolding read_alignment identifier_at stored_at
returns-in-None c =
    rw (c.compare.ensures, ← c.slot-author.ensures, ← c.settle_at.ensures, c.in-None.is, c.number_of-first.ensures, c.slot-d.ensures, c.number_of.ensures)
