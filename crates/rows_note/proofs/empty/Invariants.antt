-- The loop of `rows_note::empty`.
use Rattle.std.proofs.Common.{◌≡◌}
use Rattle.rows_note.proofs.EmptyLaws.{emptied_first}
use Rattle.rows_note.proofs.empty.Given as goal

abbrev pub invariant-loop-i : goal.invariant-loop-i
invariant-loop-i l = l.rows ≡ emptied_first l.i l.initial.rows
