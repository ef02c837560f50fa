-- `rows_note::find_row` meets its contract.
use Rattle.std.proofs.Common.{◌∙◌, sym, arith}
use Rattle.rows.specs.Rows.{is_free, is_match}
use Rattle.rows_note.specs.code.Note.{row_for}
use Rattle.rows_note.proofs.FindLaws.{begun, here, past, or_none}
use Rattle.rows_note.proofs.find_row.Goals as goal

pub loop-at-init : goal.loop-at-init
loop-at-init c = record { matches = begun (is_match c.args.seen) c.args.list.now; frees = begun is_free c.args.list.now }

pub returns-then-is_match-clause-place : goal.returns-then-is_match-clause-place
unfolding row_for
returns-then-is_match-clause-place c =
    let m = c.loop-at in
    rw (← m.invariant.matches, here (is_match c.args.seen) c.args.list.now m.at (omega arith) (sym c.is_match.ensures ∙ c.if-is_match.true))

pub returns-clause-place : goal.returns-clause-place
unfolding row_for
returns-clause-place c =
    let m = c.loop-at in
    rw (← m.invariant.matches, ← m.invariant.frees, past (is_match c.args.seen) c.args.list.now m.at (omega arith), past is_free c.args.list.now m.at (omega arith)) (or_none m.free)
