-- The loop of `rows_note::find_row`.
use Rattle.std.proofs.Common.{◌≡◌, drop}
use Rattle.std.specs.List.{position, position_from}
use Rattle.std.specs.Option.{option_or}
use Rattle.rows.specs.Rows.{is_free, is_match}
use Rattle.rows_note.proofs.find_row.Given as goal

-- no row before this one matches, and `free` is the first free one of those
abbrev pub invariant-loop-at : goal.invariant-loop-at
invariant-loop-at l = record {
  matches : position_from (is_match l.seen) l.at (drop l.at l.list) ≡ position (is_match l.seen) l.list;
  frees : option_or l.free (position_from is_free l.at (drop l.at l.list)) ≡ position is_free l.list;
}
