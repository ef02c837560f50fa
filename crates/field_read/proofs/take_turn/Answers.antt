-- `field_read::take_turn` meets its contract, by the state.
use Rattle.field_read.proofs.ReadLaws.{same_turn}
use mathlib.Core.Path.{sym, ◌∙◌}
use Rattle.field_read.proofs.take_turn.Goals as goal

pub returns-in-Spelling : goal.returns-in-Spelling
returns-in-Spelling c =
    let a = c.args in
    c.turn_in_word.ensures ∙ sym (same_turn a.r _ a.x c.in-Spelling.is)

pub returns-in-Between : goal.returns-in-Between
returns-in-Between c =
    let a = c.args in
    c.turn_between.ensures ∙ sym (same_turn a.r _ a.x c.in-Between.is)
