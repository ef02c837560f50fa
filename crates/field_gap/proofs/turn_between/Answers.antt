-- `field_gap::turn_between` meets its contract, by what its calls promise.
use Rattle.field_gap.proofs.GapLaws.{deep_turn, wrong_turn, on_turn}
use Rattle.field_states.specs.code.States.{reader}
use mathlib.Core.Path.{sym, ◌∙◌}
use Rattle.field_gap.proofs.turn_between.Goals as goal

pub returns-then-is_ninth : goal.returns-then-is_ninth
returns-then-is_ninth c =
    let a = c.args in
    sym (deep_turn a.side a.b a.depth a.dkim a.spf a.x (sym c.is_ninth.ensures ∙ c.if-is_ninth.true))

pub read_between-state-requires : goal.read_between-state-requires
read_between-state-requires c = sym c.is_ninth.ensures ∙ c.if-is_ninth.false

pub returns-then-was_wrong : goal.returns-then-was_wrong
returns-then-was_wrong c =
    let a = c.args in
    sym (wrong_turn a.side a.b a.depth a.dkim a.spf a.x (sym c.is_ninth.ensures ∙ c.if-is_ninth.false) (rw c.read_between-state.ensures at (sym c.was_wrong.ensures ∙ c.if-was_wrong.true)))

pub returns-else-was_wrong : goal.returns-else-was_wrong
unfolding reader
returns-else-was_wrong c =
    let a = c.args in
    rw c.read_between-state.ensures (sym (on_turn a.side a.b a.depth a.dkim a.spf a.x (sym c.is_ninth.ensures ∙ c.if-is_ninth.false) (rw c.read_between-state.ensures at (sym c.was_wrong.ensures ∙ c.if-was_wrong.false))))
