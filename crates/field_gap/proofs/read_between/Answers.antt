-- `field_gap::read_between` meets its contract: by what the octet is.
use Rattle.std.proofs.Common.{sym, ◌∙◌}
use Rattle.field_gap.proofs.GapLaws.{is_space, space_step, other_step}
use Rattle.field_gap.proofs.read_between.Goals as goal

pub returns-then-is_space : goal.returns-then-is_space
unfolding is_space
returns-then-is_space c =
    let a = c.args in
    rw (c.read_space.ensures, c.may_close-closes.ensures) (sym (space_step a.side a.b a.depth a.dkim a.spf a.x (sym c.is_space.ensures ∙ c.if-is_space.true)))

pub returns-else-is_space : goal.returns-else-is_space
unfolding is_space
returns-else-is_space c =
    let a = c.args in
    c.read_other.ensures ∙ sym (other_step a.side a.b a.depth a.dkim a.spf a.x (sym c.is_space.ensures ∙ c.if-is_space.false))
