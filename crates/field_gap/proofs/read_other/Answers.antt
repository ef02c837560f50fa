-- `field_gap::read_other` meets its contract: a ninth comment is not counted.
use Rattle.std.proofs.Common.{◌≡◌, true, rules}
use Rattle.field_states.specs.code.States.{is_open}
use Rattle.field_gap.proofs.GapLaws.{counted}
use Rattle.field_gap.proofs.read_other.Goals as goal

pub read_token-requires : goal.read_token-requires
unfolding is_open
read_token-requires c =
    let a = c.args in
    let may_end : is_open a.b ≡ true = search rules in
    counted a.side a.b a.depth a.x c.requires may_end
