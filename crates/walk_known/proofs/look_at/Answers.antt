-- `walk_known::look_at` meets its contract.
use mathlib.Core.Path.{sym, ◌∙◌}
use lib.ListN.{drop}
use Rattle.walk_known.specs.code.Kept.{kept_answers, known}
use Rattle.walk_known.proofs.KeptLaws.{looked_asked, looked_long}
use Rattle.walk_known.proofs.look_at.Goals as goal

pub returns-then-can_ask : goal.returns-then-can_ask
unfolding known
returns-then-can_ask c =
    let a = c.args in
    rw (c.look_up.ensures, c.skip.ensures)
    (looked_asked (kept_answers a.domains.now a.count a.kept.now) (drop a.at.0 a.d.now) (sym c.can_ask.ensures ∙ c.if-can_ask.true))

pub returns-else-can_ask : goal.returns-else-can_ask
returns-else-can_ask c =
    let a = c.args in
    looked_long (kept_answers a.domains.now a.count a.kept.now) (drop a.at.0 a.d.now) (sym c.can_ask.ensures ∙ c.if-can_ask.false)
