-- `verdict_advance::begin` meets its contract.
use mathlib.Core.Path.{sym, ◌∙◌}
use Rattle.walk_known.specs.code.Kept.{kept_answers}
use Rattle.verdict_advance.proofs.AdvanceLaws.{begins_missing, begins_known}
use Rattle.verdict_advance.proofs.begin.Goals as goal

pub returns-in-None : goal.returns-in-None
returns-in-None c =
    let a = c.args in
    rw c.own_name.ensures
    (begins_missing a.domains.now a.numbers.now a.t (kept_answers a.domains.now a.count a.kept.now) _ (sym c.in-None.is ∙ (rw c.slot-author.ensures at c.look_at.ensures)))

pub returns-in-Some : goal.returns-in-Some
returns-in-Some c =
    let a = c.args in
    begins_known a.domains.now a.numbers.now a.t (kept_answers a.domains.now a.count a.kept.now) _ _ _ _ (sym c.in-Some.is ∙ (rw c.slot-author.ensures at c.look_at.ensures)) c.own.ensures
