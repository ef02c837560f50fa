-- `verdict_own::apply_own` meets its contract.
use mathlib.Core.Path.{sym, ◌∙◌}
use Rattle.walk_known.specs.code.Kept.{kept_answers}
use Rattle.verdict_judgement.specs.code.Judging.{stored_message}
use Rattle.verdict_own.proofs.OwnLaws.{owns_usable, owns_not_usable}
use Rattle.verdict_own.proofs.apply_own.Goals as goal

pub returns-in-None : goal.returns-in-None
unfolding stored_message
returns-in-None c =
    let a = c.args in
    rw c.not_usable.ensures
    (owns_not_usable a.domains.now a.numbers.now a.t (kept_answers a.domains.now a.count a.kept.now) _ _ a.settings c.turn-turned.result c.gone-w.result
    (sym c.in_force.ensures ∙ c.in-None.is)
    (rw c.slot-author.ensures at c.turn-turned.ensures)
    (rw c.slot-author.ensures at c.gone-w.ensures)
    c.store.ensures)

pub returns-in-Some : goal.returns-in-Some
unfolding stored_message
returns-in-Some c =
    let a = c.args in
    owns_usable a.domains.now a.numbers.now a.t (kept_answers a.domains.now a.count a.kept.now) _ _ _ a.settings _ c.turn-turned.result c.gone-w.result
    (sym c.in_force.ensures ∙ c.in-Some.is)
    (rw c.slot-author.ensures at c.turn-turned.ensures)
    (rw c.slot-author.ensures at c.gone-w.ensures)
    c.judge_own.ensures
