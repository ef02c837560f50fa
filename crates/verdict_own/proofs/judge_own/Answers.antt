-- `verdict_own::judge_own` meets its contract.
use mathlib.Core.Path.{sym, ◌∙◌}
use Rattle.walk_known.specs.code.Kept.{kept_answers}
use Rattle.verdict_judgement.specs.code.Judging.{stored_message}
use Rattle.verdict_own.proofs.OwnLaws.{judges_walked, judges_unwalked}
use Rattle.verdict_own.proofs.judge_own.Goals as goal

pub returns-then-any_must_walk : goal.returns-then-any_must_walk
unfolding stored_message
returns-then-any_must_walk c =
    let a = c.args in
    judges_walked a.domains.now a.numbers.now a.t (kept_answers a.domains.now a.count a.kept.now) _ _ _ a.settings _ c.find_policy.ensures a.w
    (sym c.if-any_must_walk.true ∙ (rw c.slot-author.ensures at c.any_must_walk.ensures))
    c.complete.ensures

pub returns-else-any_must_walk : goal.returns-else-any_must_walk
unfolding stored_message
returns-else-any_must_walk c =
    let a = c.args in
    judges_unwalked a.domains.now a.numbers.now a.t (kept_answers a.domains.now a.count a.kept.now) _ _ _ a.settings _ c.find_policy.ensures a.w
    (sym c.if-any_must_walk.false ∙ (rw c.slot-author.ensures at c.any_must_walk.ensures))
    c.compare_all.ensures
