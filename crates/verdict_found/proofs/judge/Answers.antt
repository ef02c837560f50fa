-- `verdict_found::judge` meets its contract.
use mathlib.Core.Path.{sym, ◌∙◌}
use Rattle.walk_known.specs.code.Kept.{kept_answers}
use Rattle.verdict_found.proofs.FoundLaws.{judges_usable, judges_not_usable}
use Rattle.verdict_found.proofs.judge.Goals as goal

pub returns-in-None : goal.returns-in-None
returns-in-None c =
    let a = c.args in
    rw c.not_usable.ensures
    (judges_not_usable a.domains.now a.numbers.now a.t (kept_answers a.domains.now a.count a.kept.now) _ _ a.begin a.settings a.o (sym c.in_force.ensures ∙ c.in-None.is) c.store.ensures)

pub returns-in-Some : goal.returns-in-Some
returns-in-Some c =
    let a = c.args in
    judges_usable a.domains.now a.numbers.now a.t (kept_answers a.domains.now a.count a.kept.now) _ _ _ a.begin a.settings _ a.o _ (sym c.in_force.ensures ∙ c.in-Some.is) c.find_policy.ensures c.compare_all.ensures
