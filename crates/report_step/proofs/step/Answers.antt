-- `report_step::step` meets its contract.
use mathlib.Core.Path.{sym, ◌∙◌}
use borrow.Author.Rules.{rules}
use Rattle.report_step.proofs.StepTurns.{turned_broken, turned_last}
use Rattle.report_step.proofs.step.Goals as goal

pub returns-then-cannot_be : goal.returns-then-cannot_be
returns-then-cannot_be c = let a = c.args in turned_broken a.s a.five a.x (sym c.cannot_be.ensures ∙ c.if-cannot_be.true)

pub returns-in_default : goal.returns-in_default
returns-in_default c = let a = c.args in turned_last a.s a.five a.x (sym c.cannot_be.ensures ∙ c.if-cannot_be.false) (search rules)
