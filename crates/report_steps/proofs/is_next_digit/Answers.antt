-- `report_steps::is_next_digit` meets its contract.
use mathlib.Core.Path.{sym, ◌∙◌}
use Rattle.octets.specs.Octets.{is_digit, between}
use Rattle.report_steps.proofs.StepLaws.{no_digit, behind, at_first}
use Rattle.report_steps.proofs.is_next_digit.Goals as goal

pub returns-then-some : goal.returns-then-some
unfolding is_digit between
returns-then-some c = let a = c.args in behind a.least a.value a.some a.x (sym c.is_ascii_digit.ensures.value ∙ c.if-is_ascii_digit.true) c.if-some.true

pub returns-else-some : goal.returns-else-some
unfolding is_digit between
returns-else-some c = let a = c.args in at_first a.least a.value a.some a.x (sym c.is_ascii_digit.ensures.value ∙ c.if-is_ascii_digit.true) c.if-some.false

pub returns-else-is_ascii_digit : goal.returns-else-is_ascii_digit
unfolding is_digit between
returns-else-is_ascii_digit c = let a = c.args in c.if-is_ascii_digit.false ∙ no_digit a.least a.value a.some a.x (sym c.is_ascii_digit.ensures.value ∙ c.if-is_ascii_digit.false)
