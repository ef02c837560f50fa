-- `rows_check::check` meets its contract.
use Rattle.std.proofs.Common.{arith}
use Rattle.std.proofs.lemmas.Grind.{common_steps}
use Rattle.rows_check.specs.code.Check.{checked}
use Rattle.rows_check.proofs.check.Goals as goal

pub returns-then-not-is_judged : goal.returns-then-not-is_judged
unfolding checked
returns-then-not-is_judged c = grind (arith, common_steps)

pub returns-then-not-serves : goal.returns-then-not-serves
unfolding checked
returns-then-not-serves c = grind (arith, common_steps)

pub returns-then-not-is_named : goal.returns-then-not-is_named
unfolding checked
returns-then-not-is_named c = grind (arith, common_steps)

pub returns-else-not-is_named : goal.returns-else-not-is_named
unfolding checked
returns-else-not-is_named c = grind (arith, common_steps)
