-- `rows_match::is_match` meets its contract.
use Rattle.std.proofs.Common.{arith}
use Rattle.std.proofs.lemmas.Grind.{common_steps}
use Rattle.rows.specs.Rows.{is_match}
use Rattle.rows_match.proofs.is_match.Goals as goal

pub returns-then-not-is_free : goal.returns-then-not-is_free
unfolding is_match
returns-then-not-is_free c = grind (arith, common_steps)

pub returns-else-not-is_free : goal.returns-else-not-is_free
unfolding is_match
returns-else-not-is_free c = grind (arith, common_steps)
