-- `rows_match::noted` meets its contract.
use Rattle.std.proofs.Common.{arith}
use Rattle.std.proofs.lemmas.Grind.{common_steps}
use Rattle.rows.specs.Rows.{with_count}
use Rattle.rows_match.specs.code.Match.{noted}
use Rattle.rows_match.proofs.noted.Goals as goal

pub returns-then-is_free : goal.returns-then-is_free
unfolding noted
returns-then-is_free c = grind (arith, common_steps)

pub returns-then-is_full : goal.returns-then-is_full
unfolding noted
returns-then-is_full c = grind (arith, common_steps)

pub returns-else-is_full : goal.returns-else-is_full
unfolding noted with_count
returns-else-is_full c = grind (arith, common_steps)
