-- `rows_named::front_body` meets its contract.
use Rattle.std.proofs.Common.{arith}
use Rattle.std.proofs.lemmas.Grind.{common_steps}
use Rattle.rows.specs.Lists.{body_or_empty, first_body}
use Rattle.rows_named.proofs.front_body.Goals as goal

pub returns-then-is_whole : goal.returns-then-is_whole
unfolding body_or_empty first_body
returns-then-is_whole c = grind (arith, common_steps)

pub returns-else-is_whole : goal.returns-else-is_whole
unfolding body_or_empty first_body
returns-else-is_whole c = grind (arith, common_steps)
