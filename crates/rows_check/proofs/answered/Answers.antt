-- `rows_check::answered` meets its contract.
use Rattle.std.proofs.Common.{arith}
use Rattle.std.proofs.lemmas.Grind.{common_steps}
use Rattle.rows_check.specs.code.Check.{refusal_in}
use Rattle.rows_check.proofs.answered.Goals as goal

pub returns-in-Ok : goal.returns-in-Ok
unfolding refusal_in
returns-in-Ok c = grind (arith, common_steps)

pub returns-in-Err : goal.returns-in-Err
unfolding refusal_in
returns-in-Err c = grind (arith, common_steps)
