-- `rows_check::seen_in` meets its contract.
use Rattle.std.proofs.Common.{arith}
use Rattle.std.proofs.lemmas.Grind.{common_steps}
use Rattle.octets.specs.Octets.{is_set, flag}
use Rattle.rows.specs.Rows.{seen_in}
use Rattle.rows_check.proofs.seen_in.Goals as goal

pub returns : goal.returns
unfolding seen_in is_set flag
returns c = grind (arith, common_steps)
