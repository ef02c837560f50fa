-- `report_address::is_zero` meets its contract.
use Rattle.std.proofs.Common.{arith}
use Rattle.std.proofs.lemmas.Grind.{common_steps}
use Rattle.report_address.specs.code.Addresses.{only_zero_in}
use Rattle.report_address.proofs.is_zero.Goals as goal

pub returns-then-digits-ne0 : goal.returns-then-digits-ne0
unfolding only_zero_in
returns-then-digits-ne0 c = grind (arith, common_steps)

pub returns-else-digits-ne0 : goal.returns-else-digits-ne0
unfolding only_zero_in
returns-else-digits-ne0 c = grind (arith, common_steps)
