-- `report_address::value_of` meets its contract.
use Rattle.std.proofs.Common.{arith}
use Rattle.std.proofs.lemmas.Grind.{common_steps}
use mathlib.Core.Path.{sym, ◌∙◌}
use Rattle.report_address.proofs.AddressTests.{value_low, value_high, digit_low}
use Rattle.report_address.proofs.value_of.Goals as goal

pub overflow_sub-result : goal.overflow_sub-result
overflow_sub-result c = digit_low c.args.x (sym c.is_digit.ensures ∙ c.if-is_digit.true)

pub returns-then-is_digit : goal.returns-then-is_digit
returns-then-is_digit c = value_low c.args.x (sym c.is_digit.ensures ∙ c.if-is_digit.true)

pub returns-else-is_digit : goal.returns-else-is_digit
returns-else-is_digit c = let h = value_high c.args.x (sym c.is_digit.ensures ∙ c.if-is_digit.false) in grind (arith, common_steps)
