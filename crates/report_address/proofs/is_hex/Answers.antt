-- `report_address::is_hex` meets its contract.
use mathlib.Core.Path.{sym, ◌∙◌}
use Rattle.report_address.proofs.AddressTests.{hex_low, hex_high}
use Rattle.report_address.proofs.is_hex.Goals as goal

pub returns-then-is_digit : goal.returns-then-is_digit
returns-then-is_digit c = c.if-is_digit.true ∙ hex_low c.args.x (sym c.is_digit.ensures ∙ c.if-is_digit.true)

pub returns-else-is_digit : goal.returns-else-is_digit
returns-else-is_digit c = c.is_between.ensures ∙ hex_high c.args.x (sym c.is_digit.ensures ∙ c.if-is_digit.false)
