-- `report_texts::is_text` meets its contract.
use Rattle.std.proofs.Common.{arith}
use Rattle.std.proofs.lemmas.Grind.{common_steps}
use Rattle.report_texts.proofs.TextLaws.{too_long, of_class}
use Rattle.report_texts.proofs.is_text.Goals as goal

pub returns-then-text-le4096 : goal.returns-then-text-le4096
returns-then-text-le4096 c = of_class c.args.text.now c.if-text-le4096.true c.front_length.ensures

pub returns-else-text-le4096 : goal.returns-else-text-le4096
returns-else-text-le4096 c = let h = too_long c.args.text.now c.if-text-le4096.false in grind (arith, common_steps)
