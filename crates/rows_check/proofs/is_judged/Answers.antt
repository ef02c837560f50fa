-- `rows_check::is_judged` meets its contract.
use Rattle.std.proofs.Common.{arith}
use Rattle.std.proofs.lemmas.Grind.{common_steps}
use Rattle.rows_check.proofs.CheckLaws.{not_applied, is_pass, by_fail}
use Rattle.rows_check.proofs.is_judged.Goals as goal

pub returns-then-f-eq-PASS : goal.returns-then-f-eq-PASS
returns-then-f-eq-PASS c =
    let h = is_pass c.args.f c.if-f-lt-DEFER.true c.if-f-eq-PASS.true in grind (arith, common_steps)

pub returns-else-f-eq-PASS : goal.returns-else-f-eq-PASS
returns-else-f-eq-PASS c = by_fail c.args.f c.if-f-lt-DEFER.true c.if-f-eq-PASS.false

pub returns-else-f-lt-DEFER : goal.returns-else-f-lt-DEFER
returns-else-f-lt-DEFER c = let h = not_applied c.args.f c.if-f-lt-DEFER.false in grind (arith, common_steps)
