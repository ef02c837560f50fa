-- `rows_check::serves` meets its contract.
use Rattle.std.proofs.Common.{arith}
use Rattle.std.proofs.lemmas.Grind.{common_steps}
use Rattle.rows_check.proofs.CheckLaws.{serves_never, serves_named}
use Rattle.rows_check.proofs.serves.Goals as goal

pub returns-then-list-ne0 : goal.returns-then-list-ne0
returns-then-list-ne0 c =
    let a = c.args in
    rw (c.same_text.ensures, c.part-name.ensures, c.from.ensures) (serves_named a.list a.domain.now c.without_dot.ensures c.if-list-ne0.true)

pub returns-else-list-ne0 : goal.returns-else-list-ne0
returns-else-list-ne0 c = let h = serves_never c.args.list c.args.domain.now c.if-list-ne0.false in grind (arith, common_steps)
