-- `evaluation_lent::go_on` meets its contract.
use Rattle.evaluation_lent.proofs.GoingLaws.{stood, moved}
use Rattle.evaluation_lent.proofs.go_on.Goals as goal

pub returns-then-given-eq3 : goal.returns-then-given-eq3
returns-then-given-eq3 c = let a = c.args in stood a.before a.after a.given c.if-given-eq3.true

pub returns : goal.returns
returns c = let a = c.args in moved a.before a.after a.given c.lend.result c.if-given-eq3.false c.lend.ensures
