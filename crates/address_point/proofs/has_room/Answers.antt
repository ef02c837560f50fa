-- `address_point::has_room` meets its contract.
use mathlib.Core.Path.{sym, ◌∙◌}
use native.Mathlib.Omega.{arith}
use borrow.Author.Tests.{lt-ltb, le-ltb}
use Rattle.address_point.specs.code.Ahead.{ahead_walks}
use Rattle.address_point.proofs.has_room.Goals as goal

pub returns-then-walk-gt1 : goal.returns-then-walk-gt1
unfolding ahead_walks
returns-then-walk-gt1 c = λ d.
    let walks = rw c.in-Name.is at (c.look.ensures d).1 in
    rw (sym walks ∙ le-ltb c.in-Name.walk 2 (omega (arith, c.if-walk-gt1.true)))

pub returns-in-Outcome : goal.returns-in-Outcome
unfolding ahead_walks
returns-in-Outcome c = λ d. rw (sym (rw c.in-Outcome.is at (c.look.ensures d).1))

pub returns-else-walk-gt1 : goal.returns-else-walk-gt1
unfolding ahead_walks
returns-else-walk-gt1 c = λ d.
    let walks = rw c.in-Name.is at (c.look.ensures d).1 in
    rw (sym walks ∙ lt-ltb c.in-Name.walk 2 (omega (arith, c.if-walk-gt1.false)))
