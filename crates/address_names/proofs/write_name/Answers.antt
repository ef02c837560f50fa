-- `address_names::write_name` meets its contract.
use native.Mathlib.Omega.{arith}
use Rattle.alignment_stored.specs.code.Stored.{slot}
use Rattle.address_names.proofs.NameLaws.{past_walks, on_a_walk}
use Rattle.address_names.proofs.write_name.Goals as goal

pub returns-then-walk-gt1 : goal.returns-then-walk-gt1
returns-then-walk-gt1 c =
    let a = c.args in
    let policy = slot a.domains.now a.numbers.now 0 in
    let host = slot a.domains.now a.numbers.now 1 in
    rw (← (past_walks policy host a.place a.walk (λ e. omega arith) (λ e. omega arith))) c.write_confirming.ensures

pub returns-else-walk-gt1 : goal.returns-else-walk-gt1
returns-else-walk-gt1 c =
    let a = c.args in
    rw (← (on_a_walk a.domains.now a.numbers.now a.place a.walk (omega arith)))
    (rw c.slot-d.ensures at c.write_name.ensures)
