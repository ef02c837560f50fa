use Rattle.octets_append.proofs.AppendLaws.{appends_past, place_bound, appends}
use native.Mathlib.Omega.{arith}
use Rattle.octets_append.proofs.append.Goals as goal

pub overflow_add-result : goal.overflow_add-result
overflow_add-result c =
    let a = c.args in
    record { fits = omega (arith, c.unwrap_or.ensures, place_bound a.text.now a.out.now a.at (omega arith) c.write.ensures (omega arith)) }

pub returns-then-out-at : goal.returns-then-out-at
returns-then-out-at c =
    let a = c.args in
    appends_past a.text.now a.out.now a.at c.if-out-at.true

pub returns-else-out-at : goal.returns-else-out-at
returns-else-out-at c =
    let a = c.args in
    rw c.unwrap_or.ensures (appends a.text.now a.out.now a.at (omega arith) c.write.ensures)
