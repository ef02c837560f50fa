-- `sheet_turn::name_at` meets its contract.
use Rattle.sheet_turn.proofs.NameLaws.{marked_short, wrote, never_short}
use Rattle.evaluation.specs.GivenBack.{marked}
use native.Mathlib.Omega.{arith}
use Rattle.sheet_turn.proofs.name_at.Goals as goal

pub returns-in-Ok : goal.returns-in-Ok
unfolding marked
returns-in-Ok c =
    let a = c.args in
    let short = marked_short a.e a.walk a.place in
    let (t, k) = wrote (marked a.e a.walk a.place) a.name.now (omega (arith, short, c.requires)) c.write_name.ensures c.in-Ok.n c.in-Ok.is in
    (t, k, omega (arith, k, short))

pub returns-in-Err : goal.returns-in-Err
unfolding marked
returns-in-Err c =
    let a = c.args in
    let short = marked_short a.e a.walk a.place in
    never_short (marked a.e a.walk a.place) a.name.now (omega (arith, short, c.requires)) c.write_name.ensures c.in-Err.field-0 c.in-Err.is
