-- `address_start::hold` meets its contract.
use native.Mathlib.Omega.{arith}
use Rattle.address_start.proofs.StartLaws.{started_view}
use Rattle.address_start.proofs.hold.Goals as goal

pub returns : goal.returns
returns c =
    let a = c.args in
    started_view a.c.numbers a.policy.now a.host.now
    (omega arith)
    (omega arith)
    c.requires.0 c.requires.1 c.append_lower.ensures c.append_lower-2.ensures a.c.kept c.begin-point.result _ _
    c.slot-first.ensures c.slot-second.ensures c.begin-point.ensures
