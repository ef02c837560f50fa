-- `domain_labels::find_target` meets its contract.
use native.Mathlib.Omega.{arith}
use Rattle.domain_labels.proofs.StartLaws.{by_none, by_all, by_places}
use Rattle.domain_labels.proofs.find_target.Goals as goal

pub returns-in-1-to-7 : goal.returns-in-1-to-7
returns-in-1-to-7 c =
    let a = c.args in
    by_places a.t.begins a.n.0 (omega arith) (omega arith)

pub returns-in_default : goal.returns-in_default
returns-in_default c = by_none c.args.t.begins c.args.n.0 (omega arith)

pub returns-in_default-2 : goal.returns-in_default-2
returns-in_default-2 c = by_all c.args.t.begins c.args.n.0 (omega arith)
