-- `sheet_open::add_at` meets its contract.
use Rattle.sheet_open.proofs.OpenLaws.{taken_at}
use Rattle.sheet_open.proofs.add_at.Goals as goal

pub returns : goal.returns
returns c =
    let t = c.args.t.now in
    rw (taken_at t c.body-body.ensures c.octet_at-kind.ensures c.octet_at-outcome.ensures c.skip.ensures) at c.add.ensures
