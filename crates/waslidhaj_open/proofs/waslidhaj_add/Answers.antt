-- `waslidhaj_open::waslidhaj_add` meets its contract, by what its calls promise.
use Rattle.evaluation_lent.proofs.GoingLaws.{accepts}
use Rattle.waslidhaj_open.proofs.waslidhaj_add.Goals as goal

pub returns : goal.returns
returns c =
    accepts _ _ _ _ _ _ (rw c.hold-e.ensures at c.add-changed.ensures) (rw c.number_acceptance-given.ensures at c.go_on.ensures)
