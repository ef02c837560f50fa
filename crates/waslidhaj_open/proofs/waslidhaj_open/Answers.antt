-- `waslidhaj_open::waslidhaj_open` meets its contract, by what its calls promise.
use Rattle.evaluation_lent.proofs.GoingLaws.{opens}
use Rattle.waslidhaj_open.proofs.waslidhaj_open.Goals as goal

pub returns : goal.returns
returns c =
    opens _ _ _ _ _ (rw c.hold-e.ensures at c.open-changed.ensures) (rw c.number_acceptance-given.ensures at c.go_on.ensures)
