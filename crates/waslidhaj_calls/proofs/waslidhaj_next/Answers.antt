-- `waslidhaj_calls::waslidhaj_next` meets its contract, by what its calls promise.
use Rattle.evaluation_lent.proofs.GoingLaws.{steps}
use Rattle.waslidhaj_calls.proofs.waslidhaj_next.Goals as goal

pub returns : goal.returns
returns c =
    steps _ _ _ _ (rw c.hold-e.ensures at c.next-stepped.ensures) (rw c.number_step-given.ensures at c.go_on.ensures)
