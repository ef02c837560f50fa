-- `waslidhaj_calls::waslidhaj_answer_apart` meets its contract, by what its calls promise.
use Rattle.evaluation_lent.proofs.GoingLaws.{accepts}
use Rattle.waslidhaj_calls.proofs.waslidhaj_answer_apart.Goals as goal

pub returns : goal.returns
returns c =
    accepts _ _ _ _ _ _ (rw (c.hold-e.ensures, c.read_status-kind.ensures) at c.answer-changed.ensures) (rw c.number_acceptance-given.ensures at c.go_on.ensures)
