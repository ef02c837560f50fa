-- `waslidhaj_rows::waslidhaj_enter_apart` meets its contract.
use Rattle.waslidhaj_rows.proofs.waslidhaj_enter_apart.Goals as goal

pub returns : goal.returns
returns c = rw c.answered.ensures c.enter-answer.ensures
