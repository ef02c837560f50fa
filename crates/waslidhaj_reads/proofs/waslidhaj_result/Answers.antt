-- `waslidhaj_reads::waslidhaj_result` meets its contract, by what its calls promise.
use Rattle.evaluation_numbers.proofs.ReadLaws.{results}
use Rattle.waslidhaj_reads.proofs.waslidhaj_result.Goals as goal

pub returns : goal.returns
returns c =
    results _ _ _ (rw c.hold-e.ensures at c.result.ensures) c.number_resulting.ensures
