-- `waslidhaj_reads::waslidhaj_finding` meets its contract, by what its calls promise.
use Rattle.evaluation_numbers.proofs.ReadLaws.{enters}
use Rattle.waslidhaj_reads.proofs.waslidhaj_finding.Goals as goal

pub returns : goal.returns
returns c =
    enters _ _ _ (rw c.hold-e.ensures at c.finding.ensures) c.number_found.ensures
