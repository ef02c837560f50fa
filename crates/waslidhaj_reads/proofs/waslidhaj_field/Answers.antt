-- `waslidhaj_reads::waslidhaj_field` meets its contract, by what its calls promise.
use Rattle.evaluation_numbers.proofs.ReadLaws.{fields}
use Rattle.waslidhaj_reads.proofs.waslidhaj_field.Goals as goal

pub returns : goal.returns
returns c =
    fields _ _ _ _ _ (rw c.hold-e.ensures at c.field.ensures) c.number_field.ensures
