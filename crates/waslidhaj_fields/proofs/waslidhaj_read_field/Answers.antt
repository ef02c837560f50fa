-- `waslidhaj_fields::waslidhaj_read_field` meets its contract, by what its calls promise.
use Rattle.waslidhaj_fields.proofs.waslidhaj_read_field.Goals as goal

pub returns : goal.returns
returns c = rw c.read_field.ensures at c.number_field.ensures
