-- `waslidhaj_records::waslidhaj_read_record` meets its contract, by what its calls promise.
use Rattle.waslidhaj_records.proofs.waslidhaj_read_record.Goals as goal

pub returns : goal.returns
returns c = rw (c.read.ensures, c.rua_bounds.ensures) at c.read_numbers.ensures
