-- `waslidhaj_records::waslidhaj_write_record_apart` meets its contract, by what its calls promise.
use mathlib.Core.Path.{ap, ◌∙◌}
use Rattle.octets.specs.Lent.{written_numbers}
use Rattle.waslidhaj_records.proofs.waslidhaj_write_record_apart.Goals as goal

pub returns : goal.returns
returns c =
    let p = rw c.settings_in-settings.ensures at c.write_record.ensures in
    record { answers = c.number_written.ensures ∙ ap written_numbers p.answers; leaves = p.leaves }
