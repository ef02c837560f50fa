-- `waslidhaj_names::waslidhaj_file_name_apart` meets its contract, by what its calls promise.
use mathlib.Core.Path.{ap, ◌∙◌}
use Rattle.octets.specs.Lent.{written_numbers}
use Rattle.waslidhaj_names.proofs.waslidhaj_file_name_apart.Goals as goal

pub returns : goal.returns
returns c =
    let p = c.write_file_name-written.ensures in
    record { answers = c.number_written.ensures ∙ ap written_numbers p.answers; leaves = p.leaves }
