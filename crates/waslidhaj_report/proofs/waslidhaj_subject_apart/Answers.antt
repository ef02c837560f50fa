-- `waslidhaj_report::waslidhaj_subject_apart` meets its contract.
use mathlib.Core.Path.{ap, ◌∙◌}
use Rattle.octets.specs.Lent.{written_numbers}
use Rattle.waslidhaj_report.proofs.waslidhaj_subject_apart.Goals as goal

pub returns : goal.returns
returns c =
    let p = c.write_subject.ensures in
    record { answers = c.number_written.ensures ∙ ap written_numbers p.answers; leaves = p.leaves }
