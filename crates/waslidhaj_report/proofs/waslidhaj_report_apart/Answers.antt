-- `waslidhaj_report::waslidhaj_report_apart` meets its contract.
use mathlib.Core.Path.{ap, ◌∙◌}
use Rattle.octets.specs.Lent.{written_numbers}
use Rattle.rows_gather.specs.code.Gathered.{rows_in}
use Rattle.waslidhaj_report.proofs.waslidhaj_report_apart.Goals as goal

pub returns : goal.returns
unfolding rows_in
returns c =
    let p = rw c.settings_in-settings.ensures at c.write_report-written.ensures in
    record { answers = c.number_written.ensures ∙ ap written_numbers p.answers; leaves = p.leaves }
