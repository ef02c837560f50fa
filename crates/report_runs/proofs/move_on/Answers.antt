-- `report_runs::move_on` meets its contract.
use mathlib.Core.Path.{refl}
use Rattle.report_runs.specs.code.Runs.{onward}
use Rattle.report_runs.proofs.move_on.Goals as goal

pub returns : goal.returns
unfolding onward
returns c = refl
