-- `report_kept::go_on` meets its contract.
use mathlib.Core.Path.{refl}
use Rattle.report_kept.specs.code.View.{plain}
use Rattle.report_kept.proofs.go_on.Goals as goal

pub returns : goal.returns
unfolding plain
returns c = refl
