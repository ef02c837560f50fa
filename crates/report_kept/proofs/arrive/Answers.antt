-- `report_kept::arrive` meets its contract.
use mathlib.Core.Path.{refl}
use Rattle.report_kept.specs.code.View.{arrived}
use Rattle.report_kept.proofs.arrive.Goals as goal

pub returns : goal.returns
unfolding arrived
returns c = refl
