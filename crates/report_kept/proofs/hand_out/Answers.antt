-- `report_kept::hand_out` meets its contract.
use mathlib.Core.Path.{refl}
use Rattle.report_kept.specs.code.View.{plain}
use Rattle.report_kept.proofs.hand_out.Goals as goal

pub returns : goal.returns
unfolding plain
returns c = refl
