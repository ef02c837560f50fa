-- `report_kept::begin_address` meets its contract.
use mathlib.Core.Path.{ap}
use Rattle.report_kept.specs.code.View.{arrived, at_address, on_source}
use Rattle.report_kept.proofs.begin_address.Goals as goal

pub returns : goal.returns
unfolding arrived at_address on_source
returns c = ap (on_source 0 0 0 0 0) c.arrive.ensures
