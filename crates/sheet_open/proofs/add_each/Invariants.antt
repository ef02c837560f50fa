-- `sheet_open::add_each` meets its contract. The loop's invariant: what was added, and what is left to add.
use mathlib.Core.Path.{◌≡◌}
use Prim.Native.Nat.{◌-◌}
use Rattle.verdict.specs.Message.{Message}
use Rattle.evaluation.specs.code.Machine.{keeps_opened}
use Rattle.evaluation.specs.code.View.{view}
use Rattle.records_fields.specs.code.Layout.{identified, identifiers_on}
use Rattle.sheet_open.proofs.OpenLaws.{SoFar}
use Rattle.sheet_open.proofs.add_each.Given as goal

abbrev pub invariant-loop-more : goal.invariant-loop-more
invariant-loop-more l = (m : Message) → view l.initial.now ≡ keeps_opened m → SoFar m (identifiers_on l.records l.sheet) l.now (identified (l.more - 1) l.t)

abbrev pub decreases-loop-more : goal.decreases-loop-more
decreases-loop-more l = l.more
