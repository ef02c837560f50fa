-- `report_sources::put_address` meets its contract.
use lib.ListN.{length}
use Rattle.report_sources.specs.code.Parts.{grouped}
use Rattle.report_texts.proofs.Going.{Goes}
use Rattle.report_sources.proofs.put_address.Given as goal

abbrev pub invariant-loop-t : goal.invariant-loop-t
invariant-loop-t l = Goes (grouped l.source) (grouped l.t) l.at l.initial.out l.end l.out

abbrev pub decreases-loop-t : goal.decreases-loop-t
decreases-loop-t l = length l.t
