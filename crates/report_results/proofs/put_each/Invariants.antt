-- `report_results::put_each` meets its contract.
use lib.ListN.{length}
use Rattle.rows.specs.Lists.{set_in}
use Rattle.report_results.specs.code.Kinds.{each_of}
use Rattle.report_texts.proofs.Going.{Goes}
use Rattle.report_results.proofs.put_each.Given as goal

abbrev pub invariant-loop-t : goal.invariant-loop-t
invariant-loop-t l = Goes (each_of l.dkim (set_in l.set)) (each_of l.dkim (set_in l.t)) l.at l.initial.out l.end l.out

abbrev pub decreases-loop-t : goal.decreases-loop-t
decreases-loop-t l = length l.t
