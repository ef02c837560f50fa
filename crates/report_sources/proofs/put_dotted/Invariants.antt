-- `report_sources::put_dotted` meets its contract.
use lib.ListN.{length}
use Rattle.report_sources.proofs.SourceLaws.{Dotting}
use Rattle.report_sources.proofs.put_dotted.Given as goal

abbrev pub invariant-loop-t : goal.invariant-loop-t
invariant-loop-t l = Dotting l.s l.t l.at l.initial.out l.end l.out

abbrev pub decreases-loop-t : goal.decreases-loop-t
decreases-loop-t l = length l.t
