-- `report_judge::are_identifiers` meets its contract.
use mathlib.Core.Path.{◌≡◌}
use lib.ListN.{length}
use Rattle.octets.specs.Octets.{all}
use Rattle.rows.specs.Lists.{set_in}
use Rattle.report.specs.Report.{good_identifier}
use Rattle.report_judge.proofs.are_identifiers.Given as goal

abbrev pub invariant-loop-t : goal.invariant-loop-t
invariant-loop-t l = all good_identifier (set_in l.set) ≡ all good_identifier (set_in l.t)

abbrev pub decreases-loop-t : goal.decreases-loop-t
decreases-loop-t l = length l.t
