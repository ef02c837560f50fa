-- `policy_reports::is_uri` meets its contract: what was passed is of a URI, so what is left decides.
use Rattle.std.proofs.Common.{◌≡◌, ◌≤◌, drop}
use Rattle.policy.specs.Reports.{uri_octets}
use Rattle.policy_reports.proofs.ReportLaws.{owing}
use Rattle.policy_reports.proofs.is_uri.Given as goal

abbrev pub invariant-loop-x : goal.invariant-loop-x
invariant-loop-x l = (l.owed ≤ 2) × (uri_octets l.s ≡ owing l.owed (drop l.x-index l.s))
