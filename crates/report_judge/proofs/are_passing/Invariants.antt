-- `report_judge::are_passing` meets its contract.
use Rattle.std.proofs.Common.{◌≡◌, ◌-◌}
use Rattle.octets.specs.Octets.{all}
use Rattle.rows_gather.specs.code.Gathered.{rows_of}
use Rattle.report_judge.specs.code.Judging.{passes_test}
use Rattle.report_judge.proofs.are_passing.Given as goal

abbrev pub invariant-loop : goal.invariant-loop
invariant-loop l =
    all (passes_test l.test (record { authors = l.authors; sets = l.sets })) (rows_of l.count l.rows)
    ≡ all (passes_test l.test (record { authors = l.authors; sets = l.sets })) (rows_of (l.count - l.counter) l.t)
