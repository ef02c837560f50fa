-- `rows_named::record_at` meets its contract.
use Rattle.std.proofs.Common.{◌≡◌, ◌-◌}
use Rattle.rows_named.specs.code.Naming.{records_after}
use Rattle.rows_named.proofs.record_at.Given as goal

abbrev pub invariant-loop : goal.invariant-loop
invariant-loop l = records_after l.n l.list ≡ records_after (l.n - l.counter) l.t
