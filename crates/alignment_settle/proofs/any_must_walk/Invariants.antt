-- `alignment_settle::any_must_walk` meets its contract. The loop's invariant: of all identifiers one must be walked exactly where one of those from `walk` on must.
use mathlib.Core.Path.{◌≡◌}
use Prim.Native.Nat.{◌-◌, min}
use Rattle.octets.specs.Octets.{any}
use Rattle.alignment.specs.Alignments.{must_walk}
use Rattle.alignment_stored.specs.code.Stored.{stored_identifiers}
use Rattle.alignment_settle.proofs.any_must_walk.Given as goal

abbrev pub invariant-loop-walk : goal.invariant-loop-walk
invariant-loop-walk l = any (must_walk l.s l.author) (stored_identifiers l.domains l.numbers 1 (min l.count 16)) ≡ any (must_walk l.s l.author) (stored_identifiers l.domains l.numbers l.walk (l.walk-end - l.walk))
