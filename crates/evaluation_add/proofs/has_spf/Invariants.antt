-- `evaluation_add::has_spf` meets its contract. The loop's invariant: of all identifiers one is SPF's exactly where one from `walk` on is.
use mathlib.Core.Path.{◌≡◌}
use Prim.Native.Nat.{◌+◌, ◌-◌, min}
use Rattle.octets.specs.Octets.{Octets}
use Rattle.alignment_stored.specs.code.Stored.{stored_identifiers}
use Rattle.evaluation_add.proofs.AddLaws.{any_spf}
use Rattle.evaluation_add.proofs.has_spf.Given as goal

abbrev pub invariant-loop-walk : goal.invariant-loop-walk
invariant-loop-walk l = (domains : Octets) → any_spf (stored_identifiers domains l.numbers 1 (min l.count 16)) ≡ any_spf (stored_identifiers domains l.numbers l.walk (min l.count 16 + 1 - l.walk))
