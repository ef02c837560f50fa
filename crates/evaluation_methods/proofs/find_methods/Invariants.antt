-- `evaluation_methods::find_methods` meets its contract. The loop's invariant: what was found and what is left say together what the whole says.
use mathlib.Core.Path.{◌≡◌}
use Prim.Native.Nat.{◌+◌, ◌-◌}
use Rattle.octets.specs.Octets.{Octets}
use Rattle.alignment_stored.specs.code.Stored.{stored_identifiers}
use Rattle.alignment.specs.Numbers.{alignments_in}
use Rattle.evaluation_methods.specs.code.Methods.{methods_of}
use Rattle.evaluation_methods.proofs.MethodLaws.{merge}
use Rattle.evaluation_methods.proofs.find_methods.Given as goal

abbrev pub invariant-loop-walk : goal.invariant-loop-walk
invariant-loop-walk l = (domains : Octets)
    → methods_of (stored_identifiers domains l.numbers 1 l.walk-end) (alignments_in l.walk-end l.digits)
    ≡ merge l.methods (methods_of (stored_identifiers domains l.numbers l.walk (l.walk-end + 1 - l.walk)) (alignments_in (l.walk-end + 1 - l.walk) l.rest))
