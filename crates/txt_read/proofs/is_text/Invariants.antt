-- `txt_read::is_text` meets its contract. The loop's invariant: RDATA can be read where what is left of it can.
use mathlib.Core.Path.{◌≡◌}
use Prim.Native.Nat.{◌≤◌}
use lib.ListN.{length}
use Rattle.txt.specs.Answers.{joined, rdata_text}
use Rattle.txt_read.specs.code.Steps.{is_there}
use Rattle.txt_read.proofs.is_text.Given as goal

abbrev pub invariant-loop-rest : goal.invariant-loop-rest
invariant-loop-rest l = (length l.rest ≤ length l.rdata) × (is_there (rdata_text l.rdata) ≡ is_there (joined 0 l.rest))

abbrev pub decreases-loop-rest : goal.decreases-loop-rest
decreases-loop-rest l = length l.rest
