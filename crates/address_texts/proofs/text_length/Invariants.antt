-- `address_texts::text_length` meets its contract: what was counted and what is left are as long as the whole.
use mathlib.Core.Path.{◌≡◌}
use mathlib.Core.Bool.{true}
use Prim.Native.Nat.{◌≤◌, ◌+◌}
use lib.ListN.{length}
use Rattle.txt.specs.Answers.{joined}
use Rattle.txt_read.specs.code.Steps.{is_there, or_empty}
use Rattle.address_texts.proofs.text_length.Given as goal

abbrev pub invariant-loop-rest : goal.invariant-loop-rest
invariant-loop-rest l = (l.n + length l.rest ≤ length l.strings)
    × (is_there (joined 0 l.strings) ≡ true → (is_there (joined 0 l.rest) ≡ true) × (length (or_empty (joined 0 l.strings)) ≡ l.n + length (or_empty (joined 0 l.rest))))

abbrev pub decreases-loop-rest : goal.decreases-loop-rest
decreases-loop-rest l = length l.rest
