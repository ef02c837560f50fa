-- `address_texts::judge_texts` meets its contract. The loop's invariant: what is left of the answer says what the whole says.
use Rattle.std.specs.Prelude.{Some}
use mathlib.Core.Path.{◌≡◌}
use mathlib.Core.List.{List, ◌++◌, flatten}
use mathlib.Core.Bool.{false}
use Prim.Native.Nat.{◌≤◌, ◌+◌, ◌-◌}
use lib.ListN.{length}
use Rattle.octets.specs.Octets.{Octets, lower}
use Rattle.txt.specs.Answers.{texts_of}
use Rattle.address.specs.Address.{agreement}
use Rattle.address_texts.proofs.TextLaws.{Remains}
use Rattle.address_texts.proofs.judge_texts.Given as goal

abbrev pub invariant-loop-budget : goal.invariant-loop-budget
invariant-loop-budget l = (l.at + length l.rest ≤ length l.bytes)
    × ((ts : List Octets) (m : Octets) → texts_of 16 l.bytes ≡ Some ts → l.scratch ≡ flatten ts ++ m
    → Remains l.scratch m (lower l.host) l.rest l.at l.one l.budget (agreement (lower l.host) 0 false ts))

abbrev pub decreases-loop-budget : goal.decreases-loop-budget
decreases-loop-budget l = l.budget
