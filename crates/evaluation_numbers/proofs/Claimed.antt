-- The claim on calls by numbers is demand 3's, of the evaluations that the states hold.
use mathlib.Core.List.{List, [], ◌∷◌}
use Rattle.verdict.specs.Verdict.{Verdict}
use Rattle.asking.specs.Asking.{Given}
use Rattle.book.specs.Book.{Call}
use Rattle.evaluation.specs.Demand3.{Ran, none, call}
use Rattle.evaluation.proofs.Claimed.{demand_3}
use Rattle.evaluation_numbers.specs.declared.State.{State}
use Rattle.evaluation_numbers.specs.Numbers.{held_of}
use Rattle.evaluation_numbers.specs.ByNumbers.{RanBy, ByNumbers}

ran : {s : State} {cs : List Call} {gs : List (Given Verdict)} → RanBy s cs gs → Ran (held_of s) cs gs
ran RanBy.none = none
ran (RanBy.call d rest) = call d (ran rest)

pub by_numbers : ByNumbers
by_numbers author existence support before r o m q cs gs calls = demand_3.as_the_book author existence support (held_of before) _ o.does m q cs gs (ran calls)
