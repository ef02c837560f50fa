-- Demand 3 for programs in other languages, one claim on the list of calls by numbers.
use Rattle.std.specs.Prelude.{◌≡◌, List, [], ◌∷◌, ℕ}
use Rattle.octets.specs.Octets.{Octets}
use Rattle.octets.specs.Refusing.{ok}
use Rattle.verdict.specs.Message.{Message}
use Rattle.verdict.specs.Verdict.{Verdict}
use Rattle.asking.specs.Asking.{Given, transcript}
use Rattle.book.specs.Start.{opening}
use Rattle.book.specs.Book.{Call, opened, book_call}
use Rattle.evaluation.specs.Promises.{Does, opened_view}
use Rattle.evaluation_numbers.specs.declared.State.{State}
use Rattle.evaluation_numbers.specs.declared.Called.{Called}
use Rattle.evaluation_numbers.specs.Numbers.{held_of, Opened}

-- calls one after the other, each on the state that the last one left (`Accepts`, `Steps`, `Results` and `Fields` have what each does)
pub data RanBy : State → List Call → List (Given Verdict) → Type 0 where
  none : {s : State} → RanBy s [] []
  call : {before after : State} {c : Call} {g : Given Verdict} {cs : List Call} {gs : List (Given Verdict)} → Does (held_of before) c (held_of after) g → RanBy after cs gs → RanBy before (c ∷ cs) (g ∷ gs)

-- where an opening by numbers, of any octets as the state, accepts a message, "all that the calls gave back and wrote is as in 01's book"
abbrev pub ByNumbers : Type 0
ByNumbers =
    (author : Octets) (existence support : ℕ) (before : State) (r : Called) → Opened before (opened_view (opening author existence support)) r
    → (m : Message) → opening author existence support ≡ ok m
    → (cs : List Call) (gs : List (Given Verdict)) → RanBy r.state cs gs → gs ≡ transcript book_call (opened m) cs
