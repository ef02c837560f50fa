-- What an evaluation's calls store of organizational domains (document 02, Ask 7).
use Rattle.std.specs.Prelude.{◌≡◌, List, [], ◌∷◌, ℕ, get_or}
use Rattle.octets.specs.Octets.{Octets}
use Rattle.octets.specs.Refusing.{ok}
use Rattle.verdict.specs.Message.{Message}
use Rattle.verdict.specs.Verdict.{Verdict}
use Rattle.verdict.specs.Stored.{numbers_stored}
use Rattle.asking.specs.Asking.{Given, replies}
use Rattle.book.specs.Start.{opening}
use Rattle.book.specs.Book.{Call}
use Rattle.book.specs.BookClaims.{book_after}
use Rattle.evaluation.specs.declared.Evaluation.{Evaluation}
use Rattle.evaluation.specs.declared.Changed.{Changed}
use Rattle.evaluation.specs.GivenBack.{message_now}
use Rattle.evaluation.specs.Promises.{Does, Changes, opened_view}

-- calls one after the other, each of which does what its contract promises, and the evaluation that they leave
pub data Left : (before : Evaluation) → List Call → (after : Evaluation) → Type 0 where
  none : {e : Evaluation} → Left e [] e
  call : {before now after : Evaluation} {c : Call} {g : Given Verdict} {cs : List Call} → Does before c now g → Left now cs after → Left before (c ∷ cs) after

-- "Store each when its walk ends .., so that after every later answer the stored one equals the one worked out afresh. While a walk is open, or after
-- an error in it, nothing is stored and the state says so": after every list of calls, refused ones too, the numbers that the evaluation stores are
-- those worked out afresh over the answers accepted so far, and 0 after them
unfoldable pub RunsStore : Type 0
RunsStore =
    (author : Octets) (existence support : ℕ) (before : Evaluation) (r : Changed) → Changes before (opened_view (opening author existence support)) r
    → (m : Message) → opening author existence support ≡ ok m
    → (cs : List Call) (e : Evaluation) → Left r.evaluation cs e
    → (walk : ℕ) → get_or e.stored walk 0 ≡ get_or (numbers_stored (replies (book_after m cs).run.taken) (book_after m cs).message) walk 0

-- the message that an evaluation has stored is the book's, "the identifiers as they then stand": by it a verdict's numbers are read
unfoldable pub SameMessage : Type 0
SameMessage =
    (author : Octets) (existence support : ℕ) (before : Evaluation) (r : Changed) → Changes before (opened_view (opening author existence support)) r
    → (m : Message) → opening author existence support ≡ ok m
    → (cs : List Call) (e : Evaluation) → Left r.evaluation cs e → message_now e ≡ (book_after m cs).message
