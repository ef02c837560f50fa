-- What an error can do to the verdict that an evaluation's own calls give (document 02, Ask 6).
use Rattle.std.specs.Prelude.{◌≡◌, List, [], ◌∷◌, ◌++◌, ℕ}
use Rattle.octets.specs.Octets.{Octets}
use Rattle.octets.specs.Refusing.{ok}
use Rattle.verdict.specs.Message.{Message}
use Rattle.verdict.specs.Verdict.{Verdict}
use Rattle.verdict.specs.Mending.{ErrorClaims}
use Rattle.asking.specs.Asking.{verdict, Given}
use Rattle.book.specs.Start.{opening}
use Rattle.book.specs.Book.{Call, result}
use Rattle.book.specs.BookClaims.{book_after}
use Rattle.book.specs.MendedCalls.{AnswersMend}
use Rattle.evaluation.specs.declared.Evaluation.{Evaluation}
use Rattle.evaluation.specs.declared.Changed.{Changed}
use Rattle.evaluation.specs.Promises.{Changes, opened_view}
use Rattle.evaluation.specs.Demand3.{Ran}

-- a run as in demand 3 that gives a verdict: an opening that accepts the message, calls after it, refused ones too, and then a result call
pub record Judged (m : Message) (cs : List Call) (v : Verdict) : Type 0 where
  pub author : Octets
  pub existence : ℕ
  pub support : ℕ
  pub before : Evaluation
  pub after : Changed
  pub opens : Changes before (opened_view (opening author existence support)) after
  pub accepts : opening author existence support ≡ ok m
  pub gave : List (Given Verdict)
  pub last : Given Verdict
  pub ran : Ran after.evaluation (cs ++ (result ∷ [])) (gave ++ (last ∷ []))
  pub count : ℕ
  pub says : last.back ≡ verdict v count

-- "take one message and two sets of answers": two such runs that come to one message, and the answers accepted in the second mend those accepted in
-- the first
unfoldable pub RunsMended : Type 0
RunsMended =
    (m n : Message) (cs ds : List Call) → (book_after m cs).message ≡ (book_after n ds).message → AnswersMend (book_after m cs).run.taken (book_after n ds).run.taken
    → (v w : Verdict) → Judged m cs v → Judged n ds w → ErrorClaims v w
