-- What an error can do to the verdict that calls give (document 02, Ask 6), by 01's book.
use Rattle.std.specs.Prelude.{◌≡◌, List, false, ℕ, Some}
use Rattle.lookup.specs.Lookup.{Name, Answers, find}
use Rattle.txt.specs.Answers.{Answer}
use Rattle.asking.specs.Asking.{verdict}
use Rattle.verdict.specs.Message.{Message}
use Rattle.verdict.specs.Verdict.{Verdict}
use Rattle.verdict.specs.Mending.{is_lookup_error, ErrorClaims}
use Rattle.book.specs.Book.{Call, book_result}
use Rattle.book.specs.BookClaims.{book_after}

-- "the second being the first with any real answers for some or all errors", of accepted answers: where both have one for a name and the
-- first's is no error, it is the same. Each may have names that the other does not, since its walks need not ask them
unfoldable pub AnswersMend : (first second : Answers Answer) → Type 0
AnswersMend β γ = (n : Name) (a b : Answer) → find β n ≡ Some a → find γ n ≡ Some b → is_lookup_error a ≡ false → b ≡ a

-- for two lists of calls, refused ones too, that come to "one message" and after each of which the result is a verdict (so every name that its
-- walks ask has an answer)
unfoldable pub CallsMended : Type 0
CallsMended =
    (m n : Message) (cs ds : List Call) → (book_after m cs).message ≡ (book_after n ds).message → AnswersMend (book_after m cs).run.taken (book_after n ds).run.taken
    → (v w : Verdict) (count_v count_w : ℕ) → (book_result (book_after m cs)).back ≡ verdict v count_v → (book_result (book_after n ds)).back ≡ verdict w count_w
    → ErrorClaims v w
