-- What a finding gives after every list of calls (document 02, Ask 1: "each day's verdicts").
use Rattle.std.specs.Prelude.{◌≡◌, List, ℕ, Result}
use Rattle.octets.specs.Octets.{Octets}
use Rattle.octets.specs.Refusing.{OrRefused, ok, not_ok, refusal}
use Rattle.octets.specs.declared.Refusal.{Refusal}
use Rattle.lookup.specs.Lookup.{Standing, needs, has}
use Rattle.domain.specs.Domain.{Domain}
use Rattle.verdict.specs.Message.{Message}
use Rattle.verdict.specs.Verdict.{Verdict}
use Rattle.asking.specs.Asking.{standing}
use Rattle.book.specs.Start.{opening}
use Rattle.book.specs.Book.{Call, walks}
use Rattle.book.specs.BookClaims.{book_after}
use Rattle.rows.specs.declared.Finding.{Finding}
use Rattle.rows.specs.Rows.{finding_of}
use Rattle.evaluation.specs.declared.Evaluation.{Evaluation}
use Rattle.evaluation.specs.declared.Changed.{Changed}
use Rattle.evaluation.specs.Promises.{Changes, opened_view}
use Rattle.evaluation.specs.GivenBack.{message_now}
use Rattle.evaluation.specs.StoredAfter.{Left}
use Rattle.evaluation_finding.specs.declared.Found.{Found}
use Rattle.evaluation_finding.specs.code.Entering.{Finds}
use Rattle.evaluation_finding.specs.FoundRead.{found_in}

-- by 01's book: 7 while a name lacks an answer; else what its verdict says to a list, and the domain of the applied record
unfoldable pub finding_by : Message → Standing Verdict → OrRefused (Finding × Domain)
finding_by m (needs n) = not_ok (refusal 7 0)
finding_by m (has v) = ok (finding_of m v, v.domain)

-- after every list of calls, refused ones too, a finding is that of the book's verdict
unfoldable pub FindsTheBook : Type 0
FindsTheBook =
    (author : Octets) (existence support : ℕ) (before : Evaluation) (r : Changed) → Changes before (opened_view (opening author existence support)) r
    → (m : Message) → opening author existence support ≡ ok m
    → (cs : List Call) (e : Evaluation) → Left r.evaluation cs e
    → (f : Result Found Refusal) → Finds e f → found_in (message_now e) f ≡ finding_by (book_after m cs).message (standing (walks (book_after m cs)) (book_after m cs).run)
