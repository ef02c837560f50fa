-- What is claimed of every list of calls: the mission's demand 3, of document 01's book and of the calls themselves.
use Rattle.std.specs.Prelude.{◌≡◌, List, [], map, true, false, ℕ, ◌+◌, ◌*◌, ◌≤◌, length, Ok, Err}
use Rattle.octets.specs.Octets.{Octets}
use Rattle.octets.specs.Refusing.{ok, not_ok, refusal}
use Rattle.octets.specs.declared.Refusal.{Refusal}
use Rattle.lookup.specs.Lookup.{Name, Lookups, once, list, needs, Completes}
use Rattle.domain.specs.declared.Octet.{Octet}
use Rattle.txt.specs.Answers.{Answer, reply}
use Rattle.asking.specs.Asking.{ask_name, refused, Given, given, Asking, with_asked, standing, asked_names, count, transcript}
use Rattle.asking.specs.Claims.{Reached}
use Rattle.verdict.specs.declared.Result.{Result}
use Rattle.verdict.specs.declared.AppliedPolicy.{AppliedPolicy}
use Rattle.verdict.specs.declared.Disposition.{Disposition}
use Rattle.verdict.specs.Message.{Message}
use Rattle.verdict.specs.Verdict.{Verdict}
use Rattle.verdict.specs.Claims.{walked_domains}
use Rattle.book.specs.Start.{GivenIdentifier, opening, Opened, adding, adding_each}
use Rattle.book.specs.Book.{Call, add, next, result, field, Book, opened, walks, add_by, hands_out, book_call}
use Rattle.book.specs.BookClaims.{book_after, book_gave, given_names, any_handed_out, accepted_addings, lent}
use Rattle.evaluation.specs.declared.Evaluation.{Evaluation}
use Rattle.evaluation.specs.declared.Changed.{Changed}
use Rattle.evaluation.specs.GivenBack.{message_now}
use Rattle.evaluation.specs.Promises.{Does, Changes, opened_view}
use Rattle.evaluation.specs.Demand3.{Ran, unopened}
use Rattle.evaluation.specs.StoredAfter.{Left}
use Rattle.evaluation_numbers.specs.declared.State.{State}
use Rattle.evaluation_numbers.specs.declared.Called.{Called}
use Rattle.evaluation_numbers.specs.declared.GivenNumbers.{GivenNumbers}
use Rattle.evaluation_numbers.specs.Numbers.{result_said, policy_said, disposition_said, accepted_numbers, ask_numbers, refused_numbers, Opened as OpenedByNumbers}
use Rattle.evaluation_numbers.specs.ByNumbers.{RanBy}
use Rattle.claims.specs.Runs.{RunHolds}

-- of the book, after an accepted opening of the message and this list of calls
pub record BookHolds (m : Message) (cs : List Call) : Type 0 where
  -- the names that the calls were given to ask, each once, are those that the book has as asked
  pub asked_are_given : asked_names (book_after m cs).run ≡ once [] (given_names (book_gave m cs))
  -- "at most eight for the author domain, and eight more for each distinct passing domain that 01 says must be walked"
  pub count_bounded : (α : Name → Answer) → Completes α (book_after m cs).run.taken
      → (count (book_after m cs).run ≤ length (list α (walks (book_after m cs))))
      × (length (list α (walks (book_after m cs))) ≤ 8 + 8 * length (walked_domains (λ n. reply (α n)) (book_after m cs).message))
  -- "A refusal leaves the evaluation and lent memory unchanged"
  pub refused_call_stands : (c : Call) (f : Refusal) → (book_call (book_after m cs) c).1.back ≡ refused f
      → book_call (book_after m cs) c ≡ (book_after m cs, given (refused f) (lent c))
  -- "up to 16 identifiers"
  pub sixteen_identifiers : length (book_after m cs).message.identifiers ≤ 16
  -- "Identifiers may be added until the first name or the verdict has been handed out"
  pub adding_in_time : any_handed_out (book_gave m cs) ≡ false → (g : GivenIdentifier)
      → book_call (book_after m cs) (add g) ≡ add_by (book_after m cs) (adding (book_after m cs).message g)
  -- "17 too late, .. before those"
  pub adding_too_late : any_handed_out (book_gave m cs) ≡ true → (g : GivenIdentifier)
      → book_call (book_after m cs) (add g) ≡ (book_after m cs, given (refused (refusal 17 0)) [])
  -- "the identifiers as they then stand": the message is the opening's with the accepted addings, in order
  pub identifiers_as_added : adding_each m (accepted_addings cs (book_gave m cs)) ≡ ok (book_after m cs).message

-- numbers that are no verdict and yet are read as one
unfoldable pub Defers : GivenNumbers → Type 0
Defers g =
    (result_said g.verdict.result ≡ Result.Temperror)
    × (policy_said g.verdict.policy ≡ AppliedPolicy.Unknown)
    × (disposition_said g.verdict.disposition ≡ Disposition.Defer)

pub record CallsHold : Type 1 where
  -- of every lookup program, wherever calls have left a run of it
  pub any_run : (R A : Type 0) (t : Lookups R A) (s : Asking R) → Reached t s → RunHolds t s
  -- of the book's run, "about the identifiers as they then stand"
  pub book_run : (m : Message) → Opened m → (cs : List Call) → RunHolds (walks (book_after m cs)) (book_after m cs).run
  pub book : (m : Message) → Opened m → (cs : List Call) → BookHolds m cs
  -- of every book, a next step hands out a name or the verdict, and so it closes the adding
  pub next_hands_out : (b : Book) → hands_out (book_call b next).1.back ≡ true
  pub next_closes : (b : Book) → (book_call b next).0.handed_out ≡ true
  -- "A lookup without an answer is never read as an empty one": while a name lacks an answer it is asked, and there is no verdict
  pub asks : (b : Book) (n : Name) → standing (walks b) b.run ≡ needs n
      → book_call b next ≡ (record { message = b.message; handed_out = true; run = with_asked b.run n }, given (ask_name n) [])
  pub no_result : (b : Book) (n : Name) → standing (walks b) b.run ≡ needs n → book_call b result ≡ (b, given (refused (refusal 7 0)) [])
  pub no_field : (b : Book) (n : Name) (output : Octets) → standing (walks b) b.run ≡ needs n → book_call b (field output) ≡ (b, given (refused (refusal 7 0)) output)
  -- "opening keeps 1 and 3": accepted it says so; refused it says so, and gives back the very same evaluation
  pub opening_accepted : (author : Octets) (existence support : ℕ) (before : Evaluation) (r : Changed) → Changes before (opened_view (opening author existence support)) r
      → (m : Message) → opening author existence support ≡ ok m → r.acceptance ≡ (Ok tt)
  pub opening_refused : (author : Octets) (existence support : ℕ) (before : Evaluation) (r : Changed) → Changes before (opened_view (opening author existence support)) r
      → (f : Refusal) → opening author existence support ≡ not_ok f → r ≡ record { evaluation = before; acceptance = Err f }
  -- "the evaluation then stands as it did": a refused call gives back the very same evaluation
  pub evaluation_stands : (before after : Evaluation) (c : Call) (g : Given Verdict) (f : Refusal) → Does before c after g → g.back ≡ refused f → after ≡ before
  -- "After the list, all that the calls gave back and wrote is as in 01's book": of the calls themselves
  pub as_the_book : (author : Octets) (existence support : ℕ) (before : Evaluation) (r : Changed) → Changes before (opened_view (opening author existence support)) r
      → (m : Message) → opening author existence support ≡ ok m
      → (cs : List Call) (gs : List (Given Verdict)) → Ran r.evaluation cs gs → gs ≡ transcript book_call (opened m) cs
  -- and the message that their numbers are read by is the book's
  pub same_message : (author : Octets) (existence support : ℕ) (before : Evaluation) (r : Changed) → Changes before (opened_view (opening author existence support)) r
      → (m : Message) → opening author existence support ≡ ok m
      → (cs : List Call) (e : Evaluation) → Left r.evaluation cs e → message_now e ≡ (book_after m cs).message
  -- before an opening every call is refused, by 01's number
  pub before_opening : (e : Evaluation) → e.started ≡ false → (cs : List Call) (gs : List (Given Verdict)) → Ran e cs gs → gs ≡ map unopened cs
  -- and of the calls by numbers, whatever octets the state had
  pub by_numbers : (author : Octets) (existence support : ℕ) (before : State) (r : Called) → OpenedByNumbers before (opened_view (opening author existence support)) r
      → (m : Message) → opening author existence support ≡ ok m
      → (cs : List Call) (gs : List (Given Verdict)) → RanBy r.state cs gs → gs ≡ transcript book_call (opened m) cs
  -- what is given without a verdict reads temperror, unknown and defer, so that a caller that forgets to look lets nothing in
  pub accepted_defers : (octets : ℕ) → Defers (accepted_numbers octets)
  pub asked_defers : (walk : ℕ) (place : Octet) → Defers (ask_numbers walk place)
  pub refused_defers : (f : Refusal) → Defers (refused_numbers f)
