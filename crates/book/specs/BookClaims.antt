-- What is claimed of the book after every list of calls (the mission, demand 3; document 02, Ask 8).
use Rattle.std.specs.Prelude.{◌≡◌, List, [], ◌∷◌, ◌++◌, map, Bool, true, false, ◌+◌, ◌*◌, ◌≤◌, length}
use Rattle.octets.specs.Octets.{Octets, any}
use Rattle.octets.specs.Refusing.{ok, refusal}
use Rattle.octets.specs.declared.Refusal.{Refusal}
use Rattle.lookup.specs.Lookup.{Name, once, list, needs, Completes}
use Rattle.txt.specs.Answers.{Answer, reply}
use Rattle.asking.specs.Asking.{Back, ask_name, verdict, accepted, wrote, refused, Given, given, with_asked, standing, asked_names, count, transcript, leaves}
use Rattle.asking.specs.Claims.{given_name, AskingClaims}
use Rattle.verdict.specs.Message.{Message}
use Rattle.verdict.specs.Verdict.{Verdict}
use Rattle.verdict.specs.Claims.{walked_domains}
use Rattle.book.specs.Start.{GivenIdentifier, GivenMessage, opening, Opened, adding, adding_each, single_start}
use Rattle.book.specs.Book.{Call, add, next, result, answer, field, Book, opened, walks, add_by, hands_out, book_call}

-- ------------------------------------------------------------------ what the calls have given

-- the book after a list of calls
unfoldable pub book_after : Message → List Call → Book
book_after m cs = leaves book_call (opened m) cs

-- and what they gave
unfoldable pub book_gave : Message → List Call → List (Given Verdict)
book_gave m cs = transcript book_call (opened m) cs

-- the names that calls were given to ask
unfoldable pub given_names : List (Given Verdict) → List Name
given_names [] = []
given_names (g ∷ gs) = given_name g.back ++ given_names gs

-- whether one of them gave "the first name or the verdict"
unfoldable pub any_handed_out : List (Given Verdict) → Bool
any_handed_out gs = any (λ g. hands_out g.back) gs

-- the identifiers that were added: those of the addings that were accepted
unfoldable pub accepted_adding : Call → Back Verdict → List GivenIdentifier
accepted_adding (add g) accepted = g ∷ []
accepted_adding (add g) (ask_name n) = []
accepted_adding (add g) (verdict v c) = []
accepted_adding (add g) (wrote n) = []
accepted_adding (add g) (refused f) = []
accepted_adding next k = []
accepted_adding result k = []
accepted_adding (answer name status bytes scratch) k = []
accepted_adding (field output) k = []

unfoldable pub accepted_addings : List Call → List (Given Verdict) → List GivenIdentifier
accepted_addings [] gs = []
accepted_addings (c ∷ cs) [] = []
accepted_addings (c ∷ cs) (g ∷ gs) = accepted_adding c g.back ++ accepted_addings cs gs

-- the memory that a call lends
unfoldable pub lent : Call → Octets
lent (add g) = []
lent next = []
lent result = []
lent (answer name status bytes scratch) = scratch
lent (field output) = output

-- ------------------------------------------------------------------ the claims

pub record BookClaims (m : Message) (cs : List Call) : Type 0 where
  -- the names that the calls were given to ask, each once, are those that the book has as asked
  pub asked : asked_names (book_after m cs).run ≡ once [] (given_names (book_gave m cs))
  -- what is claimed of every run by calls: "after that demand 3 is about the identifiers as they then stand"
  pub of_its_run : AskingClaims (walks (book_after m cs)) (book_after m cs).run
  -- "at most eight for the author domain, and eight more for each distinct passing domain that 01 says must be walked"
  pub bounded : (α : Name → Answer) → Completes α (book_after m cs).run.taken
      → (count (book_after m cs).run ≤ length (list α (walks (book_after m cs))))
      × (length (list α (walks (book_after m cs))) ≤ 8 + 8 * length (walked_domains (λ n. reply (α n)) (book_after m cs).message))
  -- "A refusal leaves the evaluation and lent memory unchanged"; in the mission's words, "the evaluation then stands as it did, and nothing has been
  -- written in memory we lent"
  pub refused_stands : (c : Call) (f : Refusal) → (book_call (book_after m cs) c).1.back ≡ refused f → book_call (book_after m cs) c ≡ (book_after m cs, given (refused f) (lent c))
  -- "Identifiers may be added until the first name or the verdict has been handed out"
  pub in_time : any_handed_out (book_gave m cs) ≡ false → (g : GivenIdentifier) → book_call (book_after m cs) (add g) ≡ add_by (book_after m cs) (adding (book_after m cs).message g)
  -- "17 too late, .. before those"
  pub too_late : any_handed_out (book_gave m cs) ≡ true → (g : GivenIdentifier) → book_call (book_after m cs) (add g) ≡ (book_after m cs, given (refused (refusal 17 0)) [])
  -- "the identifiers as they then stand": the message is the opening's with the accepted addings, in order
  pub as_they_stand : adding_each m (accepted_addings cs (book_gave m cs)) ≡ ok (book_after m cs).message
  -- "up to 16 identifiers"
  pub up_to_16 : length (book_after m cs).message.identifiers ≤ 16

-- "from an accepted opening on"
unfoldable pub BookClaimed : Type 0
BookClaimed = (m : Message) → Opened m → (cs : List Call) → BookClaims m cs

-- "Opening and adding in order gives the state that the single start gave"
unfoldable pub SameState : Type 0
SameState =
    (g : GivenMessage) (m n : Message) → opening g.author g.existence g.support ≡ ok m → single_start g ≡ ok n
    → book_after m (map add g.identifiers) ≡ opened n

-- of every book, a next step hands out a name or the verdict, and so it closes the adding
unfoldable pub NextCloses : Type 0
NextCloses = (b : Book) → (hands_out (book_call b next).1.back ≡ true) × ((book_call b next).0.handed_out ≡ true)

-- "A lookup without an answer is never read as an empty one": while a name lacks an answer it is asked, and there is no verdict
pub record NothingYet (b : Book) : Type 0 where
  pub asks : (n : Name) → standing (walks b) b.run ≡ needs n
      → book_call b next ≡ (record { message = b.message; handed_out = true; run = with_asked b.run n }, given (ask_name n) [])
  pub no_result : (n : Name) → standing (walks b) b.run ≡ needs n → book_call b result ≡ (b, given (refused (refusal 7 0)) [])
  pub no_field : (n : Name) (output : Octets) → standing (walks b) b.run ≡ needs n → book_call b (field output) ≡ (b, given (refused (refusal 7 0)) output)
