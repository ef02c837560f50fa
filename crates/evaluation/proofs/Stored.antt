-- What an evaluation's calls store is what is worked out afresh.
use Rattle.std.specs.Prelude.{Option, None, Some}
use mathlib.Core.Path.{◌≡◌, ap, sym, ◌∙◌}
use mathlib.Core.List.{List, []}
use mathlib.Core.Bool.{true, false}
use Prim.Native.Nat.{ℕ}
use lib.ListN.{get_or}
use Rattle.domain.specs.Domain.{is_domain}
use Rattle.verdict.specs.Message.{Message}
use Rattle.verdict.specs.Stored.{once_ended, numbers_stored}
use Rattle.verdict_cursor.specs.code.Cursor.{Cursor}
use Rattle.asking.specs.Asking.{Asking, begun, replies}
use Rattle.txt.specs.Answers.{Answer}
use Rattle.book.specs.Start.{Opened}
use Rattle.book.specs.Book.{Call, Book}
use Rattle.book.specs.BookClaims.{book_after}
use Rattle.book.proofs.FirstName.{first_walked}
use Rattle.book.proofs.BookLaws.{Kept, kept_after}
use Rattle.evaluation.specs.declared.Evaluation.{Evaluation}
use Rattle.evaluation.specs.code.Machine.{Keeps}
use Rattle.evaluation.specs.code.View.{numbers_kept, Numbered}
use Rattle.evaluation.specs.Promises.{Changes, opened_view}
use Rattle.evaluation.specs.code.Showing.{shows, Beside}
use Rattle.evaluation.specs.StoredAfter.{Left, RunsStore}
use Rattle.evaluation.proofs.MachineLaws.{left_as_the_book}

-- each call keeps to the numbers of what is kept
left_numbered : {e after : Evaluation} {cs : List Call} → Left e cs after → Numbered e → Numbered after
left_numbered Left.none n = n
left_numbered (Left.call d l) n = left_numbered l (d.numbers n)

-- without an answer none are to be stored
none_stored : (m : Message) → is_domain m.author ≡ true → numbers_stored [] m ≡ []
unfolding numbers_stored once_ended
none_stored m k = let (n, e) = first_walked m.author k in rw e

-- before the first name is asked there is no answer
none_taken : (b : Book) → Kept b → b.handed_out ≡ false → replies b.run.taken ≡ []
unfolding replies begun
none_taken b κ h = ap (λ (s : Asking Answer). replies s.taken) (κ.fresh h)

-- and those, beside a book, are the ones worked out afresh
kept_stored : (b : Book) → Kept b → (o : Option Cursor) → Beside b o → (walk : ℕ) → get_or (numbers_kept o) walk 0 ≡ get_or (numbers_stored (replies b.run.taken) b.message) walk 0
unfolding Beside numbers_kept
kept_stored b κ None h walk = sym (ap (λ l. get_or l walk 0) (ap (λ β. numbers_stored β b.message) (none_taken b κ h) ∙ none_stored b.message κ.sound.author))
kept_stored b κ (Some c) h walk = h.1.numbers walk

pub runs_store : RunsStore
unfolding RunsStore Changes opened_view shows Numbered
runs_store author existence support before r opens m s cs e left walk =
    let o : Opened m = record { author = author; existence = existence; support = support; accepts = s } in
    let w = left_as_the_book m o (rw s at opens).1 left in
    left_numbered left (rw s at opens).2 walk
    ∙ ap (λ (k : Keeps). get_or (numbers_kept k.at) walk 0) w.keeps
    ∙ kept_stored (book_after m cs) (kept_after m o cs) w.stands_at w.beside walk
