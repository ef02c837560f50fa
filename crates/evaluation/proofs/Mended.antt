-- Real answers for errors change no verdict of an evaluation's calls but temperror.
use mathlib.Core.Path.{◌≡◌, refl, ap, sym, ◌∙◌}
use mathlib.Core.List.{List, [], ◌∷◌, ◌++◌}
use Rattle.verdict.specs.Message.{Message}
use Rattle.verdict.specs.Verdict.{Verdict}
use Rattle.asking.specs.Asking.{verdict, Given, transcript, leaves}
use Rattle.book.specs.Book.{Call, result, opened, book_result, book_call}
use Rattle.book.specs.BookClaims.{book_after}
use Rattle.book.specs.MendedCalls.{CallsMended}
use Rattle.book.proofs.Mended.{calls_mended}
use Rattle.evaluation.specs.Promises.{Changes, opened_view}
use Rattle.evaluation.specs.MendedRuns.{Judged, RunsMended}
use Rattle.evaluation.proofs.MachineLaws.{as_the_book}

-- ------------------------------------------------------------------ what the last call gave

last_of : {A : Type 0} → A → List A → A
last_of x [] = x
last_of x (y ∷ l) = last_of y l

last_added : {A : Type 0} (x : A) (l : List A) (y : A) → last_of x (l ++ (y ∷ [])) ≡ y
unfolding last_of
last_added x [] y = refl
last_added x (z ∷ l) y = last_added z l y

last_given : {S C G : Type 0} (step : S → C → S × G) (s : S) (cs : List C) (c : C) (x : G) → last_of x (transcript step s (cs ++ (c ∷ []))) ≡ (step (leaves step s cs) c).1
unfolding transcript leaves last_of
last_given step s [] c x = refl
last_given step s (d ∷ cs) c x = last_given step (step s d).0 cs c (step s d).1

-- it is the book's result
result_given : (m : Message) (cs : List Call) (v : Verdict) (j : Judged m cs v) → (book_result (book_after m cs)).back ≡ verdict v j.count
unfolding book_after book_call Changes opened_view
result_given m cs v j =
    let opens = (rw j.accepts at j.opens).1 in
    let all = as_the_book m (record { author = j.author; existence = j.existence; support = j.support; accepts = j.accepts }) opens j.ran in
    ap (λ (g : Given Verdict). g.back) (sym (last_given book_call (opened m) cs result j.last) ∙ ap (last_of j.last) (sym all) ∙ last_added j.last j.gave j.last)
    ∙ j.says

pub runs_mended : RunsMended
unfolding RunsMended CallsMended
runs_mended m n cs ds one mend v w j k = calls_mended m n cs ds one mend v w j.count k.count (result_given m cs v j) (result_given n ds w k)
