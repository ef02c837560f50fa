-- Real answers for errors change no verdict of calls but temperror.
use Rattle.std.specs.Prelude.{Option, None, Some}
use mathlib.Core.Path.{◌≡◌, refl, ap, sym, ◌∙◌}
use mathlib.Core.Bool.{false, true≢false}
use Prim.Native.Nat.{ℕ}
use Rattle.lookup.specs.Lookup.{Name, Answers, Standing, needs, has, find, value, Completes}
use Rattle.lookup.proofs.RunLaws.{has_value}
use Rattle.txt.specs.Answers.{Answer, lookup_error}
use Rattle.asking.specs.Asking.{Back, ask_name, verdict, accepted, wrote, refused, standing, result_by, result_of}
use Rattle.asking.proofs.Completing.{completed, completes}
use Rattle.verdict.specs.Verdict.{Verdict, separate_walks}
use Rattle.verdict.specs.Mending.{is_lookup_error, Mends, ErrorsMended}
use Rattle.verdict.proofs.Mended.{errors_mended}
use Rattle.book.specs.Book.{Book, walks, book_result}
use Rattle.book.specs.BookClaims.{book_after}
use Rattle.book.specs.MendedCalls.{AnswersMend, CallsMended}
use Rattle.std.proofs.lemmas.Option.{none-some, same_Some}

verdict_told : Back Verdict → Option Verdict
verdict_told (ask_name n) = None
verdict_told (verdict v c) = Some v
verdict_told accepted = None
verdict_told (wrote n) = None
verdict_told (refused f) = None

-- a result that is a verdict: the book then stands at it, and it is that of separate walks over any completion
verdict_walked : (b : Book) (v : Verdict) (c : ℕ) → (book_result b).back ≡ verdict v c → (α : Name → Answer) → Completes α b.run.taken → value α (separate_walks b.message) ≡ v
unfolding book_result result_of result_by verdict_told standing walks
verdict_walked b v c e α agrees = has_value α b.run.taken agrees (separate_walks b.message) v (go (standing (walks b) b.run) (ap verdict_told e))
  where
    go : (u : Standing Verdict) → verdict_told (result_by b.run u).back ≡ Some v → u ≡ has v
    go (needs n) f = absurd (none-some v f)
    go (has x) f = ap has (same_Some x v f)

pub calls_mended : CallsMended
unfolding CallsMended AnswersMend ErrorsMended Mends completed is_lookup_error
calls_mended m n cs ds one mend v w i j e f = rw (verdict_v, verdict_w) at (errors_mended (book_after m cs).message α β mends)
  where
    γ : Answers Answer
    γ = (book_after m cs).run.taken

    δ : Answers Answer
    δ = (book_after n ds).run.taken

    α : Name → Answer
    α = completed γ (λ _. lookup_error)

    β : Name → Answer
    β = completed δ α

    verdict_v : value α (separate_walks (book_after m cs).message) ≡ v
    verdict_v = verdict_walked (book_after m cs) v i e α (completes γ (λ _. lookup_error))

    verdict_w : value β (separate_walks (book_after m cs).message) ≡ w
    verdict_w = ap (λ x. value β (separate_walks x)) one ∙ verdict_walked (book_after n ds) w j f β (completes δ α)

    mends : (x : Name) → is_lookup_error (α x) ≡ false → β x ≡ α x
    mends x h = go (find γ x) refl (find δ x) refl
      where
        go : (o : Option Answer) → find γ x ≡ o → (p : Option Answer) → find δ x ≡ p → β x ≡ α x
        go o p None q = rw (q, completed)
        go None p (Some b) q = absurd (true≢false (rw (p, completed) at h))
        go (Some a) p (Some b) q = completes δ α x b q ∙ mend x a b p q (ap is_lookup_error (sym (completes γ (λ _. lookup_error) x a p)) ∙ h) ∙ sym (completes γ (λ _. lookup_error) x a p)
