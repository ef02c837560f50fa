-- Laws of the calls: what an evaluation keeps after each, and what each gives.
use Rattle.std.specs.Prelude.{Ok, Err}
use mathlib.Core.Path.{◌≡◌, refl, ap, sym, ◌∙◌}
use mathlib.Core.List.{[]}
use mathlib.Core.Bool.{true, false}
use Prim.Native.Nat.{ℕ, min}
use lib.ListN.{length}
use Rattle.octets.specs.Refusing.{ok, not_ok, refusal}
use Rattle.octets.specs.declared.Refusal.{Refusal}
use Rattle.domain.specs.declared.Octet.{Octet}
use Rattle.walk_keep.proofs.KeepLaws.{kept_length}
use Rattle.verdict_judgement.specs.declared.Judgement.{Judgement}
use Rattle.verdict_judgement.specs.declared.Judged.{Judged}
use Rattle.verdict_judgement.specs.code.Judging.{Fixed, judged_standing}
use Rattle.verdict_judgement.specs.Reading.{verdict_in}
use Rattle.verdict_cursor.specs.code.Cursor.{stands}
use Rattle.evaluation.specs.declared.Evaluation.{Evaluation}
use Rattle.evaluation.specs.declared.Step.{Step}
use Rattle.asking.specs.Asking.{given}
use Rattle.book.specs.Book.{next}
use Rattle.evaluation.specs.code.Machine.{keeps_nothing, keeps_opened, next_at, judged_by, judged_at, judged, result_back, machine_call}
use Rattle.evaluation.specs.code.View.{replies_now, cursor_now, handed_view, view_by, view}
use Rattle.evaluation.specs.Promises.{Does, resulting_in, ResultFixed, DoesResult}
use Rattle.evaluation.specs.GivenBack.{message_now, step_back, resulting_back}

-- ------------------------------------------------------------------ next step

pub next_not_started : (e : Evaluation) → e.started ≡ false → Does e next e (given (step_back e (Step.Refused (refusal 7 0))) [])
unfolding machine_call next_at view view_by keeps_nothing step_back
next_not_started e s = record { leaves = rw s; gives = rw s; stands = λ x. refl; same_domains = λ x. (refl, refl); numbers = λ n. n }

-- ------------------------------------------------------------------ kept answers

-- how many an evaluation has room for
pub replies_length : (e : Evaluation) → length e.kept ≡ 408 → length (replies_now e) ≡ min e.count 136
unfolding replies_now
replies_length e full = kept_length e.domains e.count 136 e.kept full

-- ------------------------------------------------------------------ result

module _ (e : Evaluation) where
  pub result_refused : (f : Refusal) → judged (view e) ≡ not_ok f → DoesResult e (Err f)
  unfolding machine_call result_back resulting_back resulting_in ResultFixed
  result_refused f h = record { does = record { leaves = refl; gives = rw h; stands = λ x. refl; same_domains = λ x. (refl, refl); numbers = λ n. n }; says = sym h; fixed = tt }

  pub result_not_started : e.started ≡ false → DoesResult e (Err (refusal 7 0))
  unfolding view view_by keeps_nothing judged judged_at
  result_not_started s = result_refused (refusal 7 0) (rw s)

  module _ (s : e.started ≡ true) where
    pub result_not_handed : e.handed ≡ false → DoesResult e (Err (refusal 7 0))
    unfolding view view_by keeps_opened judged judged_at
    result_not_handed h = result_refused (refusal 7 0) (rw (s, h))

    module _ (h : e.handed ≡ true) where
      judged_standing_now : judged (view e) ≡ judged_by (message_now e) (stands (message_now e) (cursor_now e))
      unfolding view view_by handed_view judged judged_at
      judged_standing_now = rw (s, h)

      replies_kept : (view e).replies ≡ replies_now e
      unfolding view view_by handed_view
      replies_kept = rw (s, h)

      pub result_missing : (walk : ℕ) (place : Octet) → judged_standing e.domains e.numbers e.terms (Judged.Missing walk place) ≡ stands (message_now e) (cursor_now e)
          → DoesResult e (Err (refusal 7 0))
      unfolding judged_standing judged_by
      result_missing walk place u = result_refused (refusal 7 0) (rw (judged_standing_now, ← u))

      pub result_verdict : (j : Judgement) → judged_standing e.domains e.numbers e.terms (Judged.Done j) ≡ stands (message_now e) (cursor_now e) → Fixed (message_now e) j
          → length e.kept ≡ 408 → (n : ℕ) → n ≡ min e.count 136 → DoesResult e (Ok (record { judgement = j; count = n }))
      unfolding machine_call judged_standing message_now judged_by result_back resulting_back resulting_in ResultFixed
      result_verdict j u x full n f =
          let done : judged (view e) ≡ ok (message_now e, verdict_in (message_now e) j) = rw (judged_standing_now, ← u) in
          let count : n ≡ length (view e).replies = f ∙ sym (replies_length e full) ∙ ap length (sym replies_kept) in
          record { does = record { leaves = refl; gives = rw (done, count); stands = λ x. refl; same_domains = λ x. (refl, refl); numbers = λ n. n }; says = sym done; fixed = x }
