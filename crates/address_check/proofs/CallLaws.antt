-- Laws of the calls: what a check keeps after each, and what each gives.
use mathlib.Core.Path.{◌≡◌, refl, ap, ap₂, sym, ◌∙◌}
use mathlib.Core.List.{List, [], ◌∷◌, ◌++◌}
use mathlib.Core.Bool.{Bool, true, false, ◌&&◌, true≢false}
use Prim.Native.Nat.{ℕ, ◌+◌, ◌≤◌, ◌<◌, min}
use native.Mathlib.Omega.{arith}
use lib.Dec.{ltb}
use lib.ListN.{length}
use Rattle.std.specs.Prelude.{if◌then◌else◌, Ok, Err, Option, None, Some}
use Rattle.octets.specs.Octets.{Octets, is_set}
use Rattle.octets.specs.Refusing.{OrRefused, ok, not_ok, refusal}
use Rattle.octets.specs.declared.Refusal.{Refusal}
use Rattle.lookup.specs.Lookup.{Name, Standing, needs, has}
use Rattle.domain.specs.declared.Octet.{Octet}
use Rattle.domain.specs.Domain.{without_dot}
use Rattle.txt.specs.declared.Status.{Status}
use Rattle.txt.specs.declared.Reply.{Reply}
use Rattle.txt.specs.Answers.{Answer, answer_of}
use Rattle.txt.specs.Taking.{taken, left_after}
use Rattle.asking.specs.Asking.{Back, ask_name, verdict, accepted, refused, given}
use Rattle.walk_keep.proofs.KeepLaws.{kept_length}
use Rattle.address.specs.declared.Agreement.{Agreement}
use Rattle.address.specs.Checks.{CheckCall, start, next, result, answer, Pair, check_started}
use Rattle.address_check.specs.declared.Check.{Check}
use Rattle.address_check.specs.declared.CheckStep.{CheckStep}
use Rattle.address_check.specs.code.Cursor.{Cursor, stands, needed}
use Rattle.address_check.specs.code.Machine.{Keeps, keeps_nothing, keeps_started, count_of, start_by, now_asking, next_by, next_at, keeping, answer_taken, has_room, answer_at, outcome_by, outcome_at, result_back, machine_call}
use Rattle.address_check.specs.Numbers.{pair_now, mark_in, check_name}
use Rattle.address_check.specs.Promises.{changes_check, is_start, DoesCheck}
use Rattle.address_check.specs.code.View.{replies_now, cursor_now, asked_now, view_by, view, step_back, resulting_back, acceptance_back}

-- the check with a name asked
unfoldable pub asking : Check → Check
asking e = record { started = e.started; asked = 1; confirmed = e.confirmed; domains = e.domains; numbers = e.numbers; kept = e.kept; count = e.count; point = e.point }

-- what a started check keeps
started_view : (e : Check) → is_set e.started ≡ true → view e ≡ view_by e true
unfolding view
started_view e s = ap (view_by e) s

-- how many names it has answers for
pub counted : (e : Check) → is_set e.started ≡ true → length e.kept ≡ 48 → {n : ℕ} → n ≡ min e.count 16 + (if is_set e.confirmed then 1 else 0) → n ≡ count_of (view e)
unfolding view view_by replies_now count_of
counted e s full f = f ∙ rw (s, kept_length e.domains e.count 16 e.kept full)

-- a call that leaves the check as it is
stays : (e : Check) (x : CheckCall) {k : Back Agreement} {memory : Octets} → machine_call (view e) x ≡ (view e, given k memory) → DoesCheck e x e (given k memory)
stays e x f = record { leaves = sym (ap (λ y. y.0) f); gives = sym (ap (λ y. y.1) f); stands = λ h. refl; same_domains = λ h. (refl, refl) }

module _ (e : Check) where
  -- ---------------------------------------------------------------- next step and result

  pub next_not_started : is_set e.started ≡ false → DoesCheck e next e (given (step_back e (CheckStep.Refused (refusal 7 0))) [])
  unfolding step_back
  next_not_started s = stays e next (unfold machine_call next_at view view_by keeps_nothing in rw s)

  pub result_not_started : is_set e.started ≡ false → DoesCheck e result e (given (resulting_back (Err (refusal 7 0))) [])
  unfolding resulting_back
  result_not_started s = stays e result (unfold machine_call outcome_at result_back view view_by keeps_nothing in rw s)

  module _ (s : is_set e.started ≡ true) where
    at_next : machine_call (view e) next ≡ next_by (view e) (stands (pair_now e) (cursor_now e))
    unfolding machine_call next_at view view_by
    at_next = rw s

    at_result : machine_call (view e) result ≡ (view e, given (result_back (count_of (view e)) (outcome_by (stands (pair_now e) (cursor_now e)))) [])
    unfolding machine_call outcome_at view view_by
    at_result = rw s

    now_asked : (n : Name) → needs n ≡ stands (pair_now e) (cursor_now e) → view (asking e) ≡ now_asking (view e) n
    unfolding is_set view view_by asking now_asking asked_now pair_now replies_now cursor_now needed
    now_asked n f = rw (s, ← f)

    asks_it : (n : Name) → needs n ≡ stands (pair_now e) (cursor_now e) → machine_call (view e) next ≡ (now_asking (view e) n, given (ask_name n) [])
    unfolding next_by
    asks_it n f = at_next ∙ ap (next_by (view e)) (sym f)

    pub next_name : (walk : ℕ) (place : Octet) → needs (mark_in (pair_now e) walk place) ≡ stands (pair_now e) (cursor_now e)
        → DoesCheck e next (asking e) (given (step_back (asking e) (CheckStep.Ask walk place)) [])
    unfolding step_back check_name asking pair_now changes_check
    next_name walk place f = record {
      leaves = now_asked (mark_in (pair_now e) walk place) f ∙ sym (ap (λ y. y.0) (asks_it (mark_in (pair_now e) walk place) f));
      gives = sym (ap (λ y. y.1) (asks_it (mark_in (pair_now e) walk place) f));
      stands = λ h. absurd (true≢false h);
      same_domains = λ h. (refl, refl);
    }

    module _ (a : Agreement) (f : has a ≡ stands (pair_now e) (cursor_now e)) {n : ℕ} (c : n ≡ count_of (view e)) where
      pub next_outcome : DoesCheck e next e (given (step_back e (CheckStep.Outcome (record { agreement = a; count = n }))) [])
      unfolding step_back
      next_outcome = stays e next (at_next ∙ (unfold next_by in ap (next_by (view e)) (sym f) ∙ ap (λ i. (view e, given (verdict a i) [])) (sym c)))

      pub result_outcome : DoesCheck e result e (given (resulting_back (Ok (record { agreement = a; count = n }))) [])
      unfolding resulting_back
      result_outcome = stays e result (at_result ∙ (unfold outcome_by result_back in ap (λ u. (view e, given (result_back (count_of (view e)) (outcome_by u)) [])) (sym f) ∙ ap (λ i. (view e, given (verdict a i) [])) (sym c)))

    pub result_lacking : (n : Name) → needs n ≡ stands (pair_now e) (cursor_now e) → DoesCheck e result e (given (resulting_back (Err (refusal 7 0))) [])
    unfolding resulting_back
    result_lacking n f = stays e result (at_result ∙ (unfold outcome_by result_back in ap (λ u. (view e, given (result_back (count_of (view e)) (outcome_by u)) [])) (sym f)))

  -- ---------------------------------------------------------------- start

  pub start_refused : (policy entry : Octets) (f : Refusal) → check_started policy entry ≡ not_ok f → DoesCheck e (start policy entry) e (given (acceptance_back (Err f)) [])
  unfolding acceptance_back
  start_refused policy entry f q = stays e (start policy entry) (unfold machine_call start_by in ap (start_by (view e)) q)

  pub start_accepted : (policy entry : Octets) (c : Pair) → check_started policy entry ≡ ok c → (after : Check) → view after ≡ keeps_started c → DoesCheck e (start policy entry) after (given (acceptance_back (Ok tt)) [])
  unfolding acceptance_back machine_call start_by changes_check is_start
  start_accepted policy entry c q after v = record {
    leaves = v ∙ sym (ap (λ (y : OrRefused Pair). (start_by (view e) y).0) q);
    gives = sym (ap (λ (y : OrRefused Pair). (start_by (view e) y).1) q);
    stands = λ h. absurd (true≢false h);
    same_domains = λ h. absurd (true≢false h);
  }
