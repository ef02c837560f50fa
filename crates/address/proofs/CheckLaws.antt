-- What holds of the book of address checks after every list of calls.
use Rattle.std.specs.Prelude.{Option, None, Some}
use mathlib.Core.Path.{◌≡◌, refl, ap, sym, ◌∙◌, subst}
use mathlib.Core.List.{List, [], ◌∷◌, ◌++◌, append-nil}
use mathlib.Core.Bool.{Bool, true, false, ◌||◌, false≢true}
use Prim.Native.Nat.{◌≤◌}
use native.Mathlib.Omega.{arith}
use lib.ListN.{length, length-append}
use Rattle.octets.specs.Octets.{Octets, same, any}
use Rattle.octets.specs.Refusing.{OrRefused, ok, not_ok, refusal}
use Rattle.octets.specs.declared.Refusal.{Refusal}
use Rattle.lookup.specs.Lookup.{Name, names, member, once, list, Standing, needs, has}
use Rattle.lookup.proofs.NameLaws.{once_append}
use Rattle.txt.specs.declared.Status.{Status}
use Rattle.txt.specs.Answers.{Answer, lookup_error, answer_of}
use Rattle.asking.specs.Asking.{Back, ask_name, verdict, accepted, wrote, refused, Given, given, Asking, begun, standing, now_asked, asked_names, count, next_by, next_step, take, result_by, result_of, transcript, leaves}
use Rattle.asking.specs.Claims.{Reached, at_first, by_next, by_answer, given_name, AskingClaims, AskingClaimed}
use Rattle.asking.proofs.AskingLaws.{take_cases, held, adds_next, adds_take, result_quiet, asking_claimed}
use Rattle.asking.proofs.Completing.{completed, completes}
use Rattle.address.specs.declared.Agreement.{Agreement}
use Rattle.address.specs.Address.{confirming_name, check}
use Rattle.address.specs.Checks.{CheckCall, start, next, result, answer, Pair, check_started, CheckBook, nothing_started, check_lookups, start_by, with_run, next_of, result_in, check_call}
use Rattle.address.specs.Claims.{check_book, check_gave, begins, names_since, check_memory, CheckClaims, CheckClaimed}
use Rattle.address.proofs.NameLaws.{at_end, names_of_check}
use Rattle.address.proofs.ErrorLaws.{after_error}
use Rattle.std.proofs.lemmas.Option.{none-some, same_Some}

-- ------------------------------------------------------------------ what every call keeps

pub record Kept (b : CheckBook) : Type 0 where
  -- the run is one of the check's
  pub reached : (c : Pair) → b.pair ≡ Some c → Reached (check_lookups c) b.run
  -- until one is started, it is as it began
  pub unstarted : b.pair ≡ None → b.run ≡ begun

pub kept_nothing : Kept nothing_started
unfolding nothing_started
kept_nothing = record { reached = λ c e. absurd (none-some c e); unstarted = λ e. refl }

module _ (b : CheckBook) (κ : Kept b) where
  kept_start : (r : OrRefused Pair) → Kept (start_by b r).0
  unfolding start_by
  kept_start (ok c) = record { reached = λ d e. at_first; unstarted = λ e. refl }
  kept_start (not_ok f) = κ

  kept_next : (o : Option Pair) → b.pair ≡ o → Kept (next_of b o).0
  unfolding next_of with_run
  kept_next None e = κ
  kept_next (Some c) e = record {
    reached = λ d f. subst (λ x. Reached (check_lookups x) (next_step (check_lookups c) b.run).0) (same_Some c d (sym e ∙ f)) (by_next (κ.reached c e));
    unstarted = λ f. absurd (none-some c (sym f ∙ e));
  }

  kept_answer : (name : Octets) (a : Answer) (scratch : Octets) → Kept (with_run b (take b.run name a a scratch)).0
  unfolding with_run begun
  kept_answer name a scratch = record {
    reached = λ c e. by_answer (κ.reached c e) name a a scratch;
    unstarted = λ f. take_cases (λ x. x.0 ≡ begun) b.run name a a scratch (λ r. κ.unstarted f)
        λ n ts e. absurd (none-some n (sym (ap (λ (s : Asking Answer). s.asked) (κ.unstarted f)) ∙ e));
  }

pub kept_call : (b : CheckBook) → Kept b → (c : CheckCall) → Kept (check_call b c).0
unfolding check_call
kept_call b κ (start policy entry) = kept_start b κ (check_started policy entry)
kept_call b κ next = kept_next b κ b.pair refl
kept_call b κ (answer name status bytes scratch) = kept_answer b κ name (answer_of status bytes) scratch
kept_call b κ result = κ

kept_calls : (b : CheckBook) → Kept b → (cs : List CheckCall) → Kept (leaves check_call b cs)
unfolding leaves
kept_calls b κ [] = κ
kept_calls b κ (c ∷ cs) = kept_calls (check_call b c).0 (kept_call b κ c) cs

pub kept_after : (cs : List CheckCall) → Kept (check_book cs)
unfolding check_book
kept_after cs = kept_calls nothing_started kept_nothing cs

-- ------------------------------------------------------------------ the names asked

-- a call begins another check, with no name asked, or it adds to the names asked the name that it gives, if it was not asked yet
unfoldable Names : CheckBook → CheckCall → CheckBook × Given Agreement → Type 0
Names b c x = elim (begins c x.1.back) as (λ _. Type 0) [
  | true ↦ asked_names x.0.run ≡ []
  | false ↦ asked_names x.0.run ≡ asked_names b.run ++ once (asked_names b.run) (given_name x.1.back)
]

quiet : (b : CheckBook) (l : List Name) → l ≡ [] → asked_names b.run ≡ asked_names b.run ++ once (asked_names b.run) l
unfolding once
quiet b l e = sym (append-nil _) ∙ ap (λ l. asked_names b.run ++ once (asked_names b.run) l) (sym e)

module _ (b : CheckBook) (κ : Kept b) where
  names_start : (policy entry : Octets) (r : OrRefused Pair) → Names b (start policy entry) (start_by b r)
  unfolding Names start_by begins begun asked_names now_asked names given_name once
  names_start policy entry (ok c) = refl
  names_start policy entry (not_ok f) = quiet b [] refl

  names_next : (o : Option Pair) → b.pair ≡ o → Names b next (next_of b o)
  unfolding Names next_of with_run begins given_name once
  names_next None e = quiet b [] refl
  names_next (Some c) e = adds_next (check_lookups c) b.run (held (check_lookups c) b.run (κ.reached c e))

  names_result : (o : Option Pair) → Names b result (b, result_in b o)
  unfolding Names result_in begins given_name once result_of
  names_result None = quiet b [] refl
  names_result (Some c) = quiet b _ (result_quiet b.run (standing (check_lookups c) b.run))

  names_call : (c : CheckCall) → Names b c (check_call b c)
  unfolding check_call
  names_call (start policy entry) = names_start policy entry (check_started policy entry)
  names_call next = names_next b.pair refl
  names_call result = names_result b.pair
  names_call (answer name status bytes scratch) = unfold Names begins with_run in adds_take Agreement b.run name (answer_of status bytes) (answer_of status bytes) scratch

names_calls : (b : CheckBook) → Kept b → (ns : List Name) → asked_names b.run ≡ once [] ns → (cs : List CheckCall)
    → asked_names (leaves check_call b cs).run ≡ once [] (names_since ns cs (transcript check_call b cs))
unfolding leaves transcript names_since once
names_calls b κ ns e [] = e
names_calls b κ ns e (c ∷ cs) = go (λ ms f. names_calls (check_call b c).0 (kept_call b κ c) ms f cs) (begins c (check_call b c).1.back) (unfold Names in names_call b κ c)
  where
    x : CheckBook × Given Agreement
    x = check_call b c

    go : ((ms : List Name) → asked_names x.0.run ≡ once [] ms → asked_names (leaves check_call x.0 cs).run ≡ once [] (names_since ms cs (transcript check_call x.0 cs)))
        → (t : Bool)
        → elim t as (λ _. Type 0) [
          | true ↦ asked_names x.0.run ≡ []
          | false ↦ asked_names x.0.run ≡ asked_names b.run ++ once (asked_names b.run) (given_name x.1.back)
        ]
        → asked_names (leaves check_call x.0 cs).run ≡ once [] (elim t as (λ _. List Name) [
          | true ↦ names_since [] cs (transcript check_call x.0 cs)
          | false ↦ names_since (ns ++ given_name x.1.back) cs (transcript check_call x.0 cs)
        ])
    go ih true h = ih [] h
    go ih false h = ih (ns ++ given_name x.1.back) (h ∙ ap (λ (l : List Name). l ++ once l (given_name x.1.back)) e ∙ sym (once_append [] ns (given_name x.1.back)))

-- ------------------------------------------------------------------ refused

is_refused : Back Agreement → Bool
is_refused (ask_name n) = false
is_refused (verdict v c) = false
is_refused accepted = false
is_refused (wrote n) = false
is_refused (refused f) = true

Stands : CheckBook → Octets → Refusal → CheckBook × Given Agreement → Type 0
Stands b memory f x = x.1.back ≡ refused f → x ≡ (b, given (refused f) memory)

given_more : (k : Back Agreement) (f : Refusal) → is_refused k ≡ false → k ≡ refused f → ⊥
unfolding is_refused
given_more k f e h = false≢true (sym e ∙ ap is_refused h)

module _ (b : CheckBook) (f : Refusal) where
  stands_start : (r : OrRefused Pair) → Stands b [] f (start_by b r)
  unfolding Stands start_by is_refused
  stands_start (ok c) h = absurd (given_more accepted f refl h)
  stands_start (not_ok g) h = ap (λ k. (b, given k [])) h

  stands_step : (u : Standing Agreement) → Stands b [] f (with_run b (next_by b.run u))
  unfolding Stands with_run next_by is_refused
  stands_step (needs n) h = absurd (given_more (ask_name n) f refl h)
  stands_step (has v) h = absurd (given_more (verdict v (count b.run)) f refl h)

  stands_next : (o : Option Pair) → Stands b [] f (next_of b o)
  unfolding next_of next_step
  stands_next None = unfold Stands in λ h. ap (λ k. (b, given k [])) h
  stands_next (Some c) = stands_step (standing (check_lookups c) b.run)

  stands_by : (u : Standing Agreement) → Stands b [] f (b, result_by b.run u)
  unfolding Stands result_by is_refused
  stands_by (needs n) h = ap (λ k. (b, given k [])) h
  stands_by (has v) h = absurd (given_more (verdict v (count b.run)) f refl h)

  stands_result : (o : Option Pair) → Stands b [] f (b, result_in b o)
  unfolding result_in result_of
  stands_result None = unfold Stands in λ h. ap (λ k. (b, given k [])) h
  stands_result (Some c) = stands_by (standing (check_lookups c) b.run)

  stands_call : (c : CheckCall) → Stands b (check_memory c) f (check_call b c)
  unfolding check_call check_memory
  stands_call (start policy entry) = stands_start (check_started policy entry)
  stands_call next = stands_next b.pair
  stands_call result = stands_result b.pair
  stands_call (answer name status bytes scratch) =
      unfold Stands with_run is_refused in take_cases (λ x. (with_run b x).1.back ≡ refused f → with_run b x ≡ (b, given (refused f) scratch)) b.run name (answer_of status bytes) (answer_of status bytes) scratch
      (λ r h. ap (λ k. (b, given k scratch)) h) (λ n ts e h. absurd (given_more accepted f refl h))

-- ------------------------------------------------------------------ the claims

module _ (b : CheckBook) (κ : Kept b) where
  claims : (c : Pair) → b.pair ≡ Some c → AskingClaims (check_lookups c) b.run
  unfolding AskingClaimed
  claims c e = asking_claimed Answer Agreement (check_lookups c) b.run (κ.reached c e)

  some_answers : Name → Answer
  some_answers = completed b.run.taken (λ n. lookup_error)

  counted : (o : Option Pair) → b.pair ≡ o → count b.run ≤ 17
  unfolding count
  counted None e = rw (κ.unstarted e) (unfold begun asked_names now_asked names in omega arith)
  counted (Some c) e =
      let (rest, f) = (claims c e).until_then some_answers (unfold some_answers in completes b.run.taken (λ n. lookup_error)) in
      let most : length (list some_answers (check_lookups c)) ≤ 17 = unfold check_lookups in (names_of_check c.policy c.host some_answers).at_most_17 in
      omega (arith, sym (length-append (asked_names b.run) rest) ∙ ap length (sym f), most)

  last : (c : Pair) → b.pair ≡ Some c → member (confirming_name c.policy c.host) (asked_names b.run) ≡ true
      → (ns : List Name) × (asked_names b.run ≡ ns ++ (confirming_name c.policy c.host ∷ []))
  last c e m =
      let (rest, f) = (claims c e).until_then some_answers (unfold some_answers in completes b.run.taken (λ n. lookup_error)) in
      at_end c.policy c.host some_answers (asked_names b.run) rest (unfold check_lookups in f) m

pub check_claims : (cs : List CheckCall) → CheckClaims cs
check_claims cs = record {
  asked = unfold check_book check_gave nothing_started begun asked_names now_asked names once in names_calls nothing_started kept_nothing [] refl cs;
  of_its_run = claims (check_book cs) (kept_after cs);
  at_most_17 = counted (check_book cs) (kept_after cs) (check_book cs).pair refl;
  last = last (check_book cs) (kept_after cs);
  after_an_error = λ c e h. unfold standing check_lookups in after_error c.policy c.host (held (check_lookups c) (check_book cs).run ((kept_after cs).reached c e)).grown h;
  refused_stands = λ c f. unfold Stands in stands_call (check_book cs) f c;
}

pub check_claimed : CheckClaimed
check_claimed = record { calls = check_claims; names = names_of_check }
