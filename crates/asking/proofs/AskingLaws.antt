-- What holds of a run wherever its calls have left it.
use mathlib.Core.Path.{◌≡◌, refl, ap, ap₂, sym, ◌∙◌, subst}
use mathlib.Core.List.{List, [], ◌∷◌, ◌++◌, append_assoc, append-nil}
use mathlib.Core.Bool.{Bool, true, false, false≢true}
use Prim.Native.Nat.{◌≤◌}
use lib.Dec.{leb}
use lib.ListN.{length}
use borrow.Author.Tests.{le-leb}
use Rattle.std.specs.Prelude.{if◌then◌else◌, Option, None, Some}
use Rattle.octets.specs.Octets.{Octets, same_text}
use Rattle.octets.specs.Refusing.{refusal}
use Rattle.octets.specs.declared.Refusal.{Refusal}
use Rattle.lookup.specs.Lookup.{Name, Lookups, Answers, names, find, member, once, path, value, list, Standing, needs, has, run_over, Grown, start, grow, Completes}
use Rattle.lookup.specs.Claims.{Distinct, Ends, now, later}
use Rattle.lookup.proofs.NameLaws.{once_new, once_seen, once_distinct, once_append, member_last}
use Rattle.lookup.proofs.RunLaws.{asked_so_far, names_append, needs_injective, needs_open, find_not_member, needs_prefix, needs_short, has_list, has_value, has≢needs, ends, once_names, distinct_names}
use Rattle.domain.specs.Domain.{without_dot}
use Rattle.txt.specs.Answers.{Answer, texts, scratch_after}
use Rattle.asking.specs.Asking.{Back, ask_name, verdict, accepted, wrote, refused, Given, given, Asking, begun, with_asked, kept, standing, now_asked, asked_names, count, next_by, next_step, take_texts, take_asked, take, result_by, result_of}
use Rattle.asking.specs.Claims.{Reached, at_first, by_next, by_answer, given_name, Comes, arrived, goes_on, AskingClaimed, NoVerdictYet}
use Rattle.std.proofs.lemmas.Option.{none-some, same_Some}

-- ------------------------------------------------------------------ one answer

-- an answer is refused, and the run is as it was; or it is kept for the name now asked
pub take_cases : {R A : Type 0} (P : Asking R × Given A → Type 0) (s : Asking R) (name : Octets) (a : Answer) (r : R) (scratch : Octets)
    → ((f : Refusal) → P (s, given (refused f) scratch))
    → ((n : Name) (ts : List Octets) → s.asked ≡ Some n → P (kept s n r, given accepted (scratch_after ts scratch)))
    → P (take s name a r scratch)
unfolding take take_asked take_texts
take_cases P s name a r scratch stays keeps = by_asked s.asked refl
  where
    by_texts : (n : Name) → s.asked ≡ Some n → (o : Option (List Octets)) → P (take_texts s n r scratch o)
    by_texts n e None = stays (refusal 6 0)
    by_texts n e (Some ts) =
        elim (leb 4096 (length scratch)) as (λ b. P (if b then (kept s n r, given accepted (scratch_after ts scratch)) else (s, given (refused (refusal 10 4096)) scratch))) [
          | true ↦ keeps n ts e
          | false ↦ stays (refusal 10 4096)
        ]

    by_asked : (o : Option Name) → s.asked ≡ o → P (take_asked s name a r scratch o)
    by_asked None e = stays (refusal 5 0)
    by_asked (Some n) e =
        elim (same_text (without_dot name) n) as (λ b. P (if b then take_texts s n r scratch (texts a) else (s, given (refused (refusal 5 0)) scratch))) [
          | true ↦ by_texts n e (texts a)
          | false ↦ stays (refusal 5 0)
        ]

-- ------------------------------------------------------------------ the answers came by asking

pub record Held {R A : Type 0} (t : Lookups R A) (s : Asking R) : Type 0 where
  pub grown : Grown t s.taken
  -- the name now asked is the one that the run stands at
  pub stands : (n : Name) → s.asked ≡ Some n → standing t s ≡ needs n

module _ {R A : Type 0} (t : Lookups R A) where
  held_next_by : (s : Asking R) → Held t s → (u : Standing A) → standing t s ≡ u → Held t (next_by s u).0
  unfolding next_by standing with_asked
  held_next_by s h (has a) e = h
  held_next_by s h (needs n) e = record { grown = h.grown; stands = λ x f. e ∙ ap needs (same_Some n x f) }

  held_kept : (s : Asking R) → Held t s → (n : Name) (r : R) → s.asked ≡ Some n → Held t (kept s n r)
  unfolding kept standing
  held_kept s h n r e = record { grown = grow h.grown (h.stands n e) r; stands = λ x f. absurd (none-some x f) }

  pub held : (s : Asking R) → Reached t s → Held t s
  unfolding begun next_step
  held _ at_first = record { grown = start; stands = λ n e. absurd (none-some n e) }
  held _ (by_next {s} p) = held_next_by s (held s p) (standing t s) refl
  held _ (by_answer {s} p name a r scratch) = take_cases (λ x. Held t x.0) s name a r scratch (λ f. held s p) (λ n ts e. held_kept s (held s p) n r e)

-- ------------------------------------------------------------------ the names asked

-- what a call adds to the names asked: the name that it gives, if it was not asked yet
abbrev pub AddsName : {R A : Type 0} → Asking R → Asking R × Given A → Type 0
AddsName s x = asked_names x.0 ≡ asked_names s ++ once (asked_names s) (given_name x.1.back)

module _ {R A : Type 0} (t : Lookups R A) where
  absent : (s : Asking R) (n : Name) → standing t s ≡ needs n → member n (names s.taken) ≡ false
  unfolding standing run_over
  absent s n e = find_not_member s.taken n (needs_open (find s.taken) t n e)

  adds_next_by : (s : Asking R) → Held t s → (u : Standing A) → standing t s ≡ u → AddsName s (next_by s u)
  unfolding next_by with_asked given_name asked_names now_asked once
  adds_next_by s h (has a) e = sym (append-nil _)
  adds_next_by s h (needs n) e = go s.asked refl
    where
      ns : List Name
      ns = names s.taken

      again : (a : Name) → s.asked ≡ Some a → a ≡ n
      again a f = needs_injective a n (sym (h.stands a f) ∙ e)

      go : (o : Option Name) → s.asked ≡ o → ns ++ (n ∷ []) ≡ (ns ++ now_asked s.asked) ++ once (ns ++ now_asked s.asked) (n ∷ [])
      go None f = rw (f, append-nil ns, once_new ns n [] (absent s n e))
      go (Some a) f = rw (f, again a f, once_seen (ns ++ (n ∷ [])) n [] (member_last n ns), append-nil)

  pub adds_next : (s : Asking R) → Held t s → AddsName s (next_step t s)
  unfolding next_step
  adds_next s h = adds_next_by s h (standing t s) refl

pub adds_take : {R : Type 0} (A : Type 0) (s : Asking R) (name : Octets) (a : Answer) (r : R) (scratch : Octets) → AddsName s (take {A = A} s name a r scratch)
unfolding given_name once asked_names now_asked kept names
adds_take A s name a r scratch =
    take_cases (AddsName s) s name a r scratch (λ f. sym (append-nil (asked_names s)))
    (λ n ts e. append-nil _ ∙ names_append s.taken ((n, r) ∷ []) ∙ ap (λ o. names s.taken ++ now_asked o) (sym e) ∙ sym (append-nil _))

-- a result gives no name to ask
pub result_quiet : {R A : Type 0} (s : Asking R) (u : Standing A) → given_name (result_by s u).back ≡ []
unfolding result_by given_name
result_quiet s (has a) = refl
result_quiet s (needs n) = refl

-- ------------------------------------------------------------------ every run comes to its verdict

is_accepted : {A : Type 0} → Back A → Bool
is_accepted (ask_name n) = false
is_accepted (verdict a c) = false
is_accepted accepted = true
is_accepted (wrote n) = false
is_accepted (refused f) = false

-- an accepted answer is kept for the name that was asked
Keeps : {R A : Type 0} → Asking R → R → Asking R × Given A → Type 0
Keeps s r x = is_accepted x.1.back ≡ true → (n : Name) × (x.0 ≡ kept s n r) × (s.asked ≡ Some n)

keeps_take : {R : Type 0} (A : Type 0) (s : Asking R) (name : Octets) (a : Answer) (r : R) (scratch : Octets) → Keeps {A = A} s r (take s name a r scratch)
unfolding Keeps is_accepted
keeps_take A s name a r scratch = take_cases (Keeps s r) s name a r scratch (λ f h. absurd (false≢true h)) (λ n ts e h. (n, refl, e))

unfoldable run_of : {R : Type 0} → Answers R → Option Name → Asking R
run_of β o = record { taken = β; asked = o }

module _ {R A : Type 0} (t : Lookups R A) where
  next_stuck : (s : Asking R) (n : Name) → standing t s ≡ needs n → next_step t s ≡ (run_of s.taken (Some n), given (ask_name n) [])
  unfolding next_step next_by with_asked run_of
  next_stuck s n e = ap (next_by s) e

  comes_from : (β : Answers R) (o : Option Name) → Ends t β → Comes t (run_of β o)
  unfolding run_of standing Keeps is_accepted kept
  comes_from β o (now a e) = arrived a e
  comes_from β o (later n e f) = goes_on n (ap (λ (x : Asking R × Given A). x.1.back) (next_stuck (run_of β o) n e)) (go (λ r. comes_from (β ++ ((n, r) ∷ [])) None (f r)))
    where
      asking : Asking R
      asking = (next_step t (run_of β o)).0

      asks_n : asking ≡ run_of β (Some n)
      asks_n = ap (λ (x : Asking R × Given A). x.0) (next_stuck (run_of β o) n e)

      go : ((r : R) → Comes t (run_of (β ++ ((n, r) ∷ [])) None))
          → (name : Octets) (a : Answer) (r : R) (scratch : Octets) → (take {A = A} asking name a r scratch).1.back ≡ accepted
          → Comes t (take {A = A} asking name a r scratch).0
      go ih name a r scratch h = subst (Comes t) (sym same_run) (ih r)
        where
          was_kept : (x : Name) × ((take {A = A} asking name a r scratch).0 ≡ kept asking x r) × (asking.asked ≡ Some x)
          was_kept = keeps_take A asking name a r scratch (ap is_accepted h)

          same_name : was_kept.0 ≡ n
          same_name = same_Some was_kept.0 n (sym was_kept.2 ∙ ap (λ (x : Asking R). x.asked) asks_n)

          same_run : (take {A = A} asking name a r scratch).0 ≡ run_of (β ++ ((n, r) ∷ [])) None
          same_run = was_kept.1 ∙ ap₂ (λ (x : Asking R) y. kept x y r) asks_n same_name

-- ------------------------------------------------------------------ accepted, and refused

module _ {R : Type 0} (A : Type 0) (s : Asking R) where
  takes_now : (n : Name) → s.asked ≡ Some n → (name : Octets) → same_text (without_dot name) n ≡ true
      → (a : Answer) (ts : List Octets) → texts a ≡ Some ts → (r : R) (scratch : Octets) → 4096 ≤ length scratch
      → take {A = A} s name a r scratch ≡ (kept s n r, given accepted (scratch_after ts scratch))
  unfolding take take_asked take_texts
  takes_now n e name f a ts g r scratch h =
      ap (take_asked s name a r scratch) e
      ∙ ap (λ b. if b then take_texts s n r scratch (texts a) else (s, given (refused (refusal 5 0)) scratch)) f
      ∙ ap (take_texts s n r scratch) g
      ∙ ap (λ b. if b then (kept s n r, given accepted (scratch_after ts scratch)) else (s, given (refused (refusal 10 4096)) scratch)) (le-leb 4096 (length scratch) h)

  Stands : Octets → Refusal → Asking R × Given A → Type 0
  Stands scratch f x = x.1.back ≡ refused f → x ≡ (s, given (refused f) scratch)

  stands_take : (name : Octets) (a : Answer) (r : R) (scratch : Octets) (f : Refusal) → Stands scratch f (take s name a r scratch)
  unfolding Stands is_accepted
  stands_take name a r scratch f =
      take_cases (Stands scratch f) s name a r scratch (λ g e. ap (λ k. (s, given k scratch)) e) (λ n ts e h. absurd (false≢true (sym (ap is_accepted h))))

-- ------------------------------------------------------------------ the claims

module _ {R A : Type 0} (t : Lookups R A) (s : Asking R) (h : Held t s) where
  -- at the verdict no name is asked
  none_asked : (a : A) → standing t s ≡ has a → asked_names s ≡ names s.taken
  unfolding asked_names now_asked
  none_asked a e = go s.asked refl
    where
      go : (o : Option Name) → s.asked ≡ o → names s.taken ++ now_asked s.asked ≡ names s.taken
      go None f = ap (λ o. names s.taken ++ now_asked o) f ∙ append-nil (names s.taken)
      go (Some n) f = absurd (has≢needs (sym e ∙ h.stands n f))

  all_answered : (a : A) → standing t s ≡ has a → (α : Name → R) → Completes α s.taken → list α t ≡ names s.taken
  unfolding standing
  all_answered a e α agrees = has_list t α a h.grown agrees e

  all_asked : (a : A) → standing t s ≡ has a → (α : Name → R) → Completes α s.taken → list α t ≡ asked_names s
  all_asked a e α agrees = all_answered a e α agrees ∙ sym (none_asked a e)

  verdict_walked : (a : A) → standing t s ≡ has a → (α : Name → R) → Completes α s.taken → value α t ≡ a
  unfolding standing
  verdict_walked a e α agrees = has_value α s.taken agrees t a e

  as_reported : (a : A) → standing t s ≡ has a → (α : Name → R) → Completes α s.taken
      → (next_step t s ≡ (s, given (verdict (value α t) (length (list α t))) [])) × (result_of t s ≡ given (verdict (value α t) (length (list α t))) [])
  unfolding next_step next_by result_of result_by count
  as_reported a e α agrees = rw (verdict_walked a e α agrees, all_asked a e α agrees, e) (refl, refl)

  first_asked : (α : Name → R) → Completes α s.taken → (rest : List Name) × (list α t ≡ asked_names s ++ rest)
  unfolding asked_names now_asked standing
  first_asked α agrees = go s.asked refl
    where
      ns : List Name
      ns = names s.taken

      go : (o : Option Name) → s.asked ≡ o → (rest : List Name) × (list α t ≡ (ns ++ now_asked s.asked) ++ rest)
      go None e = (
        once ns (path α t),
        asked_so_far t α h.grown agrees ∙ ap (λ l. l ++ once ns (path α t)) (sym (append-nil ns) ∙ ap (λ o. ns ++ now_asked o) (sym e)),
      )
      go (Some n) e = (
        once (ns ++ (n ∷ [])) (path α t),
        needs_prefix t α n h.grown agrees (h.stands n e)
            ∙ sym (append_assoc ns (n ∷ []) (once (ns ++ (n ∷ [])) (path α t)))
            ∙ ap (λ o. (ns ++ now_asked o) ++ once (ns ++ (n ∷ [])) (path α t)) (sym e),
      )

  asked_distinct : Distinct (asked_names s)
  unfolding asked_names now_asked once
  asked_distinct = go s.asked refl
    where
      ns : List Name
      ns = names s.taken

      with_one : (n : Name) → standing t s ≡ needs n → once [] (ns ++ (n ∷ [])) ≡ ns ++ (n ∷ [])
      with_one n e = once_append [] ns (n ∷ []) ∙ ap (λ (l : List Name). l ++ once l (n ∷ [])) (once_names h.grown) ∙ ap (λ (l : List Name). ns ++ l) (once_new ns n [] (absent t s n e))

      go : (o : Option Name) → s.asked ≡ o → Distinct (ns ++ now_asked s.asked)
      go None e = rw (e, append-nil) (distinct_names h.grown)
      go (Some n) e = rw e (subst Distinct (with_one n (h.stands n e)) (once_distinct [] (ns ++ (n ∷ []))))

pub asking_claimed : AskingClaimed
unfolding AskingClaimed standing count run_of Stands
asking_claimed R A t s p =
    let h : Held t s = held t s p in
    record {
      each_once = asked_distinct t s h;
      at_verdict = all_asked t s h;
      that_verdict = verdict_walked t s h;
      counted = λ a e α agrees. ap length (sym (all_asked t s h a e α agrees));
      reported = as_reported t s h;
      until_then = first_asked t s h;
      comes = comes_from t s.taken s.asked (ends t s.taken);
      not_after = λ n e α agrees. needs_short t α n h.grown agrees e;
      answered = λ a e α agrees. sym (all_answered t s h a e α agrees);
      accepts = takes_now A s;
      refused_stands = stands_take A s;
    }

pub no_verdict_yet : {R A : Type 0} (t : Lookups R A) (s : Asking R) → NoVerdictYet t s
unfolding next_step result_of next_by result_by
no_verdict_yet t s = record { asks = λ n e. ap (next_by s) e; no_result = λ n e. ap (result_by s) e }
