-- The calls by what a check keeps give what the book gives.
use mathlib.Core.Path.{◌≡◌, refl, ap, ap₂, sym, ◌∙◌, subst}
use mathlib.Core.List.{List, [], ◌∷◌, ◌++◌, append-nil}
use mathlib.Core.Bool.{Bool, true, false, ◌&&◌, ◌||◌, not, true≢false, false≢true, and-true, and-false}
use Prim.Native.Nat.{ℕ, suc, ◌+◌, ◌≤◌, ◌<◌}
use native.Mathlib.Omega.{arith}
use lib.Dec.{leb, ltb}
use lib.ListN.{length, length-append}
use borrow.Author.Tests.{lt-ltb}
use Rattle.std.specs.Prelude.{if◌then◌else◌, Result, Ok, Err, Option, None, Some}
use Rattle.octets.specs.Octets.{Octets, lower, same_text, trim}
use Rattle.octets.specs.Refusing.{◌>>=◌, OrRefused, ok, not_ok, refusal, refuse_if, or_refuse}
use Rattle.octets.proofs.RefusingLaws.{refuse_if_ok, or_refuse_ok}
use Rattle.octets.proofs.TextLaws.{flag_unset, lower_lower}
use Rattle.lookup.specs.Lookup.{Name, Answers, names, find, member, list, Standing, needs, has, run_over}
use Rattle.lookup.proofs.RunLaws.{find_not_member, names_append, needs_injective, has≢needs}
use Rattle.domain.specs.Domain.{without_dot, is_domain}
use Rattle.txt.specs.declared.Status.{Status}
use Rattle.txt.specs.Answers.{Answer, lookup_error, answer_of, texts, reply, scratch_after}
use Rattle.txt.specs.Taking.{taken, left_after}
use Rattle.asking.specs.Asking.{Back, verdict, accepted, refused, Given, given, Asking, begun, with_asked, kept, standing, now_asked, asked_names, count, next_by as book_next_by, next_step, take_texts, take_asked, take, result_by, result_of, replies}
use Rattle.asking.specs.Claims.{AskingClaims, AskingClaimed}
use Rattle.asking.proofs.AskingLaws.{held, asking_claimed}
use Rattle.asking.proofs.Completing.{completed, completes}
use Rattle.asking.proofs.ReplyLaws.{replies_append}
use Rattle.address.specs.declared.Agreement.{Agreement}
use Rattle.address.specs.Address.{host_in, is_mailto, host_of, after_last, confirmation, confirming_name, check}
use Rattle.address.specs.Checks.{CheckCall, start, next, result, answer, Pair, check_started, CheckBook, nothing_started, check_lookups, start_by as book_start_by, with_run, next_of, result_in, check_call}
use Rattle.address.proofs.NameLaws.{check_16, names_of_check}
use Rattle.address.proofs.CheckLaws.{Kept, kept_call}
use Rattle.address_check.specs.declared.Check.{Check}
use Rattle.address_check.specs.code.Cursor.{Cursor, on_policy, on_host, on_confirming, settled, begin_on, answered_on, stands, is_walk}
use Rattle.address_check.specs.code.Machine.{Keeps, keeps_nothing, keeps_started, count_of, start_by, now_asking, next_by, next_at, walking, confirming, keeping_at, keeping, answer_taken, has_room, answer_at, outcome_by, outcome_at, result_back, machine_call}
use Rattle.address_check.specs.code.View.{view_by, view}
use Rattle.address_check.specs.code.Showing.{KeptCursor, is_settled, Shows}
use Rattle.address_check.proofs.CursorLaws.{begins, right, still_lacks, answers_confirming, answers_walk}
use Rattle.txt.specs.declared.Reply.{Reply}
use Rattle.octets.specs.declared.Refusal.{Refusal}
use Rattle.std.proofs.lemmas.Option.{none-some, same_Some}

-- what one call leaves and gives
unfoldable pub Same : Keeps × Given Agreement → CheckBook × Given Agreement → Type 0
Same x y = Shows x.0 y.0 × (x.1 ≡ y.1)

-- ------------------------------------------------------------------ start

-- a host is in lower case
host_lowered : (o : Option Octets) (h : Octets) → host_in o ≡ Some h → lower h ≡ h
unfolding host_in
host_lowered None h e = absurd (none-some h e)
host_lowered (Some s) h e = go (is_domain (without_dot s)) e
  where
    go : (b : Bool) → (if b then Some (lower (without_dot s)) else None) ≡ Some h → lower h ≡ h
    go true f = rw (← (same_Some (lower (without_dot s)) h f)) (lower_lower (without_dot s))
    go false f = absurd (none-some h f)

entry_lowered : (entry h : Octets) → host_of entry ≡ Some h → lower h ≡ h
unfolding host_of
entry_lowered entry h e = go (is_mailto (trim entry)) e
  where
    go : (b : Bool) → (if b then host_in (after_last 64 (trim entry)) else None) ≡ Some h → lower h ≡ h
    go true f = host_lowered (after_last 64 (trim entry)) h f
    go false f = absurd (none-some h f)

started_lowered : (policy entry : Octets) (c : Pair) → check_started policy entry ≡ ok c → lower c.host ≡ c.host
unfolding check_started
started_lowered policy entry c e =
    let (x, f) = refuse_if_ok _ _ _ c e in
    let (h, (g, k)) = or_refuse_ok (host_of entry) (refusal 23 0) _ c f in
    let same_host : h ≡ c.host = cc in
    subst (λ d. lower d ≡ d) same_host (entry_lowered entry h g)

pub shows_started : (policy entry : Octets) (c : Pair) → check_started policy entry ≡ ok c → Shows (keeps_started c) (record { pair = Some c; run = begun })
unfolding keeps_started begun count_of names replies
shows_started policy entry c e = record {
  pair = refl;
  asked = refl;
  counted = refl;
  same_replies = λ f. refl;
  at_its_end = λ f. absurd (false≢true f);
  kept = λ d f. subst (λ x. KeptCursor [] x (begin_on [] c)) (same_Some c d f) (unfold find in begins [] c refl);
  stands_at = λ d f n g. absurd (none-some n g);
  lowered = λ d f. subst (λ x. lower x.host ≡ x.host) (same_Some c d f) (started_lowered policy entry c e);
}

pub shows_nothing : (e : Check) → e.started ≡ 0 → Shows (view e) nothing_started
unfolding view view_by keeps_nothing nothing_started begun count_of names replies
shows_nothing e z = rw (flag_unset e.started z) (record {
  pair = refl;
  asked = refl;
  counted = refl;
  same_replies = λ f. refl;
  at_its_end = λ f. absurd (false≢true f);
  kept = λ d f. absurd (none-some d f);
  stands_at = λ d f n g. absurd (none-some d f);
  lowered = λ d f. absurd (none-some d f);
})

-- ------------------------------------------------------------------ one call

module _ (k : Keeps) (b : CheckBook) (s : Shows k b) (κ : Kept b) where
  start_simulates : (policy entry : Octets) (r : OrRefused Pair) → check_started policy entry ≡ r → Same (start_by k r) (book_start_by b r)
  unfolding Same start_by book_start_by
  start_simulates policy entry (ok c) e = (shows_started policy entry c e, refl)
  start_simulates policy entry (not_ok f) e = (s, refl)

  replies_few : length k.replies ≤ count_of k
  unfolding count_of
  replies_few = omega arith

  module _ (c : Pair) (e : b.pair ≡ Some c) where
    claims : AskingClaims (check_lookups c) b.run
    unfolding AskingClaimed
    claims = asking_claimed Answer Agreement (check_lookups c) b.run (κ.reached c e)

    some_answers : Name → Answer
    some_answers = completed b.run.taken (λ n. lookup_error)

    -- the book stands where the check stands
    stands_here : standing (check_lookups c) b.run ≡ stands c k.at
    unfolding standing
    stands_here = right b.run.taken c k.at (s.kept c e)

    count_shown : (a : Agreement) → standing (check_lookups c) b.run ≡ has a → count_of k ≡ count b.run
    unfolding some_answers
    count_shown a f =
        let all = completes b.run.taken (λ n. lookup_error) in
        s.counted ∙ ap length (claims.answered a f some_answers all) ∙ sym (claims.counted a f some_answers all)

    most : length (list some_answers (check_lookups c)) ≤ 17
    unfolding check_lookups
    most = (names_of_check c.policy c.host some_answers).at_most_17

    abbrev c_name : Name
    c_name = confirming_name c.policy c.host

    -- on a walk there is room for one reply more: no name answered or asked so far is the confirming one, and without it there are 16 at the most
    walk_room : (n : Name) → b.run.asked ≡ Some n → is_walk k.at ≡ true → length (names b.run.taken) < 16
    unfolding some_answers asked_names now_asked check_lookups names
    walk_room n f w = let (rest, g) = claims.until_then some_answers (completes b.run.taken (λ m. lookup_error)) in go rest g
      where
        asked_so : asked_names b.run ≡ names (b.run.taken ++ ((n, lookup_error) ∷ []))
        asked_so = ap (λ o. names b.run.taken ++ now_asked o) f ∙ sym (names_append b.run.taken ((n, lookup_error) ∷ []))

        lacks_it : member c_name (asked_names b.run) ≡ false
        lacks_it = ap (member c_name) asked_so ∙ find_not_member (b.run.taken ++ ((n, lookup_error) ∷ [])) c_name (still_lacks b.run.taken c n lookup_error k.at (s.kept c e) w (s.stands_at c e n f))

        one_more : length (asked_names b.run) ≡ length (names b.run.taken) + 1
        one_more = ap (λ o. length (names b.run.taken ++ now_asked o)) f ∙ length-append (names b.run.taken) (n ∷ [])

        go : (rest : List Name) → list some_answers (check_lookups c) ≡ asked_names b.run ++ rest → length (names b.run.taken) < 16
        go [] g =
            let whole : list some_answers (check_lookups c) ≡ asked_names b.run = g ∙ append-nil (asked_names b.run) in
            omega (arith, ap length whole, one_more, check_16 c.policy c.host some_answers (ap (member c_name) whole ∙ lacks_it))
        go (x ∷ rest) g = omega (arith, ap length g, length-append (asked_names b.run) (x ∷ rest), one_more, most)

    -- there is room for an answer
    room_shown : (n : Name) → b.run.asked ≡ Some n → has_room k ≡ true
    unfolding has_room
    room_shown n f = go (is_walk k.at) refl
      where
        go : (w : Bool) → is_walk k.at ≡ w → (not w || ltb (length k.replies) 16) ≡ true
        go false g = refl
        go true g = lt-ltb (length k.replies) 16 (omega (arith, walk_room n f g, s.counted, replies_few))

    step_simulates : (u : Standing Agreement) → standing (check_lookups c) b.run ≡ u → Same (next_by k u) (with_run b (book_next_by b.run u))
    unfolding Same next_by now_asking with_run book_next_by with_asked count_of
    step_simulates (needs n) f = (
      record {
        pair = s.pair;
        asked = refl;
        counted = s.counted;
        same_replies = s.same_replies;
        at_its_end = s.at_its_end;
        kept = s.kept;
        stands_at = λ d g m h. subst (λ x. stands x k.at ≡ needs m) (same_Some c d (sym e ∙ g)) (sym stands_here ∙ f ∙ ap needs (same_Some n m h));
        lowered = s.lowered;
      },
      refl,
    )
    step_simulates (has a) f = (s, ap (λ i. given (verdict a i) []) (unfold count_of in count_shown a f))

    result_simulates : (u : Standing Agreement) → standing (check_lookups c) b.run ≡ u → given (result_back (count_of k) (outcome_by u)) [] ≡ result_by b.run u
    unfolding result_back outcome_by result_by
    result_simulates (needs n) f = refl
    result_simulates (has a) f = ap (λ i. given (verdict a i) []) (count_shown a f)

    -- ---------------------------------------------------------------- an answer is kept for the name now asked

    module _ (n : Name) (a : Answer) (f : b.run.asked ≡ Some n) where
      not_confirmed : is_settled k.at ≡ false → k.confirmed ≡ false
      not_confirmed g = go k.confirmed refl
        where
          go : (t : Bool) → k.confirmed ≡ t → t ≡ false
          go false h = refl
          go true h = absurd (true≢false (sym (s.at_its_end h) ∙ g))

      one_more : length (names (kept b.run n a).taken) ≡ length (names b.run.taken) + 1
      unfolding kept names
      one_more = rw (names_append b.run.taken ((n, a) ∷ []), length-append)

      walk_counted : count_of (walking k c n (reply a)) ≡ length (names (kept b.run n a).taken)
      unfolding count_of walking
      walk_counted =
          let so_far : length k.replies + (if k.confirmed then 1 else 0) ≡ length (names b.run.taken) = s.counted in
          omega (arith, one_more, so_far, length-append k.replies ((n, reply a) ∷ []))

      walk_kept : is_settled k.at ≡ false → is_walk k.at ≡ true → Shows (walking k c n (reply a)) (record { pair = b.pair; run = kept b.run n a })
      unfolding walking kept
      walk_kept g w =
          let open_so : k.confirmed ≡ false = not_confirmed g in
          let now : k.replies ++ ((n, reply a) ∷ []) ≡ replies (b.run.taken ++ ((n, a) ∷ [])) = ap (λ l. l ++ ((n, reply a) ∷ [])) (s.same_replies open_so) ∙ unfold replies in sym (replies_append b.run.taken ((n, a) ∷ [])) in
          record {
            pair = s.pair;
            asked = refl;
            counted = walk_counted;
            same_replies = λ h. now;
            at_its_end = λ h. absurd (false≢true (sym open_so ∙ h));
            kept = λ d h. subst (λ x. KeptCursor (b.run.taken ++ ((n, a) ∷ [])) x (answered_on (k.replies ++ ((n, reply a) ∷ [])) c k.at (reply a))) (same_Some c d (sym e ∙ h))
                (subst (λ l. KeptCursor (b.run.taken ++ ((n, a) ∷ [])) c (answered_on l c k.at (reply a))) (sym now) (answers_walk b.run.taken c n a k.at (s.kept c e) w (s.stands_at c e n f)));
            stands_at = λ d h m i. absurd (none-some m i);
            lowered = s.lowered;
          }

      confirming_counted : k.confirmed ≡ false → count_of (confirming k c a) ≡ length (names (kept b.run n a).taken)
      unfolding count_of confirming
      confirming_counted g =
          let so_far : length k.replies + (if k.confirmed then 1 else 0) ≡ length (names b.run.taken) = s.counted in
          omega (arith, one_more, rw g at so_far)

      confirming_kept : k.at ≡ on_confirming → Shows (confirming k c a) (record { pair = b.pair; run = kept b.run n a })
      unfolding confirming kept is_settled stands
      confirming_kept g = record {
        pair = s.pair;
        asked = refl;
        counted = confirming_counted (not_confirmed (ap is_settled g));
        same_replies = λ h. absurd (true≢false h);
        at_its_end = λ h. refl;
        kept = λ d h. subst (λ x. KeptCursor (b.run.taken ++ ((n, a) ∷ [])) x (settled (confirmation (lower c.host) a))) (same_Some c d (sym e ∙ h))
            (subst (λ l. KeptCursor (b.run.taken ++ ((n, a) ∷ [])) c (settled (confirmation l a))) (sym (s.lowered c e))
            (answers_confirming b.run.taken c n a (subst (KeptCursor b.run.taken c) g (s.kept c e)) (sym (needs_injective _ n (ap (stands c) (sym g) ∙ s.stands_at c e n f)))));
        stands_at = λ d h m i. absurd (none-some m i);
        lowered = s.lowered;
      }

      keep_simulates : (x : Cursor) → k.at ≡ x → Shows (keeping_at k c n a (reply a) x) (record { pair = b.pair; run = kept b.run n a })
      unfolding keeping_at is_settled is_walk stands
      keep_simulates (on_policy q) g = walk_kept (ap is_settled g) (ap is_walk g)
      keep_simulates (on_host o q) g = walk_kept (ap is_settled g) (ap is_walk g)
      keep_simulates on_confirming g = confirming_kept g
      keep_simulates (settled x) g = absurd (has≢needs (ap (stands c) (sym g) ∙ s.stands_at c e n f))

      keeping_shown : Shows (keeping k k.pair n a (reply a)) (record { pair = b.pair; run = kept b.run n a })
      unfolding keeping
      keeping_shown = subst (λ o. Shows (keeping k o n a (reply a)) (record { pair = b.pair; run = kept b.run n a })) (sym (s.pair ∙ e)) (keep_simulates k.at refl)

      taken_simulates : (scratch : Octets) → Same (answer_taken k n a (left_after a scratch) (taken a scratch)) (with_run b (take_texts b.run n a scratch (texts a)))
      unfolding Same taken left_after take_texts with_run answer_taken
      taken_simulates scratch = go (texts a)
        where
          go : (o : Option (List Octets)) → Same
              (answer_taken k n a (elim o as (λ _. Octets) [ None ↦ scratch | Some ts ↦ if leb 4096 (length scratch) then scratch_after ts scratch else scratch ])
              (elim o as (λ _. (Result Reply Refusal)) [ None ↦ Err (refusal 6 0) | Some ts ↦ if leb 4096 (length scratch) then Ok (reply a) else Err (refusal 10 4096) ]))
              (with_run b (take_texts b.run n a scratch o))
          go None = (s, refl)
          go (Some ts) = fit (leb 4096 (length scratch))
            where
              fit : (t : Bool) → Same
                  (answer_taken k n a (if t then scratch_after ts scratch else scratch) (if t then Ok (reply a) else Err (refusal 10 4096)))
                  (with_run b (if t then (kept b.run n a, given accepted (scratch_after ts scratch)) else (b.run, given (refused (refusal 10 4096)) scratch)))
              fit true = (keeping_shown, refl)
              fit false = (s, refl)

      answer_named : (name scratch : Octets) → Same (answer_at k name a scratch (Some n)) (with_run b (take_asked b.run name a a scratch (Some n)))
      unfolding Same answer_at take_asked with_run
      answer_named name scratch = rw (room_shown n f, and-true (same_text (without_dot name) n)) (go (same_text (without_dot name) n))
        where
          go : (t : Bool) → Same
              (if t then answer_taken k n a (left_after a scratch) (taken a scratch) else (k, given (refused (refusal 5 0)) scratch))
              (with_run b (if t then take_texts b.run n a scratch (texts a) else (b.run, given (refused (refusal 5 0)) scratch)))
          go true = taken_simulates scratch
          go false = (s, refl)

  -- something was started where a name is asked
  started_pair : (n : Name) → b.run.asked ≡ Some n → (o : Option Pair) → b.pair ≡ o → (c : Pair) × (b.pair ≡ Some c)
  unfolding begun
  started_pair n f None e = absurd (none-some n (sym (ap (λ (r : Asking Answer). r.asked) (κ.unstarted e)) ∙ f))
  started_pair n f (Some c) e = (c, e)

  answer_simulates : (name : Octets) (a : Answer) (scratch : Octets) (o : Option Name) → b.run.asked ≡ o → Same (answer_at k name a scratch o) (with_run b (take_asked b.run name a a scratch o))
  answer_simulates name a scratch None f = unfold Same answer_at take_asked with_run in (s, refl)
  answer_simulates name a scratch (Some n) f = let (c, e) = started_pair n f b.pair refl in answer_named c e n a f name scratch

  next_simulates : (o : Option Pair) → b.pair ≡ o → Same (next_at k o) (next_of b o)
  next_simulates None e = unfold Same next_at next_of in (s, refl)
  next_simulates (Some c) e = unfold next_at next_of next_step in rw (← stands_here c e) (step_simulates c e (standing (check_lookups c) b.run) refl)

  outcome_simulates : (o : Option Pair) → b.pair ≡ o → given (result_back (count_of k) (outcome_at o k.at)) [] ≡ result_in b o
  unfolding outcome_at result_in result_back result_of
  outcome_simulates None e = refl
  outcome_simulates (Some c) e = rw (← stands_here c e) (result_simulates c e (standing (check_lookups c) b.run) refl)

  pub simulates : (x : CheckCall) → Same (machine_call k x) (check_call b x)
  unfolding machine_call check_call
  simulates (start policy entry) = start_simulates policy entry (check_started policy entry) refl
  simulates next = subst (λ o. Same (next_at k o) (next_of b b.pair)) (sym s.pair) (next_simulates b.pair refl)
  simulates (answer name status bytes scratch) =
      unfold take in subst (λ o. Same (answer_at k name (answer_of status bytes) scratch o) (with_run b (take_asked b.run name (answer_of status bytes) (answer_of status bytes) scratch b.run.asked))) (sym s.asked)
      (answer_simulates name (answer_of status bytes) scratch b.run.asked refl)
  simulates result = unfold Same in (s, ap (λ o. given (result_back (count_of k) (outcome_at o k.at)) []) s.pair ∙ outcome_simulates b.pair refl)
