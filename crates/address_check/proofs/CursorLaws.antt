-- A check's cursor moves from name to name.
use mathlib.Core.Path.{◌≡◌, refl, ap, sym, ◌∙◌, subst}
use mathlib.Core.List.{List, [], ◌∷◌, ◌++◌, map-append}
use mathlib.Core.Bool.{Bool, true, false, false≢true, true≢false}
use Prim.Native.Nat.{◌+◌, ◌<◌, ◌≤◌}
use native.Mathlib.Omega.{arith}
use lib.Dec.{leb}
use lib.ListN.{length, drop, length-drop}
use Rattle.std.specs.Prelude.{if◌then◌else◌, Option, None, Some, option_map}
use Rattle.octets.specs.Octets.{same}
use Rattle.lookup.specs.Lookup.{Name, Lookups, done, ask, reading, ◌>>=◌, Answers, find, needs, has, run, run_over}
use Rattle.lookup.specs.code.Following.{Follows}
use Rattle.lookup.proofs.RunLaws.{run_same, run_bind, onward, needs_injective, has≢needs}
use Rattle.lookup.proofs.ReadingLaws.{run_reading}
use Rattle.lookup.proofs.FollowLaws.{follows_self, follows_same, follows_on, follows_more, follows_run, follows_needs, follows_new, follows_bind}
use Rattle.domain.specs.Domain.{Domain, begin_of, targets, asked_name}
use Rattle.txt.specs.declared.Reply.{Reply}
use Rattle.txt.specs.Answers.{Answer, reply}
use Rattle.walk.specs.Walk.{organizational_domain}
use Rattle.walk_progress.specs.code.Summary.{Summary, summarized}
use Rattle.walk_progress.specs.code.Progress.{ended, left_of, not_begun, KeptWalk, IsEnd, InPlaces, AllEnds, LastIsEnd}
use Rattle.walk_progress.specs.code.Reaching.{Pause, Reached, pauses, over, reach, reach_after, progress_of, KeptReached}
use Rattle.walk_progress.proofs.SummaryLaws.{organization_run}
use Rattle.walk_progress.proofs.ReachingLaws.{reaching_claims}
use Rattle.asking.specs.Asking.{replies}
use Rattle.asking.proofs.ReplyLaws.{replies_append, run_replies}
use Rattle.address.specs.declared.Agreement.{Agreement}
use Rattle.address.specs.Address.{confirmation, confirming_name, confirm, organization, by_host, by_policy, check}
use Rattle.address.specs.Checks.{Pair, check_lookups}
use Rattle.address.proofs.NameLaws.{other_name, long_name}
use Rattle.address_check.specs.code.Cursor.{Cursor, on_policy, on_host, on_confirming, settled, confirm_on, host_reached, policy_reached, begin_on, answered_on, stands, is_walk}
use Rattle.address_check.specs.code.Showing.{left, Waits, is_settled, KeptCursor}

-- ------------------------------------------------------------------ answers, read

find_other : (β : Answers Answer) (c n : Name) (a : Answer) → find β c ≡ None → same c n ≡ false → find (β ++ ((n, a) ∷ [])) c ≡ None
unfolding find
find_other [] c n a e f = rw f
find_other (p ∷ β) c n a e f =
    (elim (same c p.0) as (λ b. (if b then Some p.1 else find β c) ≡ None → (if b then Some p.1 else find (β ++ ((n, a) ∷ [])) c) ≡ None) [
      | true ↦ λ h. h
      | false ↦ λ h. find_other β c n a h f
    ]) e

-- ------------------------------------------------------------------ the walks of 01, over answers

module _ (β : Answers Answer) (d : Domain) where
  -- a walk that has ended, in place of the walk
  organizes : (w : Option Summary) → KeptWalk (replies β) d (ended w) → Follows β (organization d) (done (option_map (λ o. o.organization) w))
  unfolding organization run_over left_of run onward
  organizes w k = record {
    runs = λ γ.
        run_replies (β ++ γ) (organizational_domain d)
        ∙ ap (λ δ. run_over δ (organizational_domain d)) (replies_append β γ)
        ∙ organization_run (find (replies β ++ replies γ)) d
        ∙ ap (λ u. onward u (λ o. has (option_map (λ s. s.organization) o))) (k.follows.runs (replies γ));
  }

  -- one that waits at a name
  waits_at : {B : Type 0} (f : Option Domain → Lookups Answer B) (n : Name) → run_over (replies β) (summarized d) ≡ needs n → run_over β (organization d >>= f) ≡ needs n
  unfolding organization run_over onward
  waits_at f n e =
      run_bind (find β) (reading reply (organizational_domain d)) f
      ∙ ap (λ u. onward u (λ a. run (find β) (f a)))
      (run_replies β (organizational_domain d) ∙ organization_run (find (replies β)) d ∙ ap (λ u. onward u (λ o. has (option_map (λ s. s.organization) o))) e)

  -- from its start
  whole_walk : KeptReached (replies β) d (reach (replies β) d None (targets d))
  unfolding not_begun
  whole_walk = (reaching_claims (replies β) d).reaches None (targets d) (reaching_claims (replies β) d).begins.0 (reaching_claims (replies β) d).begins.1

-- a target is no longer than the domain of its walk
target_short : (β : Answers Reply) (d : Domain) (q : Pause) → KeptReached β d (pauses q) → length q.target ≤ length d
unfolding progress_of InPlaces AllEnds IsEnd
target_short β d q k = let e = k.places.1.0 in omega (arith, ap length e, length-drop (begin_of q.target d) d)

-- ------------------------------------------------------------------ from name to name

module _ (β : Answers Answer) (c : Pair) where
  module _ (open_name : find β (confirming_name c.policy c.host) ≡ None) where
    confirms : Follows β (check_lookups c) (confirm c.policy c.host) → KeptCursor β c (confirm_on (replies β) c)
    unfolding confirm_on
    confirms f = go (leb (length (confirming_name c.policy c.host)) 253) refl
      where
        go : (b : Bool) → leb (length (confirming_name c.policy c.host)) 253 ≡ b → KeptCursor β c (if b then on_confirming else settled Agreement.PlainNo)
        go true e = record { follows = unfold left in f; waits = unfold Waits in e; lacks = λ x. open_name }
        go false e = record { follows = follows_on f (follows_same (unfold left confirm in rw e)); waits = unfold Waits in tt; lacks = λ x. open_name }

    host_moves : (o : Domain) → Follows β (check_lookups c) (organization c.host >>= by_host c.policy c.host o) → (w : Reached) → KeptReached (replies β) c.host w → KeptCursor β c (host_reached (replies β) c o w)
    unfolding host_reached
    host_moves o f (pauses q) k = record { follows = unfold left in f; waits = unfold Waits in k; lacks = λ x. open_name }
    host_moves o f (over None) k =
        record { follows = unfold left by_host ◌>>=◌ in follows_on f (follows_bind (organizes β c.host None (unfold progress_of in k.walk)) (λ a. follows_self _)); waits = unfold Waits in tt; lacks = λ x. open_name }
    host_moves o f (over (Some s)) k = go (same s.organization o) refl (follows_on f (unfold ◌>>=◌ in follows_bind (organizes β c.host (Some s) (unfold progress_of in k.walk)) (λ a. follows_self _)))
      where
        go : (b : Bool) → same s.organization o ≡ b → Follows β (check_lookups c) (by_host c.policy c.host o (Some s.organization))
            → KeptCursor β c (if b then settled Agreement.Inside else confirm_on (replies β) c)
        go true e g = record { follows = follows_on g (follows_same (unfold left by_host in rw e)); waits = unfold Waits in tt; lacks = λ x. open_name }
        go false e g = confirms (follows_on g (follows_same (unfold by_host in rw e)))

    policy_moves : Follows β (check_lookups c) (organization c.policy >>= by_policy c.policy c.host) → (w : Reached) → KeptReached (replies β) c.policy w → KeptCursor β c (policy_reached (replies β) c w)
    unfolding policy_reached
    policy_moves f (pauses q) k = record { follows = unfold left in f; waits = unfold Waits in k; lacks = λ x. open_name }
    policy_moves f (over None) k =
        record { follows = unfold left by_policy ◌>>=◌ in follows_on f (follows_bind (organizes β c.policy None (unfold progress_of in k.walk)) (λ a. follows_self _)); waits = unfold Waits in tt; lacks = λ x. open_name }
    policy_moves f (over (Some s)) k =
        host_moves s.organization (unfold by_policy ◌>>=◌ in follows_on f (follows_bind (organizes β c.policy (Some s) (unfold progress_of in k.walk)) (λ a. follows_self _))) _ (whole_walk β c.host)

    pub begins : KeptCursor β c (begin_on (replies β) c)
    unfolding begin_on
    begins = go (same c.host c.policy) refl
      where
        go : (b : Bool) → same c.host c.policy ≡ b → KeptCursor β c (if b then settled Agreement.Inside else policy_reached (replies β) c (reach (replies β) c.policy None (targets c.policy)))
        go true e = record { follows = follows_same (unfold check_lookups check left in rw e); waits = unfold Waits in tt; lacks = λ x. open_name }
        go false e = policy_moves (follows_same (unfold check_lookups check in rw e)) _ (whole_walk β c.policy)

  -- ---------------------------------------------------------------- where it stands

  pub right : (x : Cursor) → KeptCursor β c x → run_over β (check_lookups c) ≡ stands c x
  unfolding stands left Waits run_over run is_settled
  right (on_policy q) k = follows_run k.follows ∙ waits_at β c.policy (by_policy c.policy c.host) _ ((reaching_claims (replies β) c.policy).asks q k.waits)
  right (on_host o q) k = follows_run k.follows ∙ waits_at β c.host (by_host c.policy c.host o) _ ((reaching_claims (replies β) c.host).asks q k.waits)
  right on_confirming k = follows_needs {k = λ a. done (confirmation c.host a)} (follows_on k.follows (follows_same (unfold confirm ◌>>=◌ in rw k.waits))) (k.lacks refl)
  right (settled a) k = follows_run k.follows

  -- ---------------------------------------------------------------- an answer

  module _ (n : Name) (a : Answer) where
    more : replies (β ++ ((n, a) ∷ [])) ≡ replies β ++ ((n, reply a) ∷ [])
    unfolding replies
    more = replies_append β ((n, a) ∷ [])

    -- the name of a target is not the confirming one
    still_open : find β (confirming_name c.policy c.host) ≡ None → (t : Domain) → n ≡ asked_name t → 7 + length t < length (confirming_name c.policy c.host)
        → find (β ++ ((n, a) ∷ [])) (confirming_name c.policy c.host) ≡ None
    still_open e t f l = find_other β (confirming_name c.policy c.host) n a e (ap (same (confirming_name c.policy c.host)) f ∙ other_name (confirming_name c.policy c.host) t l)

-- the answer that it waited for moves it on
module _ (β : Answers Answer) (c : Pair) (n : Name) (a : Answer) where
  abbrev after : Answers Answer
  after = β ++ ((n, a) ∷ [])

  reached : (d : Domain) (q : Pause) → KeptReached (replies β) d (pauses q) → n ≡ asked_name q.target → KeptReached (replies after) d (reach_after (replies after) d q (reply a))
  reached d q k f =
      subst (λ δ. KeptReached δ d (reach_after δ d q (reply a))) (ap (λ m. replies β ++ ((m, reply a) ∷ [])) (sym f) ∙ sym (more β c n a)) ((reaching_claims (replies β) d).answers q k (reply a))

  -- and the confirming name goes on to have no answer
  pub still_lacks : (x : Cursor) → KeptCursor β c x → is_walk x ≡ true → stands c x ≡ needs n → find after (confirming_name c.policy c.host) ≡ None
  unfolding is_walk stands is_settled Waits
  still_lacks (on_policy q) k w e =
      still_open β c n a (k.lacks refl) q.target (sym (needs_injective (asked_name q.target) n e)) (omega (arith, target_short (replies β) c.policy q k.waits, long_name c.policy c.host))
  still_lacks (on_host o q) k w e =
      still_open β c n a (k.lacks refl) q.target (sym (needs_injective (asked_name q.target) n e)) (omega (arith, target_short (replies β) c.host q k.waits, long_name c.policy c.host))
  still_lacks on_confirming k w e = absurd (false≢true w)
  still_lacks (settled g) k w e = absurd (false≢true w)

  answers_policy : (q : Pause) → KeptCursor β c (on_policy q) → n ≡ asked_name q.target → KeptCursor after c (policy_reached (replies after) c (reach_after (replies after) c.policy q (reply a)))
  unfolding left Waits is_walk stands
  answers_policy q k f =
      policy_moves after c (still_lacks (on_policy q) k refl (ap needs (sym f)))
      (follows_more k.follows ((n, a) ∷ [])) _ (reached c.policy q k.waits f)

  answers_host : (o : Domain) (q : Pause) → KeptCursor β c (on_host o q) → n ≡ asked_name q.target → KeptCursor after c (host_reached (replies after) c o (reach_after (replies after) c.host q (reply a)))
  unfolding left Waits is_walk stands
  answers_host o q k f =
      host_moves after c (still_lacks (on_host o q) k refl (ap needs (sym f)))
      o (follows_more k.follows ((n, a) ∷ [])) _ (reached c.host q k.waits f)

  pub answers_confirming : KeptCursor β c on_confirming → n ≡ confirming_name c.policy c.host → KeptCursor after c (settled (confirmation c.host a))
  unfolding left Waits is_settled
  answers_confirming k f = record {
    follows = subst (λ m. Follows (β ++ ((m, a) ∷ [])) (check_lookups c) (done (confirmation c.host a))) (sym f)
        (follows_new {n = confirming_name c.policy c.host} {k = λ x. done (confirmation c.host x)} (follows_on k.follows (follows_same (unfold confirm ◌>>=◌ in rw k.waits))) (k.lacks refl) a);
    waits = tt;
    lacks = λ e. absurd (true≢false e);
  }

  -- on a walk
  pub answers_walk : (x : Cursor) → KeptCursor β c x → is_walk x ≡ true → stands c x ≡ needs n → KeptCursor after c (answered_on (replies after) c x (reply a))
  unfolding is_walk stands answered_on
  answers_walk (on_policy q) k w e = answers_policy q k (sym (needs_injective (asked_name q.target) n e))
  answers_walk (on_host o q) k w e = answers_host o q k (sym (needs_injective (asked_name q.target) n e))
  answers_walk on_confirming k w e = absurd (false≢true w)
  answers_walk (settled g) k w e = absurd (false≢true w)
