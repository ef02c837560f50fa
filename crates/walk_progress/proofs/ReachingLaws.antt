-- A walk goes as far as the answers taken let it.
use Rattle.std.specs.Prelude.{Option, None, Some, option_map}
use mathlib.Core.Path.{◌≡◌, refl, ap, sym, ◌∙◌, subst}
use mathlib.Core.List.{List, [], ◌∷◌, ◌++◌, append-nil}
use mathlib.Core.Bool.{Bool, true, false}
use Rattle.lookup.specs.Lookup.{Lookups, done, ask, Answers, find, Standing, needs, has, run, run_over}
use Rattle.lookup.proofs.RunLaws.{find_append, run_known, run_open, onward, has≢needs}
use Rattle.domain.specs.Domain.{Domain, can_ask, asked_name, targets}
use Rattle.policy.specs.declared.Psd.{Psd}
use Rattle.policy.specs.declared.Settings.{Settings}
use Rattle.txt.specs.declared.Reply.{Reply}
use Rattle.walk.specs.Walk.{Found, found, organizational_domain}
use Rattle.walk_progress.specs.code.Stored.{Stored, stored_domain, stored_by, stored_now}
use Rattle.walk_progress.specs.code.Summary.{Summary}
use Rattle.walk_progress.specs.code.Turns.{one_more, suffix_summary}
use Rattle.walk_progress.specs.code.Progress.{open_walk, ended, KeptWalk, turned_by, turned, stored_in, IsEnd, InPlaces}
use Rattle.walk_progress.specs.code.Reaching.{Pause, pause, pauses, over, Reached, reach_found, reach_by, reach, reach_after, later_targets, progress_of, Waits, KeptReached}
use Rattle.walk_progress.specs.code.ReachingClaims.{ReachingClaims}
use Rattle.walk_progress.proofs.ProgressLaws.{kept_begins, kept_known, kept_skipped, kept_asks, kept_answered, kept_ends, kept_organization, begins_in_places, last_in_places, turned_places}
use Rattle.walk_progress.proofs.SummaryLaws.{organization_run}
use Rattle.std.proofs.lemmas.Option.{none-some}

-- a run that has its value keeps it, whatever more is answered
run_stays : {A : Type 0} (β γ : Answers Reply) (t : Lookups Reply A) (a : A) → run_over β t ≡ has a → run_over (β ++ γ) t ≡ has a
unfolding run_over
run_stays β γ (done x) a e = unfold run in e
run_stays β γ (ask n k) a e = go (λ r. run_stays β γ (k r) a) (find β n) refl
  where
    go : ((r : Reply) → run (find β) (k r) ≡ has a → run (find (β ++ γ)) (k r) ≡ has a) → (o : Option Reply) → find β n ≡ o → run (find (β ++ γ)) (ask n k) ≡ has a
    go ih None f = absurd (has≢needs (sym e ∙ run_open (find β) n k f))
    go ih (Some r) f = run_known (find (β ++ γ)) n k r (find_append β γ n r f) ∙ ih r (sym (run_known (find β) n k r f) ∙ e)

module _ (β : Answers Reply) (d : Domain) where
  -- targets from which a walk can go on, whatever the last record
  Reaches : List Domain → Type 0
  Reaches ts = (last : Option Found) → KeptWalk β d (open_walk last ts) → InPlaces d (open_walk last ts) → KeptReached β d (reach β d last ts)

  module _ (ts : List Domain) (on : Reaches ts) (last : Option Found) (t : Domain) where
    reaches_found : (s : Settings) (p : Psd) → KeptWalk β d (turned_by d last (found t s) ts p) → InPlaces d (turned_by d last (found t s) ts p)
        → KeptReached β d (reach_found d last (found t s) (one_more d t) (λ l. reach β d l ts) p)
    unfolding turned_by reach_found suffix_summary progress_of Waits Reaches
    reaches_found s Psd.Yes k i = record { walk = k; places = i; waits = tt }
    reaches_found s Psd.No k i = record { walk = k; places = i; waits = tt }
    reaches_found s Psd.Unset k i = on (Some (found t s)) k i

    reaches_turn : (r : Reply) → KeptWalk β d (turned d last t ts r) → InPlaces d (turned d last t ts r) → KeptReached β d (reach_by d last t (one_more d t) (λ l. reach β d l ts) r)
    unfolding turned reach_by progress_of Waits Reaches
    reaches_turn Reply.Error k i = record { walk = k; places = i; waits = tt }
    reaches_turn Reply.NoRecord k i = on last k i
    reaches_turn (Reply.Record s) k i = reaches_found s s.psd k i

  reaches_all : (ts : List Domain) → Reaches ts
  unfolding Reaches reach progress_of Waits InPlaces
  reaches_all [] last k i = record { walk = kept_ends β d k; places = last_in_places d last i.0; waits = tt }
  reaches_all (t ∷ ts) last k i = go (λ l. reaches_all ts l) (can_ask t) refl
    where
      at_known : Reaches ts → (a : can_ask t ≡ true) (o : Option Reply) → find β (asked_name t) ≡ o
          → KeptReached β d (elim o as (λ _. Reached) [ None ↦ pauses (pause last t (one_more d t) ts) | Some r ↦ reach_by d last t (one_more d t) (λ l. reach β d l ts) r ])
      at_known on a None e = record { walk = k; places = i; waits = record { can = a; lacks = e; wide = refl } }
      at_known on a (Some r) e = reaches_turn ts on last t r (kept_known β d k a r e) (turned_places d last t ts i r)

      go : Reaches ts → (b : Bool) → can_ask t ≡ b
          → KeptReached β d (elim b as (λ _. Reached) [
            | true ↦ elim (find β (asked_name t)) as (λ _. Reached) [ None ↦ pauses (pause last t (one_more d t) ts) | Some r ↦ reach_by d last t (one_more d t) (λ l. reach β d l ts) r ]
            | false ↦ reach β d last ts
          ])
      go on true a = at_known on a (find β (asked_name t)) refl
      go on false a = unfold turned in on last (kept_skipped β d k a) (turned_places d last t ts i Reply.NoRecord)

  -- of a walk that has ended
  ended_now : (s : Option Summary) → KeptWalk β d (ended s) → stored_in d (ended s) ≡ stored_now β d
  unfolding stored_now stored_in stored_by
  ended_now s k = by_summary s ∙ ap (stored_by d) (sym (subst (λ x. run_over x (organizational_domain d) ≡ has (option_map (λ o. o.organization) s)) (append-nil β) (kept_organization β d k [])))
    where
      by_summary : (s : Option Summary) → stored_in d (ended s) ≡ stored_by d (has (option_map (λ o. o.organization) s))
      by_summary None = refl
      by_summary (Some s) = refl

  exactly_of : (w : Reached) → KeptReached β d w → stored_in d (progress_of w) ≡ stored_now β d
  unfolding progress_of Waits
  exactly_of (pauses p) k =
      unfold stored_in stored_now stored_by run_over onward in
      ap (stored_by d) (sym (organization_run (find β) d ∙ ap (λ u. onward u (λ o. has (option_map (λ s. s.organization) o))) (kept_asks β d k.walk k.waits.can k.waits.lacks)))
  exactly_of (over s) k = ended_now s k.walk

  same_of : (s : Option Summary) → InPlaces d (ended s) → stored_domain d (stored_in d (ended s)) ≡ option_map (λ o. o.organization) s
  unfolding stored_domain stored_in InPlaces IsEnd
  same_of None i = refl
  same_of (Some s) i = ap Some (sym i)

  stored_stays : (γ : Answers Reply) (st : Stored) → st ≡ stored_now β d → {o : Domain} → stored_domain d st ≡ Some o → st ≡ stored_now (β ++ γ) d
  unfolding stored_now stored_by stored_domain
  stored_stays γ st e {o} f = go (run_over β (organizational_domain d)) refl e
    where
      go : (u : Standing (Option Domain)) → run_over β (organizational_domain d) ≡ u → st ≡ stored_by d u → st ≡ stored_by d (run_over (β ++ γ) (organizational_domain d))
      go (needs n) g h = absurd (none-some o (sym (ap (stored_domain d) h) ∙ f))
      go (has a) g h = h ∙ ap (stored_by d) (sym (run_stays β γ (organizational_domain d) a g))

answered_reach : (β : Answers Reply) (d : Domain) (p : Pause) → KeptReached β d (pauses p) → (r : Reply)
    → KeptReached (β ++ ((asked_name p.target, r) ∷ [])) d (reach_after (β ++ ((asked_name p.target, r) ∷ [])) d p r)
unfolding reach_after progress_of Waits
answered_reach β d p k r =
    rw k.waits.wide
    (reaches_turn β' d p.more (reaches_all β' d p.more) p.last p.target r
    (kept_answered β d k.walk k.waits.can k.waits.lacks r)
    (turned_places d p.last p.target p.more k.places r))
  where
    β' : Answers Reply
    β' = β ++ ((asked_name p.target, r) ∷ [])

pub reaching_claims : (β : Answers Reply) (d : Domain) → ReachingClaims β d
unfolding Reaches progress_of Waits targets later_targets
reaching_claims β d = record {
  starts = refl;
  begins = (kept_begins β d, begins_in_places d);
  reaches = λ last ts. reaches_all β d ts last;
  turns = λ last t ts r k i. reaches_turn β d ts (reaches_all β d ts) last t r k i;
  answers = answered_reach β d;
  asks = λ p k. kept_asks β d k.walk k.waits.can k.waits.lacks;
  exactly = exactly_of β d;
  same_domain = same_of β d;
  stays = stored_stays β d;
}
