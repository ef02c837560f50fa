-- A walk that is kept goes on by turns.
use mathlib.Core.Path.{◌≡◌, refl, ap, sym, ◌∙◌}
use mathlib.Core.List.{List, [], ◌∷◌, ◌++◌, map}
use mathlib.Core.Bool.{true, false}
use Prim.Native.Nat.{ℕ, ◌+◌, ◌-◌}
use lib.Dec.{ltb}
use lib.ListN.{drop}
use Rattle.std.specs.Prelude.{if◌then◌else◌, option_map, Option, None, Some}
use Rattle.octets.specs.Octets.{same}
use Rattle.lookup.specs.Lookup.{ask, ◌>>=◌, Answers, find, needs, has, run, run_over}
use Rattle.lookup.proofs.RunLaws.{onward}
use Rattle.lookup.proofs.FollowLaws.{follows_same, follows_on, follows_known, follows_needs, follows_new}
use Rattle.domain.specs.Domain.{Domain, label_count, last_labels, begin_of, down_from, can_ask, asked_name, targets}
use Rattle.domain.proofs.DomainLaws.{last_labels_end}
use Rattle.domain.proofs.WalkLaws.{walk_targets}
use Rattle.policy.specs.declared.Psd.{Psd}
use Rattle.policy.specs.declared.Settings.{Settings}
use Rattle.txt.specs.declared.Reply.{Reply}
use Rattle.walk.specs.Walk.{record_at, Found, found, organizational_domain}
use Rattle.walk_progress.specs.code.Summary.{Summary, or_found, summarized}
use Rattle.walk_progress.specs.code.Turns.{if_at, last_summary, one_more, wider_summary, suffix_summary, by_found, by_reply, summarized_from}
use Rattle.walk_progress.specs.code.Progress.{open_walk, ended, not_begun, left_of, KeptWalk, turned_by, turned, IsEnd, LastIsEnd, AllEnds, InPlaces}
use Rattle.walk_progress.proofs.SummaryLaws.{summarized_last, organization_run}

-- ------------------------------------------------------------------ one turn

module _ (d : Domain) (last : Option Found) (t : Domain) (ts : List Domain) where
  turned_left_by : (s : Settings) (p : Psd) → by_found d last (found t s) (λ l. summarized_from d l ts) p ≡ left_of d (turned_by d last (found t s) ts p)
  unfolding by_found turned_by left_of
  turned_left_by s Psd.Yes = refl
  turned_left_by s Psd.No = refl
  turned_left_by s Psd.Unset = refl

  -- what follows a reply is what is left after the turn
  turned_left : (r : Reply) → by_reply d last t (λ l. summarized_from d l ts) r ≡ left_of d (turned d last t ts r)
  unfolding by_reply turned left_of
  turned_left Reply.Error = refl
  turned_left Reply.NoRecord = refl
  turned_left (Reply.Record s) = turned_left_by s s.psd

  next_asked : can_ask t ≡ true → left_of d (open_walk last (t ∷ ts)) ≡ ask (asked_name t) (λ r. by_reply d last t (λ l. summarized_from d l ts) r)
  unfolding left_of summarized_from record_at ◌>>=◌
  next_asked e = rw e

  next_skipped : can_ask t ≡ false → left_of d (open_walk last (t ∷ ts)) ≡ by_reply d last t (λ l. summarized_from d l ts) Reply.NoRecord
  unfolding left_of summarized_from record_at ◌>>=◌
  next_skipped e = rw e

module _ (β : Answers Reply) (d : Domain) where
  pub kept_begins : KeptWalk β d (not_begun d)
  unfolding not_begun left_of
  kept_begins = record { follows = follows_same (summarized_last d) }

  module _ {last : Option Found} {t : Domain} {ts : List Domain} (k : KeptWalk β d (open_walk last (t ∷ ts))) where
    -- at a target that was answered before, for this walk or for another
    pub kept_known : can_ask t ≡ true → (r : Reply) → find β (asked_name t) ≡ Some r → KeptWalk β d (turned d last t ts r)
    kept_known a r e = record { follows = follows_on k.follows (follows_on (follows_same (next_asked d last t ts a)) (follows_on (follows_known (asked_name t) _ r e) (follows_same (turned_left d last t ts r)))) }

    -- at one that is too long to ask
    pub kept_skipped : can_ask t ≡ false → KeptWalk β d (turned d last t ts Reply.NoRecord)
    kept_skipped a = record { follows = follows_on k.follows (follows_same (next_skipped d last t ts a ∙ turned_left d last t ts Reply.NoRecord)) }

    -- at one that was not answered: its name is the one needed, and its answer is one turn
    pub kept_asks : can_ask t ≡ true → find β (asked_name t) ≡ None → run_over β (summarized d) ≡ needs (asked_name t)
    kept_asks a e = follows_needs (follows_on k.follows (follows_same (next_asked d last t ts a))) e

    pub kept_answered : can_ask t ≡ true → find β (asked_name t) ≡ None → (r : Reply) → KeptWalk (β ++ ((asked_name t, r) ∷ [])) d (turned d last t ts r)
    kept_answered a e r = record { follows = follows_on (follows_new (follows_on k.follows (follows_same (next_asked d last t ts a))) e r) (follows_same (turned_left d last t ts r)) }

  -- after the last target
  pub kept_ends : {last : Option Found} → KeptWalk β d (open_walk last []) → KeptWalk β d (ended (Some (last_summary d last)))
  unfolding left_of summarized_from
  kept_ends k = record { follows = k.follows }

  -- what the walk came to is what is worked out afresh, after every later answer
  pub kept_organization : {s : Option Summary} → KeptWalk β d (ended s) → (γ : Answers Reply) → run_over (β ++ γ) (organizational_domain d) ≡ has (option_map (λ o. o.organization) s)
  unfolding left_of run_over run onward
  kept_organization k γ = organization_run (find (β ++ γ)) d ∙ ap (λ u. onward u (λ o. has (option_map (λ s. s.organization) o))) (k.follows.runs γ)

-- ------------------------------------------------------------------ places

module _ (d : Domain) where
  whole_end : IsEnd d d
  unfolding IsEnd
  whole_end = sym (walk_targets d).starts ∙ (walk_targets d).ends 0 ∙ ap (λ x. drop (begin_of x d) d) (walk_targets d).starts

  targets_ends : (ns : List ℕ) → AllEnds d (map (λ n. last_labels n d) ns)
  unfolding AllEnds IsEnd
  targets_ends [] = tt
  targets_ends (n ∷ ns) = (last_labels_end n d, targets_ends ns)

  pub begins_in_places : InPlaces d (not_begun d)
  unfolding InPlaces not_begun LastIsEnd targets AllEnds
  begins_in_places = (tt, (whole_end, targets_ends (down_from (if ltb 8 (label_count d) then 7 else label_count d - 1))))

  pub last_in_places : (last : Option Found) → LastIsEnd d last → IsEnd d (last_summary d last).organization
  unfolding LastIsEnd last_summary
  last_in_places None e = whole_end
  last_in_places (Some f) e = e

  suffix_in_places : (last : Option Found) (f : Found) → IsEnd d f.domain → IsEnd d (suffix_summary d last f).organization
  unfolding suffix_summary wider_summary last_summary one_more
  suffix_in_places last f e = elim (same f.domain d) as (λ b. IsEnd d (if b then last_summary d (Some f) else record { organization = one_more d f.domain; applicable = or_found (if_at (one_more d f.domain) last) (Some f) }).organization) [
    | true ↦ e
    | false ↦ unfold IsEnd in last_labels_end (label_count f.domain + 1) d
  ]

  module _ (last : Option Found) (t : Domain) (ts : List Domain) (k : InPlaces d (open_walk last (t ∷ ts))) where
    turned_by_places : (s : Settings) (p : Psd) → InPlaces d (turned_by d last (found t s) ts p)
    unfolding turned_by InPlaces AllEnds LastIsEnd
    turned_by_places s Psd.Yes = suffix_in_places last (found t s) k.1.0
    turned_by_places s Psd.No = last_in_places (Some (found t s)) k.1.0
    turned_by_places s Psd.Unset = (k.1.0, k.1.1)

    pub turned_places : (r : Reply) → InPlaces d (turned d last t ts r)
    unfolding turned InPlaces AllEnds
    turned_places Reply.Error = tt
    turned_places Reply.NoRecord = (k.0, k.1.1)
    turned_places (Reply.Record s) = turned_by_places s s.psd
