-- A walk's summary needs only the last record found so far: the walk that keeps its records, and the one that keeps the last, are one program.
use mathlib.Core.Path.{◌≡◌, refl, ap, sym, ◌∙◌, fun_ext}
use mathlib.Core.List.{List, [], ◌∷◌}
use mathlib.Core.Bool.{Bool, true, false}
use Prim.Native.Nat.{ℕ, suc, ◌≤◌, ◌<◌}
use native.Mathlib.Omega.{arith}
use lib.ListN.{length}
use Rattle.std.specs.Prelude.{if◌then◌else◌, Option, None, Some, option_map}
use Rattle.octets.specs.Octets.{same}
use Rattle.octets.proofs.TextLaws.{same_self, same_uneven}
use Rattle.lookup.specs.Lookup.{Name, Lookups, done, ◌>>=◌, has, run}
use Rattle.lookup.proofs.RunLaws.{bind_bind, onward, onward_onward, run_bind}
use Rattle.domain.specs.Domain.{Domain, targets}
use Rattle.policy.specs.declared.Psd.{Psd}
use Rattle.policy.specs.declared.Settings.{Settings}
use Rattle.txt.specs.declared.Reply.{Reply}
use Rattle.walk.specs.Walk.{record_at, Found, found, Walked, ends_walk, go_on, walk_over, walk, by_psd, marked_organization, shortest, or_shortest, organizational, organizational_domain, found_at, is_suffix, found_suffix}
use Rattle.walk_progress.specs.code.Summary.{Summary, or_found, summary, summarized}
use Rattle.walk_progress.specs.code.Turns.{if_at, last_summary, one_more, wider_summary, suffix_summary, by_found, by_reply, summarized_from}
use Rattle.walk_progress.proofs.LabelLaws.{Falls, falls_more, targets_fall}
use Rattle.octets.proofs.RefusingLaws.{option_map_map}

-- a walk, with a summary of its records in their place
abbrev summed : (List Found → Summary) → Lookups Reply Walked → Lookups Reply (Option Summary)
summed k t = t >>= λ fs. done (option_map k fs)

-- a walk at a record with this psd
by_mark : Domain → Settings → Lookups Reply Walked → Psd → Lookups Reply Walked
by_mark d s rest p = if ends_walk p then done (Some (found d s ∷ [])) else (rest >>= λ fs. done (option_map (λ l. found d s ∷ l) fs))

-- a record that is chosen whether it is found or not
itself : (f : Found) (t : Bool) → or_found (if t then Some f else None) (Some f) ≡ Some f
unfolding or_found
itself f true = refl
itself f false = refl

or_itself : (g f : Found) (s t : Bool) → or_found (if s then Some g else if t then Some f else None) (Some f) ≡ or_found (if s then Some g else None) (Some f)
unfolding or_found
or_itself g f true t = refl
or_itself g f false t = itself f t

module _ (start : Domain) where
  -- ---------------------------------------------------------------- a record without psd, and what follows it

  module _ (g : Found) (u : g.settings.psd ≡ Psd.Unset) where
    unmarked : (fs : List Found) → marked_organization start (g ∷ fs) ≡ marked_organization start fs
    unfolding marked_organization by_psd
    unmarked fs = rw u

    no_suffix : (fs : List Found) → found_suffix (g ∷ fs) ≡ found_suffix fs
    unfolding found_suffix is_suffix
    no_suffix fs = rw u

    module _ (f : Found) (fs : List Found) where
      organization_past : organizational start (g ∷ f ∷ fs) ≡ organizational start (f ∷ fs)
      unfolding organizational or_shortest shortest
      organization_past = rw (unmarked (f ∷ fs)) (go (marked_organization start (f ∷ fs)))
        where
          go : (o : Option Domain) → or_shortest start (g ∷ f ∷ fs) o ≡ or_shortest start (f ∷ fs) o
          go None = refl
          go (Some d) = refl

      -- it does not matter where the organizational domain is shorter
      forgotten : length (organizational start (f ∷ fs)) < length g.domain → summary start (g ∷ f ∷ fs) ≡ summary start (f ∷ fs)
      unfolding summary found_at
      forgotten h =
          ap (λ (o : Domain). record { organization = o; applicable = or_found (found_at o (g ∷ f ∷ fs)) (found_suffix (g ∷ f ∷ fs)) }) organization_past
          ∙ rw (no_suffix (f ∷ fs), same_uneven g.domain (organizational start (f ∷ fs)) (omega arith))

  -- ---------------------------------------------------------------- the last record

  -- a record alone, at the organizational domain
  alone : (f : Found) → organizational start (f ∷ []) ≡ f.domain → summary start (f ∷ []) ≡ last_summary start (Some f)
  unfolding summary last_summary found_at or_found
  alone f e = rw (e, same_self f.domain)

  module _ (f : Found) where
    alone_unset : f.settings.psd ≡ Psd.Unset → organizational start (f ∷ []) ≡ f.domain
    unfolding organizational or_shortest shortest marked_organization
    alone_unset e = rw (unmarked f e [])

    alone_no : f.settings.psd ≡ Psd.No → organizational start (f ∷ []) ≡ f.domain
    unfolding organizational or_shortest marked_organization by_psd
    alone_no e = rw e

    module _ (e : f.settings.psd ≡ Psd.Yes) where
      alone_start : same f.domain start ≡ true → organizational start (f ∷ []) ≡ f.domain
      unfolding organizational or_shortest shortest marked_organization by_psd
      alone_start h = rw (e, h)

      alone_above : same f.domain start ≡ false → organizational start (f ∷ []) ≡ one_more start f.domain
      unfolding organizational or_shortest marked_organization by_psd one_more
      alone_above h = rw (e, h)

      suffix_alone : found_suffix (f ∷ []) ≡ Some f
      unfolding found_suffix is_suffix
      suffix_alone = rw e

      -- "the organizational domain's, where the author's walk found one; else the psd=y one"
      module _ (h : same f.domain start ≡ false) where
        suffix_first : summary start (f ∷ []) ≡ suffix_summary start None f
        unfolding summary suffix_summary wider_summary if_at found_at or_found
        suffix_first = rw (alone_above h, h, suffix_alone, itself f _)

        suffix_after : (g : Found) → g.settings.psd ≡ Psd.Unset → summary start (g ∷ f ∷ []) ≡ suffix_summary start (Some g) f
        unfolding summary suffix_summary wider_summary if_at found_at or_found
        suffix_after g u = rw (organization_past g u f [], alone_above h, h, no_suffix g u (f ∷ []), suffix_alone, or_itself g f _ _)

  -- ---------------------------------------------------------------- a walk of which only the last record is known

  -- remaining targets are shorter than this
  limit : Option Found → ℕ
  limit None = suc (length start)
  limit (Some g) = length g.domain

  -- a summary of further records, where this is the last one so far
  Agrees : (List Found → Summary) → Option Found → Type 0
  Agrees k None = (fs : List Found) → k fs ≡ summary start fs
  Agrees k (Some g) = (g.settings.psd ≡ Psd.Unset) × ((fs : List Found) → length (organizational start (g ∷ fs)) ≤ length g.domain → k fs ≡ summary start (g ∷ fs))

  ended : (k : List Found → Summary) (last : Option Found) → Agrees k last → k [] ≡ last_summary start last
  unfolding Agrees summary organizational marked_organization or_shortest shortest found_at found_suffix or_found last_summary
  ended k None a = a []
  ended k (Some g) a = a.1 [] (rw (alone_unset g a.0) (omega arith)) ∙ alone g (alone_unset g a.0)

  module _ (k : List Found → Summary) (f : Found) where
    -- one record more
    after_last : (last : Option Found) → Agrees k last → (fs : List Found) → length (organizational start (f ∷ fs)) < limit last → k (f ∷ fs) ≡ summary start (f ∷ fs)
    unfolding Agrees limit
    after_last None a fs h = a (f ∷ fs)
    after_last (Some g) a fs h = a.1 (f ∷ fs) (rw (organization_past g a.0 f fs) (omega arith)) ∙ forgotten g a.0 f fs h

    -- a last one, below the organizational domain
    ends_below : (last : Option Found) → Agrees k last → length (one_more start f.domain) ≤ limit last → f.settings.psd ≡ Psd.Yes → same f.domain start ≡ false → k (f ∷ []) ≡ suffix_summary start last f
    unfolding Agrees limit
    ends_below None a h e n = a (f ∷ []) ∙ suffix_first f e n
    ends_below (Some g) a h e n = a.1 (f ∷ []) (rw (organization_past g a.0 f [], alone_above f e n) h) ∙ suffix_after f e n g a.0

    module _ (last : Option Found) (a : Agrees k last) (h : length f.domain < limit last) where
      -- the next last one
      agrees_next : f.settings.psd ≡ Psd.Unset → Agrees (λ fs. k (f ∷ fs)) (Some f)
      unfolding Agrees
      agrees_next u = (u, λ fs b. after_last last a fs (omega arith))

      -- a last one, at the organizational domain
      ends_here : organizational start (f ∷ []) ≡ f.domain → k (f ∷ []) ≡ last_summary start (Some f)
      ends_here o = after_last last a [] (rw o h) ∙ alone f o

      ends_suffix : length (one_more start f.domain) ≤ limit last → f.settings.psd ≡ Psd.Yes → k (f ∷ []) ≡ suffix_summary start last f
      unfolding suffix_summary wider_summary
      ends_suffix b e = go (same f.domain start) refl
        where
          go : (t : Bool) → same f.domain start ≡ t → k (f ∷ []) ≡ suffix_summary start last f
          go true n = rw n (ends_here (alone_start f e n))
          go false n = ends_below last a b e n

  -- ---------------------------------------------------------------- the two programs

  -- over these targets they are one program
  abbrev Follow : List Domain → Type 0
  Follow ds = (last : Option Found) (k : List Found → Summary) → Falls start (limit last) ds → Agrees k last → summed k (walk_over ds) ≡ summarized_from start last ds

  module _ (d : Domain) (ds : List Domain) (again : Follow ds) (last : Option Found) (k : List Found → Summary) (w : Falls start (limit last) (d ∷ ds)) (a : Agrees k last) where
    at_record : (s : Settings) (p : Psd) → s.psd ≡ p → summed k (by_mark d s (walk_over ds) p) ≡ by_found start last (found d s) (λ l. summarized_from start l ds) p
    unfolding by_mark ends_walk by_found ◌>>=◌ Falls limit
    at_record s Psd.Yes e = ap (λ (x : Summary). done (Some x)) (ends_suffix k (found d s) last a w.0 w.1 e)
    at_record s Psd.No e = ap (λ (x : Summary). done (Some x)) (ends_here k (found d s) last a w.0 (alone_no (found d s) e))
    at_record s Psd.Unset e =
        bind_bind (walk_over ds) _ _
        ∙ ap (λ f. walk_over ds >>= f) (fun_ext λ o. ap done (option_map_map k (λ l. found d s ∷ l) o))
        ∙ again (Some (found d s)) (λ l. k (found d s ∷ l)) w.2 (agrees_next k (found d s) last a w.0 e)

    at_reply : (r : Reply) → summed k (go_on d r (walk_over ds)) ≡ by_reply start last d (λ l. summarized_from start l ds) r
    unfolding go_on by_mark by_reply ◌>>=◌ Falls
    at_reply Reply.Error = refl
    at_reply Reply.NoRecord = again last k (falls_more start (length d) (limit last) ds (omega arith) w.2) a
    at_reply (Reply.Record s) = at_record s s.psd refl

  summarized_over : (ds : List Domain) → Follow ds
  unfolding walk_over summarized_from ◌>>=◌
  summarized_over [] last k w a = ap (λ (x : Summary). done (Some x)) (ended k last a)
  summarized_over (d ∷ ds) last k w a = bind_bind (record_at d) _ _ ∙ ap (λ f. record_at d >>= f) (fun_ext (at_reply d ds (summarized_over ds) last k w a))

  pub summarized_last : summarized start ≡ summarized_from start None (targets start)
  unfolding summarized walk Agrees limit
  summarized_last = summarized_over (targets start) None (summary start) (targets_fall start) (λ fs. refl)

-- ------------------------------------------------------------------ the organizational domain

-- is that of the summary
module _ (κ : Name → Option Reply) (d : Domain) where
  pub organization_run : run κ (organizational_domain d) ≡ onward (run κ (summarized d)) (λ o. has (option_map (λ s. s.organization) o))
  unfolding organizational_domain summarized onward run summary
  organization_run =
      run_bind κ (walk d) _
      ∙ ap (onward (run κ (walk d))) (fun_ext λ fs. ap has (sym (option_map_map (λ s. s.organization) (summary d) fs)))
      ∙ sym (ap (λ u. onward u (λ o. has (option_map (λ s. s.organization) o))) (run_bind κ (walk d) _) ∙ onward_onward (run κ (walk d)) _ _)
