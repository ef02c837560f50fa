-- A cursor moves from name to name.
use mathlib.Core.Path.{◌≡◌, refl, ap, ap₂, sym, ◌∙◌, subst}
use mathlib.Core.List.{List, [], ◌∷◌, ◌++◌, map, map-append, append_assoc, append-nil}
use mathlib.Core.Bool.{Bool, true, false, ◌||◌, true≢false}
use Prim.Native.Nat.{ℕ, zero, suc}
use lib.ListN.{get_or}
use Rattle.std.specs.Prelude.{if◌then◌else◌, Some, None, option_map, Option}
use Rattle.octets.specs.Octets.{is_nothing, any}
use Rattle.lookup.specs.Lookup.{Name, done, ◌>>=◌, Answers, find, Standing, needs, has, run, run_over}
use Rattle.lookup.specs.code.Following.{Follows}
use Rattle.lookup.proofs.RunLaws.{find_new, needs_injective, has≢needs}
use Rattle.lookup.proofs.FollowLaws.{follows_same, follows_on, follows_more, follows_run}
use Rattle.domain.specs.Domain.{Domain, targets, can_ask, asked_name}
use Rattle.policy.specs.declared.Settings.{Settings}
use Rattle.force.specs.InForce.{in_force}
use Rattle.txt.specs.declared.Reply.{Reply}
use Rattle.alignment.specs.declared.Alignment.{Alignment}
use Rattle.alignment.specs.Alignments.{Identifier, settled_alignment, must_walk, compared, align_by, align, align_each}
use Rattle.walk.specs.Walk.{found, organizational_domain}
use Rattle.walk_progress.specs.code.Stored.{Stored, still_open, failed, stored_domain, number_in, stored_by, stored_now}
use Rattle.walk_progress.specs.code.Summary.{Summary}
use Rattle.walk_progress.specs.code.Progress.{open_walk, ended, not_begun, turned, stored_in, KeptWalk, InPlaces}
use Rattle.walk_progress.specs.code.Reaching.{Pause, Reached, pauses, over, reach_by, reach, reach_after, later_targets, progress_of, KeptReached}
use Rattle.walk_progress.proofs.ProgressLaws.{kept_known, kept_skipped, kept_asks, kept_answered, kept_organization, turned_places}
use Rattle.walk_progress.proofs.ReachingLaws.{reaching_claims}
use Rattle.verdict.specs.declared.AppliedPolicy.{AppliedPolicy}
use Rattle.verdict.specs.Message.{Message}
use Rattle.verdict.specs.Claims.{applied_settings}
use Rattle.verdict.specs.Stored.{ended_number, once_ended, settings_so_far, numbers_each, numbers_walked, numbers_stored}
use Rattle.verdict.specs.Verdict.{Applied, own, other, not_known, no_record, applied_by, applied_record, policy_of, Verdict, evaluate}
use Rattle.verdict_cursor.specs.code.Stage.{applied_in, author_walk, completing, comparing, finished, concluded, left, KeptStage, in_force_stage, applied_stage, own_stage}
use Rattle.verdict_cursor.specs.code.Cursor.{Point, on_own_name, on_author, on_completing, on_identifier, at_verdict, Cursor, cursor, read_by, read_alignment, alignments_read, is_walked, compare_reached, compare_on, complete_reached, judge_on, apply, apply_reached, own_on, begin_on, answered_at, answered_on, stands_at, stands, numbers_of}
use Rattle.verdict_cursor.specs.code.CursorClaims.{stage_of, InForceIs, Passed, PointWaits, KeptCursor, CursorClaims}
use Rattle.verdict_cursor.proofs.StageLaws.{stage_claims, waits_organization, applied_own, applied_skipped, applied_ended}

-- ------------------------------------------------------------------ lists

pass_order : (ws : List (Identifier × Stored)) (w : Identifier × Stored) (is ids : List Identifier) → map (λ x. x.0) ws ++ w.0 ∷ is ≡ ids
    → map (λ x. x.0) (ws ++ (w ∷ [])) ++ is ≡ ids
pass_order ws w is ids e = ap (λ l. l ++ is) (map-append (λ x. x.0) ws (w ∷ [])) ∙ append_assoc (map (λ x. x.0) ws) (w.0 ∷ []) is ∙ e

-- identifiers that need no walk are not compared with the author's organizational domain
settled_each : (s : Settings) (author : Domain) (o : Option Domain) (is : List Identifier) → any (must_walk s author) is ≡ false → align_each s author None is ≡ align_each s author o is
unfolding any must_walk align_each align align_by is_nothing
settled_each s author o [] e = refl
settled_each s author o (i ∷ is) e = go (settled_each s author o is) (settled_alignment s author i) e
  where
    go : (any (must_walk s author) is ≡ false → align_each s author None is ≡ align_each s author o is) → (x : Option Alignment) → (is_nothing x || any (must_walk s author) is) ≡ false
        → (align_by x None i.domain >>= λ a. align_each s author None is >>= λ l. done (a ∷ l)) ≡ (align_by x o i.domain >>= λ a. align_each s author o is >>= λ l. done (a ∷ l))
    go ih None h = absurd (true≢false h)
    go ih (Some a) h = ap (λ t. done a >>= λ b. t >>= λ l. done (b ∷ l)) (ih h)

-- ------------------------------------------------------------------ numbers

abbrev numbers_in : List (Identifier × Stored) → List ℕ
numbers_in ws = map (λ w. number_in w.1) ws

zero_snoc : (ws : List (Identifier × Stored)) (i : Identifier) → ((walk : ℕ) → get_or (numbers_in ws) walk 0 ≡ 0) → (walk : ℕ) → get_or (numbers_in (ws ++ ((i, still_open) ∷ []))) walk 0 ≡ 0
unfolding number_in
zero_snoc [] i z zero = refl
zero_snoc [] i z (suc k) = refl
zero_snoc (w ∷ ws) i z zero = z zero
zero_snoc (w ∷ ws) i z (suc k) = zero_snoc ws i (λ j. z (suc j)) k

-- the number of a walk that has ended
number_ended : (d : Domain) (w : Option Summary) → number_in (stored_in d (ended w)) ≡ ended_number d (option_map (λ x. x.organization) w)
unfolding number_in stored_in ended_number
number_ended d None = refl
number_ended d (Some w) = refl

module _ (β : Answers Reply) (s : Settings) (author : Domain) (ws : List (Identifier × Stored)) where
  -- one more, with its number
  passed_snoc : (o : Domain) (w : Identifier × Stored) → Passed β s author ws (Some o)
      → ((γ : Answers Reply) (is : List Identifier) → numbers_each (β ++ γ) s author (w.0 ∷ is) ≡ number_in w.1 ∷ numbers_each (β ++ γ) s author is)
      → Passed β s author (ws ++ (w ∷ [])) (Some o)
  unfolding Passed
  passed_snoc o w a b = λ γ is.
      ap (numbers_each (β ++ γ) s author) (pass_order ws w is (map (λ x. x.0) ws ++ w.0 ∷ is) refl)
      ∙ a γ (w.0 ∷ is)
      ∙ ap (λ l. numbers_in ws ++ l) (b γ is)
      ∙ sym (append_assoc (numbers_in ws) (number_in w.1 ∷ []) (numbers_each (β ++ γ) s author is))
      ∙ ap (λ l. l ++ numbers_each (β ++ γ) s author is) (sym (map-append (λ x. number_in x.1) ws (w ∷ [])))

  -- that needs no walk
  passed_settled : (o : Option Domain) (i : Identifier) → must_walk s author i ≡ false → Passed β s author ws o → Passed β s author (ws ++ ((i, still_open) ∷ [])) o
  unfolding numbers_each number_in
  passed_settled None i e a = unfold Passed in zero_snoc ws i a
  passed_settled (Some o) i e a = passed_snoc o (i, still_open) a (λ γ is. rw (e, numbers_each))

  -- whose walk has ended
  passed_ended : (o : Domain) (i : Identifier) (w : Option Summary) → must_walk s author i ≡ true → KeptWalk β i.domain (ended w) → Passed β s author ws (Some o)
      → Passed β s author (ws ++ ((i, stored_in i.domain (ended w)) ∷ [])) (Some o)
  unfolding numbers_each once_ended
  passed_ended o i w e k a =
      passed_snoc o (i, stored_in i.domain (ended w)) a
      (λ γ is. rw (e, numbers_each, kept_organization β i.domain k γ) (ap (λ n. n ∷ numbers_each (β ++ γ) s author is) (sym (number_ended i.domain w))))

  passed_stays : (γ : Answers Reply) (o : Option Domain) → Passed β s author ws o → Passed (β ++ γ) s author ws o
  unfolding Passed
  passed_stays γ None a = a
  passed_stays γ (Some o) a = λ δ is.
      subst (λ x. numbers_each x s author (map (λ w. w.0) ws ++ is) ≡ numbers_in ws ++ numbers_each x s author is) (sym (append_assoc β γ δ)) (a (γ ++ δ) is)

  passed_now : (o : Domain) → Passed β s author ws (Some o) → (is : List Identifier) → numbers_each β s author (map (λ w. w.0) ws ++ is) ≡ numbers_in ws ++ numbers_each β s author is
  unfolding Passed
  passed_now o a is = subst (λ x. numbers_each x s author (map (λ w. w.0) ws ++ is) ≡ numbers_in ws ++ numbers_each x s author is) (append-nil β) (a [] is)

module _ (β : Answers Reply) (m : Message) where
  settings_now : (a : Applied) → Follows β (applied_record m.author) (done a) → settings_so_far (run_over β (applied_record m.author)) ≡ applied_settings a
  unfolding settings_so_far run_over run
  settings_now a f = ap settings_so_far (follows_run f)

  in_force_stays : (γ : Answers Reply) (s : Settings) → InForceIs β m s → InForceIs (β ++ γ) m s
  unfolding InForceIs
  in_force_stays γ s (a, (f, e)) = (a, (follows_more f γ, e))

  -- the numbers of all identifiers, by the author's organizational domain
  Rest : Option Domain → List ℕ → Type 0
  Rest o ns = (walk : ℕ) → get_or ns walk 0 ≡ get_or (numbers_walked β m (settings_so_far (run_over β (applied_record m.author))) o) walk 0

  -- where it is unknown none is walked; else it does not matter which it is
  rest_unknown : (f : Option Settings) → numbers_walked β m f None ≡ []
  unfolding numbers_walked
  rest_unknown None = refl
  rest_unknown (Some s) = refl

  rest_known : (f : Option Settings) (o p : Domain) → numbers_walked β m f (Some o) ≡ numbers_walked β m f (Some p)
  unfolding numbers_walked
  rest_known None o p = refl
  rest_known (Some s) o p = refl

  numbered : (st : Stored) → st ≡ stored_now β m.author → (ns : List ℕ) → Rest (stored_domain m.author st) ns
      → (walk : ℕ) → get_or (number_in st ∷ ns) walk 0 ≡ get_or (numbers_stored β m) walk 0
  unfolding Rest stored_now stored_by stored_domain number_in numbers_stored once_ended ended_number
  numbered st e ns h = go (run_over β (organizational_domain m.author)) e
    where
      rules : Option Settings
      rules = settings_so_far (run_over β (applied_record m.author))

      go : (u : Standing (Option Domain)) → st ≡ stored_by m.author u → (walk : ℕ) → get_or (number_in st ∷ ns) walk 0 ≡ get_or (once_ended m.author u (numbers_walked β m rules)) walk 0
      go (needs n) f zero = ap number_in f
      go (needs n) f (suc k) = subst (λ x. Rest (stored_domain m.author x) ns) f h k ∙ ap (λ l. get_or l k 0) (rest_unknown rules)
      go (has None) f zero = ap number_in f
      go (has None) f (suc k) = subst (λ x. Rest (stored_domain m.author x) ns) f h k
      go (has (Some o)) f zero = ap number_in f
      go (has (Some o)) f (suc k) = subst (λ x. Rest (stored_domain m.author x) ns) f h k ∙ ap (λ l. get_or l k 0) (rest_known rules _ o)

  -- none is walked without settings in force
  rest_none : (o : Option Domain) (a : Applied) → Follows β (applied_record m.author) (done a) → applied_settings a ≡ None → Rest o []
  unfolding Rest numbers_walked
  rest_none o a f e = λ k. rw (settings_now a f, e, numbers_walked)

  -- all were passed, or all before one whose walk is open
  rest_passed : (s : Settings) → InForceIs β m s → (ws : List (Identifier × Stored)) (o : Option Domain) → Passed β s m.author ws o
      → (is : List Identifier) → map (λ w. w.0) ws ++ is ≡ m.identifiers → numbers_each β s m.author is ≡ [] → Rest o (numbers_in ws)
  unfolding InForceIs Rest numbers_walked Passed
  rest_passed s (a, (f, e)) ws None h is order none = λ k. h k ∙ ap (λ l. get_or l k 0) (sym (rest_unknown (settings_so_far (run_over β (applied_record m.author)))))
  rest_passed s (a, (f, e)) ws (Some o) h is order none = λ k.
      rw (settings_now a f, e, numbers_walked)
      (ap (λ l. get_or l k 0) (sym (ap (numbers_each β s m.author) (sym order) ∙ passed_now β s m.author ws o h is ∙ ap (λ l. numbers_in ws ++ l) none ∙ append-nil (numbers_in ws))))

module _ (β : Answers Reply) (m : Message) where
  author : Domain
  author = m.author

  -- ---------------------------------------------------------------- c

  -- identifiers that can follow those that were passed
  Compares : Domain → Settings → AppliedPolicy → Stored → List Identifier → Type 0
  Compares d s p st is = (ws : List (Identifier × Stored))
      → KeptStage β m (comparing d s p (stored_domain m.author st) (alignments_read s m.author st ws) is) → st ≡ stored_now β m.author → InForceIs β m s
      → Passed β s m.author ws (stored_domain m.author st) → map (λ w. w.0) ws ++ is ≡ m.identifiers → KeptCursor β m (compare_on β m d s p st ws is)

  module _ (d : Domain) (s : Settings) (p : AppliedPolicy) (st : Stored) where
    module _ (ws : List (Identifier × Stored)) (i : Identifier) (w : Stored) where
      read_snoc : alignments_read s m.author st (ws ++ ((i, w) ∷ [])) ≡ alignments_read s m.author st ws ++ (read_alignment s m.author st (i, w) ∷ [])
      unfolding alignments_read
      read_snoc = map-append (read_alignment s m.author st) ws ((i, w) ∷ [])

      -- the stage after one more
      passes : (x : Option Alignment) → settled_alignment s m.author i ≡ x → (o : Option Domain) → stored_domain m.author st ≡ o → (a : Alignment) → read_by x o (stored_domain i.domain w) ≡ a
          → (is : List Identifier) → KeptStage β m (comparing d s p o (alignments_read s m.author st ws ++ (a ∷ [])) is)
          → KeptStage β m (comparing d s p (stored_domain m.author st) (alignments_read s m.author st (ws ++ ((i, w) ∷ []))) is)
      unfolding read_alignment
      passes x e o f a g is k =
          subst (λ l. KeptStage β m (comparing d s p (stored_domain m.author st) l is)) (sym (read_snoc ∙ ap (λ b. alignments_read s m.author st ws ++ (b ∷ [])) (ap₂ (λ y z. read_by y z (stored_domain i.domain w)) e f ∙ g)))
          (subst (λ z. KeptStage β m (comparing d s p z (alignments_read s m.author st ws ++ (a ∷ [])) is)) (sym f) k)

    module _ (ws : List (Identifier × Stored)) (i : Identifier) (is : List Identifier) (on : Compares d s p st is)
        (k : KeptStage β m (comparing d s p (stored_domain m.author st) (alignments_read s m.author st ws) (i ∷ is)))
        (fresh : st ≡ stored_now β m.author) (ruled : InForceIs β m s) (all : Passed β s m.author ws (stored_domain m.author st)) (order : map (λ w. w.0) ws ++ i ∷ is ≡ m.identifiers) where
      -- with the author's organizational domain, an identifier whose walk has come so far
      compares_reached : (e : settled_alignment s m.author i ≡ None) (o : Domain) (f : stored_domain m.author st ≡ Some o) (w : Reached) → KeptReached β i.domain w
          → KeptCursor β m (compare_reached β m d s p st ws i is (λ l. compare_on β m d s p st l is) w)
      unfolding compare_reached stage_of PointWaits Compares progress_of read_by must_walk is_nothing numbers_of
      compares_reached e o f (pauses q) r = record {
        stage = k;
        waits = (r, (e, ((o, f), (order, (ruled, all)))));
        author = fresh;
        numbers = numbered β m st fresh (numbers_in ws) (rest_passed β m s ruled ws (stored_domain m.author st) all (i ∷ is) order
            (unfold numbers_each once_ended in rw (e, numbers_each, waits_organization β m i.domain _ ((reaching_claims β i.domain).asks q r))));
      }
      compares_reached e o f (over w) r =
          on (ws ++ ((i, stored_in i.domain (ended w)) ∷ []))
          (passes ws i (stored_in i.domain (ended w)) None e (Some o) f (compared o (option_map (λ x. x.organization) w)) (ap (compared o) ((reaching_claims β i.domain).same_domain w r.places)) is
          ((stage_claims β m).compares (subst (λ z. KeptStage β m (comparing d s p z (alignments_read s m.author st ws) (i ∷ is))) f k) e r.walk))
          fresh ruled
          (subst (Passed β s m.author (ws ++ ((i, stored_in i.domain (ended w)) ∷ []))) (sym f) (passed_ended β s m.author ws o i w (ap is_nothing e) r.walk (subst (Passed β s m.author ws) f all)))
          (pass_order ws (i, stored_in i.domain (ended w)) is m.identifiers order)

      walked : KeptReached β i.domain (reach β i.domain None (targets i.domain))
      unfolding not_begun
      walked = (reaching_claims β i.domain).reaches None (targets i.domain) (reaching_claims β i.domain).begins.0 (reaching_claims β i.domain).begins.1

      compares_first : (x : Option Alignment) → settled_alignment s m.author i ≡ x → (o : Option Domain) → stored_domain m.author st ≡ o
          → KeptCursor β m (elim (is_walked x o) as (λ _. Cursor) [
            | true ↦ compare_reached β m d s p st ws i is (λ l. compare_on β m d s p st l is) (reach β i.domain None (targets i.domain))
            | false ↦ compare_on β m d s p st (ws ++ ((i, still_open) ∷ [])) is
          ])
      unfolding is_walked Compares read_by must_walk is_nothing
      compares_first (Some a) e o f =
          on (ws ++ ((i, still_open) ∷ []))
          (passes ws i still_open (Some a) e o f a refl is ((stage_claims β m).settles (subst (λ z. KeptStage β m (comparing d s p z (alignments_read s m.author st ws) (i ∷ is))) f k) a e))
          fresh ruled (passed_settled β s m.author ws (stored_domain m.author st) i (ap is_nothing e) all) (pass_order ws (i, still_open) is m.identifiers order)
      compares_first None e None f =
          on (ws ++ ((i, still_open) ∷ []))
          (passes ws i still_open None e None f Alignment.Unknown refl is ((stage_claims β m).unknown (subst (λ z. KeptStage β m (comparing d s p z (alignments_read s m.author st ws) (i ∷ is))) f k) e))
          fresh ruled
          (subst (Passed β s m.author (ws ++ ((i, still_open) ∷ []))) (sym f) (unfold Passed in zero_snoc ws i (subst (Passed β s m.author ws) f all)))
          (pass_order ws (i, still_open) is m.identifiers order)
      compares_first None e (Some o) f = compares_reached e o f (reach β i.domain None (targets i.domain)) walked

    compares_all : (is : List Identifier) → Compares d s p st is
    unfolding Compares compare_on stage_of PointWaits numbers_of numbers_each
    compares_all [] ws k fresh ruled all order = record {
      stage = (stage_claims β m).concludes k;
      waits = tt;
      author = fresh;
      numbers = numbered β m st fresh (numbers_in ws) (rest_passed β m s ruled ws (stored_domain m.author st) all [] order refl);
    }
    compares_all (i ∷ is) ws k fresh ruled all order =
        compares_first ws i is (compares_all is) k fresh ruled all order (settled_alignment s m.author i) refl (stored_domain m.author st) refl

  -- before the first
  none_passed : (s : Settings) (o : Option Domain) → Passed β s m.author [] o
  unfolding Passed
  none_passed s None = λ k. refl
  none_passed s (Some o) = λ γ is. refl

  -- at an open walk of the author
  open_numbers : still_open ≡ stored_now β m.author → (walk : ℕ) → get_or (number_in still_open ∷ []) walk 0 ≡ get_or (numbers_stored β m) walk 0
  unfolding stored_domain Rest
  open_numbers e = numbered β m still_open e [] (λ k. ap (λ l. get_or l k 0) (sym (rest_unknown β m (settings_so_far (run_over β (applied_record m.author))))))

  pauses_now : (q : Pause) → KeptReached β m.author (pauses q) → still_open ≡ stored_now β m.author
  unfolding progress_of stored_in
  pauses_now q r = (reaching_claims β m.author).exactly (pauses q) r

  completes_reached : (d : Domain) (s : Settings) (p : AppliedPolicy) → KeptStage β m (completing d s p) → InForceIs β m s → (w : Reached) → KeptReached β m.author w
      → KeptCursor β m (complete_reached β m d s p w)
  unfolding complete_reached stage_of PointWaits progress_of Compares alignments_read numbers_of
  completes_reached d s p k ruled (pauses q) r = record { stage = k; waits = (r, ruled); author = pauses_now q r; numbers = open_numbers (pauses_now q r) }
  completes_reached d s p k ruled (over w) r =
      compares_all d s p (stored_in m.author (ended w)) m.identifiers []
      (subst (λ z. KeptStage β m (comparing d s p z [] m.identifiers)) (sym ((reaching_claims β m.author).same_domain w r.places)) ((stage_claims β m).completes k r.walk))
      ((reaching_claims β m.author).exactly (over w) r) ruled (none_passed s (stored_domain m.author (stored_in m.author (ended w)))) refl

  -- ---------------------------------------------------------------- a

  module _ (st : Stored) (fresh : st ≡ stored_now β m.author) (w : Reached) (r : KeptReached β m.author w) where
    module _ (a : Applied) (known : Follows β (applied_record m.author) (done a)) where
      -- at a verdict without alignments
      ends_at : (v : Verdict) → applied_settings a ≡ None → KeptStage β m (finished v) → KeptCursor β m (cursor st [] (at_verdict v))
      unfolding stage_of PointWaits numbers_of
      ends_at v e k = record { stage = k; waits = tt; author = fresh; numbers = numbered β m st fresh [] (rest_none β m (stored_domain m.author st) a known e) }

      judges_usable : (d : Domain) (s : Settings) (p : AppliedPolicy) → applied_settings a ≡ Some s → (b : Bool) → any (must_walk s m.author) m.identifiers ≡ b
          → KeptStage β m (if b then completing d s p else comparing d s p None [] m.identifiers)
          → KeptCursor β m (if b then complete_reached β m d s p w else compare_on β m d s p st [] m.identifiers)
      unfolding Compares alignments_read left InForceIs
      judges_usable d s p u true e k = completes_reached d s p k (a, (known, u)) w r
      judges_usable d s p u false e k =
          compares_all d s p st m.identifiers []
          (record { follows = follows_on k.follows (follows_same (ap (λ t. t >>= λ l. done (concluded m d p l)) (settled_each s m.author (stored_domain m.author st) m.identifiers e))) })
          fresh (a, (known, u)) (none_passed s (stored_domain m.author st)) refl

      judges : (b : Bool) (d : Domain) (x : Option Settings) → applied_settings a ≡ x → KeptStage β m (in_force_stage m b d x) → KeptCursor β m (judge_on β m st w b d x)
      unfolding in_force_stage judge_on
      judges b d None e k = ends_at _ e k
      judges b d (Some s) e k = judges_usable d s (policy_of b m.existence s) e (any (must_walk s m.author) m.identifiers) refl k

    applies : (x : Applied) → Follows β (applied_record m.author) (done x) → KeptStage β m (applied_stage m x) → KeptCursor β m (apply β m st w x)
    unfolding applied_stage apply applied_settings
    applies not_known f k = ends_at not_known f _ refl k
    applies no_record f k = ends_at no_record f _ refl k
    applies (own x) f k = judges (own x) f true x.domain (in_force x.settings) refl k
    applies (other x) f k = judges (other x) f false x.domain (in_force x.settings) refl k

  applies_reached : KeptStage β m author_walk → Follows β (applied_record m.author) (applied_by m.author Reply.NoRecord) → (w : Reached) → KeptReached β m.author w
      → KeptCursor β m (apply_reached β m w)
  unfolding apply_reached stage_of PointWaits progress_of numbers_of
  applies_reached k f (pauses q) r = record { stage = k; waits = (r, f); author = pauses_now q r; numbers = open_numbers (pauses_now q r) }
  applies_reached k f (over w) r =
      applies (stored_in m.author (ended w)) ((reaching_claims β m.author).exactly (over w) r) (over w) r (applied_in w) (applied_ended β m r.walk f) ((stage_claims β m).applies k r.walk)

  -- with the reply at the author's own name
  owns : (r : Reply) → Follows β (applied_record m.author) (applied_by m.author r) → KeptStage β m (own_stage m r)
      → KeptWalk β m.author (turned m.author None m.author (later_targets m.author) r)
      → InPlaces m.author (turned m.author None m.author (later_targets m.author) r)
      → KeptCursor β m (own_on β m r)
  unfolding own_stage own_on applied_by
  owns Reply.Error f k w i =
      let gone : KeptReached β m.author (over None) = unfold turned reach_by in (reaching_claims β m.author).turns None m.author (later_targets m.author) Reply.Error w i in
      let stores_error : failed ≡ stored_now β m.author = unfold progress_of stored_in in (reaching_claims β m.author).exactly (over None) gone in
      applies _ stores_error (over None) gone not_known f k
  owns Reply.NoRecord f k w i = applies_reached k (unfold applied_by in f) _ (unfold turned reach_by in (reaching_claims β m.author).turns None m.author (later_targets m.author) Reply.NoRecord w i)
  owns (Reply.Record s) f k w i =
      let gone = (reaching_claims β m.author).turns None m.author (later_targets m.author) (Reply.Record s) w i in
      applies _ ((reaching_claims β m.author).exactly _ gone) _ gone (own (found m.author s)) f k

  -- ---------------------------------------------------------------- from the beginning

  whole_walk : KeptWalk β m.author (open_walk None (m.author ∷ later_targets m.author))
  unfolding not_begun
  whole_walk = subst (λ l. KeptWalk β m.author (open_walk None l)) (reaching_claims β m.author).starts (reaching_claims β m.author).begins.0

  whole_places : InPlaces m.author (open_walk None (m.author ∷ later_targets m.author))
  unfolding not_begun
  whole_places = subst (λ l. InPlaces m.author (open_walk None l)) (reaching_claims β m.author).starts (reaching_claims β m.author).begins.1

  whole_turned : (r : Reply) → InPlaces m.author (turned m.author None m.author (later_targets m.author) r)
  whole_turned r = turned_places m.author None m.author (later_targets m.author) whole_places r

  own_name_now : can_ask m.author ≡ true → find β (asked_name m.author) ≡ None → still_open ≡ stored_now β m.author
  unfolding stored_now stored_by
  own_name_now a e = sym (ap (stored_by m.author) (waits_organization β m m.author _ (kept_asks β m.author whole_walk a e)))

  begins_known : can_ask m.author ≡ true → (o : Option Reply) → find β (asked_name m.author) ≡ o
      → KeptCursor β m (elim o as (λ _. Cursor) [ None ↦ cursor still_open [] on_own_name | Some r ↦ own_on β m r ])
  unfolding stage_of PointWaits numbers_of
  begins_known a None e = let now = own_name_now a e in record { stage = (stage_claims β m).begins; waits = (a, e); author = now; numbers = open_numbers now }
  begins_known a (Some r) e = owns r (applied_own β m a r e) ((stage_claims β m).own_known (stage_claims β m).begins a r e) (kept_known β m.author whole_walk a r e) (whole_turned r)

  begins_by : (b : Bool) → can_ask m.author ≡ b
      → KeptCursor β m (elim b as (λ _. Cursor) [
        | true ↦ elim (find β (asked_name m.author)) as (λ _. Cursor) [ None ↦ cursor still_open [] on_own_name | Some r ↦ own_on β m r ]
        | false ↦ own_on β m Reply.NoRecord
      ])
  begins_by true a = begins_known a (find β (asked_name m.author)) refl
  begins_by false a = owns Reply.NoRecord (applied_skipped β m a) ((stage_claims β m).own_too_long (stage_claims β m).begins a) (kept_skipped β m.author whole_walk a) (whole_turned Reply.NoRecord)

  begins : KeptCursor β m (begin_on β m)
  unfolding begin_on
  begins = begins_by (can_ask m.author) refl

  -- ---------------------------------------------------------------- where it stands

  right_at : (st : Stored) (ws : List (Identifier × Stored)) (x : Point) → KeptStage β m (stage_of m st ws x) → PointWaits β m st ws x → run_over β (evaluate m) ≡ stands_at m x
  unfolding stage_of PointWaits stands_at
  right_at st ws on_own_name k w = (stage_claims β m).asks_own w.0 w.1
  right_at st ws (on_author q) k w = (stage_claims β m).asks_applying k _ ((reaching_claims β m.author).asks q w.0)
  right_at st ws (on_completing d s p q) k w = (stage_claims β m).asks_completing k _ ((reaching_claims β m.author).asks q w.0)
  right_at st ws (on_identifier d s p i q is) k w =
      (stage_claims β m).asks_comparing (subst (λ z. KeptStage β m (comparing d s p z (alignments_read s m.author st ws) (i ∷ is))) w.1.1.0.1 k) w.1.0 _ ((reaching_claims β i.domain).asks q w.0)
  right_at st ws (at_verdict v) k w = (stage_claims β m).gives k

  right_of : (c : Cursor) → KeptCursor β m c → run_over β (evaluate m) ≡ stands_at m c.point
  right_of c k = right_at c.author c.passed c.point k.stage k.waits

-- ------------------------------------------------------------------ the answer to the name that it needs

module _ (β : Answers Reply) (m : Message) (c : Cursor) (k : KeptCursor β m c) (r : Reply) where
  more : Name → Answers Reply
  more n = β ++ ((n, r) ∷ [])

  moves_at : (x : Point) → KeptStage β m (stage_of m c.author c.passed x) → PointWaits β m c.author c.passed x → (n : Name) → stands_at m x ≡ needs n
      → KeptCursor (β ++ ((n, r) ∷ [])) m (answered_at (β ++ ((n, r) ∷ [])) m c r x)
  unfolding stage_of PointWaits stands_at answered_at
  moves_at on_own_name g w n e = subst (λ z. KeptCursor (β ++ ((z, r) ∷ [])) m (own_on (β ++ ((z, r) ∷ [])) m r)) (needs_injective _ n e)
      (owns β' m r (applied_own β' m w.0 r (find_new β (asked_name m.author) r w.1)) ((stage_claims β' m).own_known (stage_claims β' m).begins w.0 r (find_new β (asked_name m.author) r w.1))
      (kept_answered β m.author (whole_walk β m) w.0 w.1 r) (whole_turned β' m r))
    where
      β' : Answers Reply
      β' = β ++ ((asked_name m.author, r) ∷ [])
  moves_at (on_author q) g w n e = subst (λ z. KeptCursor (β ++ ((z, r) ∷ [])) m (apply_reached (β ++ ((z, r) ∷ [])) m (reach_after (β ++ ((z, r) ∷ [])) m.author q r))) (needs_injective _ n e)
      (applies_reached _ m ((stage_claims β m).stays _ g) (follows_more w.1 _) _ ((reaching_claims β m.author).answers q w.0 r))
  moves_at (on_completing d s p q) g w n e = subst (λ z. KeptCursor (β ++ ((z, r) ∷ [])) m (complete_reached (β ++ ((z, r) ∷ [])) m d s p (reach_after (β ++ ((z, r) ∷ [])) m.author q r))) (needs_injective _ n e)
      (completes_reached _ m d s p ((stage_claims β m).stays _ g) (in_force_stays β m _ s w.1) _ ((reaching_claims β m.author).answers q w.0 r))
  moves_at (on_identifier d s p i q is) g w n e =
      subst (λ z. KeptCursor (β ++ ((z, r) ∷ [])) m (compare_reached (β ++ ((z, r) ∷ [])) m d s p c.author c.passed i is (λ l. compare_on (β ++ ((z, r) ∷ [])) m d s p c.author l is) (reach_after (β ++ ((z, r) ∷ [])) i.domain q r))) (needs_injective _ n e)
      (compares_reached _ m d s p c.author c.passed i is (compares_all _ m d s p c.author is) ((stage_claims β m).stays _ g)
      ((reaching_claims β m.author).stays _ c.author k.author w.1.1.0.1) (in_force_stays β m _ s w.1.1.1.1.0)
      (passed_stays β s m.author c.passed _ (stored_domain m.author c.author) w.1.1.1.1.1) w.1.1.1.0
      w.1.0 w.1.1.0.0 w.1.1.0.1 _ ((reaching_claims β i.domain).answers q w.0 r))
  moves_at (at_verdict v) g w n e = absurd (has≢needs e)

pub cursor_claims : (β : Answers Reply) (m : Message) → CursorClaims β m
unfolding answered_on stands
cursor_claims β m = record {
  begins = begins β m;
  answers = λ c k n e r. moves_at β m c k r c.point k.stage k.waits n e;
  right = right_of β m;
}
