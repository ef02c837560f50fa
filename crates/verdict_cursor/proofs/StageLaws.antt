-- From stage to stage.
use mathlib.Core.Path.{◌≡◌, refl, ap, sym, ◌∙◌, fun_ext}
use mathlib.Core.List.{List, [], ◌∷◌, ◌++◌, append_assoc, append-nil}
use mathlib.Core.Bool.{Bool, true, false}
use Rattle.std.specs.Prelude.{if◌then◌else◌, Some, None, Option, option_map}
use Rattle.octets.specs.Octets.{any}
use Rattle.lookup.specs.Lookup.{Name, Lookups, done, ask, ◌>>=◌, Answers, find, needs, run, run_over}
use Rattle.lookup.proofs.RunLaws.{bind_bind, onward, run_bind, run_open}
use Rattle.lookup.specs.code.Following.{Follows}
use Rattle.lookup.proofs.FollowLaws.{follows_self, follows_same, follows_on, follows_more, follows_run, follows_known, follows_bind}
use Rattle.domain.specs.Domain.{Domain, can_ask, asked_name}
use Rattle.policy.specs.declared.Settings.{Settings}
use Rattle.force.specs.InForce.{in_force}
use Rattle.txt.specs.declared.Reply.{Reply}
use Rattle.alignment.specs.declared.Alignment.{Alignment}
use Rattle.alignment.specs.Alignments.{Identifier, settled_alignment, must_walk, compared, align_by, align, align_each, alignments}
use Rattle.walk.specs.Walk.{record_at, Found, found, Walked, walk, organizational, organizational_domain, found_at, found_suffix}
use Rattle.walk_progress.specs.code.Summary.{Summary, or_found, summary, summarized}
use Rattle.walk_progress.specs.code.Progress.{ended, left_of, KeptWalk}
use Rattle.verdict.specs.declared.AppliedPolicy.{AppliedPolicy}
use Rattle.verdict.specs.Message.{Message}
use Rattle.verdict.specs.Verdict.{Applied, own, other, not_known, no_record, other_or_none, applied_of_walk, applied_by, applied_record, policy_of, judge_by, judge, evaluate}
use Rattle.verdict_cursor.specs.code.Stage.{other_in, applied_in, Stage, completing, comparing, concluded, left, KeptStage, in_force_stage, applied_stage, own_stage}
use Rattle.verdict_cursor.specs.code.StageClaims.{organization_of_ended, StageClaims}
use Rattle.octets.proofs.RefusingLaws.{option_map_map}

-- ------------------------------------------------------------------ a walk, by its summary

organization_summary : (d : Domain) → organizational_domain d ≡ (summarized d >>= λ s. done (option_map (λ o. o.organization) s))
unfolding organizational_domain summarized summary ◌>>=◌
organization_summary d =
    ap (λ f. walk d >>= f) (fun_ext λ fs. ap done (sym (option_map_map (λ (s : Summary). s.organization) (summary d) fs))) ∙ sym (bind_bind (walk d) _ _)

other_either : (f g : Option Found) → other_or_none f g ≡ other_in (or_found f g)
unfolding other_or_none other_in or_found
other_either (Some f) g = refl
other_either None (Some g) = refl
other_either None None = refl

applied_same : (author : Domain) (w : Walked) → applied_of_walk author w ≡ applied_in (option_map (summary author) w)
unfolding applied_of_walk applied_in summary
applied_same author None = refl
applied_same author (Some fs) = other_either (found_at (organizational author fs) fs) (found_suffix fs)

applied_summary : (author : Domain) → applied_by author Reply.NoRecord ≡ (summarized author >>= λ s. done (applied_in s))
unfolding applied_by summarized ◌>>=◌
applied_summary author = ap (λ f. walk author >>= f) (fun_ext λ fs. ap done (applied_same author fs)) ∙ sym (bind_bind (walk author) _ _)

-- ------------------------------------------------------------------ from stage to stage

module _ (m : Message) where
  -- ---------------------------------------------------------------- a

  stage_by : (b : Bool) (d : Domain) (s : Option Settings) → judge_by m b d s ≡ left m (in_force_stage m b d s)
  unfolding judge_by in_force_stage left alignments concluded ◌>>=◌
  stage_by b d None = refl
  stage_by b d (Some s) =
      elim (any (must_walk s m.author) m.identifiers) as (λ t.
      ((if t then (organizational_domain m.author >>= λ o. align_each s m.author o m.identifiers) else align_each s m.author None m.identifiers)
      >>= λ l. done (concluded m d (policy_of b m.existence s) l))
      ≡ left m (if t then completing d s (policy_of b m.existence s) else comparing d s (policy_of b m.existence s) None [] m.identifiers)) [
        | true ↦ bind_bind (organizational_domain m.author) _ _
        | false ↦ refl
      ]

  stage_of : (a : Applied) → judge m a ≡ left m (applied_stage m a)
  unfolding judge applied_stage left
  stage_of not_known = refl
  stage_of no_record = refl
  stage_of (own f) = stage_by true f.domain (in_force f.settings)
  stage_of (other f) = stage_by false f.domain (in_force f.settings)

  stage_own : (r : Reply) → (applied_by m.author r >>= judge m) ≡ left m (own_stage m r)
  unfolding applied_by own_stage left ◌>>=◌
  stage_own Reply.Error = stage_of not_known
  stage_own (Reply.Record s) = stage_of (own (found m.author s))
  stage_own Reply.NoRecord = refl

  own_asked : can_ask m.author ≡ true → evaluate m ≡ ask (asked_name m.author) (λ r. applied_by m.author r >>= judge m)
  unfolding evaluate applied_record record_at ◌>>=◌
  own_asked e = rw e

  own_skipped : can_ask m.author ≡ false → evaluate m ≡ (applied_by m.author Reply.NoRecord >>= judge m)
  unfolding evaluate applied_record record_at ◌>>=◌
  own_skipped e = rw e

  -- ---------------------------------------------------------------- c

  module _ (d : Domain) (s : Settings) (p : AppliedPolicy) (o : Option Domain) (l : List Alignment) (i : Identifier) (is : List Identifier) where
    -- the first identifier, and then the others
    first_compared : left m (comparing d s p o l (i ∷ is)) ≡ (align s m.author o i >>= λ a. left m (comparing d s p o (l ++ (a ∷ [])) is))
    unfolding left align_each ◌>>=◌
    first_compared =
        bind_bind (align s m.author o i) _ _
        ∙ ap (λ f. align s m.author o i >>= f) (fun_ext λ a.
        bind_bind (align_each s m.author o is) _ _ ∙ ap (λ f. align_each s m.author o is >>= f) (fun_ext λ k. ap (λ x. done (concluded m d p x)) (sym (append_assoc l (a ∷ []) k))))

module _ (β : Answers Reply) (m : Message) where
  -- a walk that has ended, in place of the walk
  organizes_ended : (d : Domain) (w : Option Summary) → KeptWalk β d (ended w) → Follows β (organizational_domain d) (done (organization_of_ended w))
  unfolding left_of ◌>>=◌
  organizes_ended d w k = follows_on (follows_same (organization_summary d)) (follows_bind k.follows λ s. follows_self _)

  next_stage : {g h : Stage} → KeptStage β m g → Follows β (left m g) (left m h) → KeptStage β m h
  next_stage k f = record { follows = follows_on k.follows f }

  -- an open walk
  waits : {A B : Type 0} (t : Lookups Reply A) (f : A → Lookups Reply B) (n : Name) → run_over β t ≡ needs n → run_over β (t >>= f) ≡ needs n
  unfolding run_over onward
  waits t f n e = run_bind (find β) t f ∙ ap (λ u. onward u (λ a. run (find β) (f a))) e

  pub waits_organization : (d : Domain) (n : Name) → run_over β (summarized d) ≡ needs n → run_over β (organizational_domain d) ≡ needs n
  waits_organization d n e = ap (run_over β) (organization_summary d) ∙ waits (summarized d) _ n e

  waits_applied : (author : Domain) (n : Name) → run_over β (summarized author) ≡ needs n → run_over β (applied_by author Reply.NoRecord) ≡ needs n
  waits_applied author n e = ap (run_over β) (applied_summary author) ∙ waits (summarized author) _ n e

  waits_compared : (s : Settings) (o : Domain) (i : Identifier) → settled_alignment s m.author i ≡ None → (n : Name) → run_over β (summarized i.domain) ≡ needs n
      → run_over β (align s m.author (Some o) i) ≡ needs n
  unfolding align align_by
  waits_compared s o i f n e = rw f (waits (organizational_domain i.domain) _ n (waits_organization i.domain n e))

  compared_ended : (s : Settings) (o : Domain) (i : Identifier) (w : Option Summary) → settled_alignment s m.author i ≡ None → KeptWalk β i.domain (ended w)
      → Follows β (align s m.author (Some o) i) (done (compared o (organization_of_ended w)))
  unfolding align align_by ◌>>=◌
  compared_ended s o i w e f = rw e (follows_bind {f = λ x. done (compared o x)} {g = λ x. done (compared o x)} (organizes_ended i.domain w f) λ x. follows_self _)

  -- the applied record: by the reply at the author's own name, and by a walk that has ended
  pub applied_own : can_ask m.author ≡ true → (r : Reply) → find β (asked_name m.author) ≡ Some r → Follows β (applied_record m.author) (applied_by m.author r)
  applied_own a r e = follows_on (follows_same (record_asked a)) (follows_known (asked_name m.author) (applied_by m.author) r e)
    where
      record_asked : can_ask m.author ≡ true → applied_record m.author ≡ ask (asked_name m.author) (applied_by m.author)
      record_asked e = unfold applied_record record_at ◌>>=◌ in rw e

  pub applied_skipped : can_ask m.author ≡ false → Follows β (applied_record m.author) (applied_by m.author Reply.NoRecord)
  unfolding applied_record record_at ◌>>=◌
  applied_skipped e = follows_same (rw e)

  pub applied_ended : {s : Option Summary} → KeptWalk β m.author (ended s) → Follows β (applied_record m.author) (applied_by m.author Reply.NoRecord)
      → Follows β (applied_record m.author) (done (applied_in s))
  unfolding left_of ◌>>=◌
  applied_ended w f = follows_on f (follows_on (follows_same (applied_summary m.author)) (follows_bind w.follows λ x. follows_self _))

  pub stage_claims : StageClaims β m
  unfolding left left_of align align_by ◌>>=◌ align_each run_over run concluded
  stage_claims = record {
    begins = record { follows = follows_self (evaluate m) };
    stays = λ γ k. record { follows = follows_more k.follows γ };
    own_known = λ k a r e. next_stage k (follows_on (follows_same (own_asked m a)) (follows_on (follows_known (asked_name m.author) _ r e) (follows_same (stage_own m r))));
    own_too_long = λ k a. next_stage k (follows_same (own_skipped m a ∙ stage_own m Reply.NoRecord));
    applies = λ k {s} w. next_stage k (follows_on
        (follows_bind (follows_on (follows_same (applied_summary m.author)) (follows_bind w.follows λ x. follows_self _)) λ a. follows_self _)
        (follows_same (stage_of m (applied_in s))));
    completes = λ k {w} e. next_stage k (follows_bind (organizes_ended m.author w e) λ o. follows_self _);
    settles = λ {d} {s} {p} {o} {l} {i} {is} k a e. next_stage k (follows_on (follows_same (first_compared m d s p o l i is)) (follows_same (rw e)));
    unknown = λ {d} {s} {p} {l} {i} {is} k e. next_stage k (follows_on (follows_same (first_compared m d s p None l i is)) (follows_same (rw e)));
    compares = λ {d} {s} {p} {o} {l} {i} {is} k e {w} f.
        next_stage k (follows_on (follows_same (first_compared m d s p (Some o) l i is)) (follows_bind (compared_ended s o i w e f) λ a. follows_self (left m (comparing d s p (Some o) (l ++ (a ∷ [])) is))));
    concludes = λ {d} {s} {p} {o} {l} k. next_stage k (follows_same (ap (λ x. done (concluded m d p x)) (append-nil l)));
    gives = λ k. follows_run k.follows;
    asks_own = λ a e. ap (run_over β) (own_asked m a) ∙ run_open (find β) (asked_name m.author) (λ r. applied_by m.author r >>= judge m) e;
    asks_applying = λ k n e. follows_run k.follows ∙ waits (applied_by m.author Reply.NoRecord) _ n (waits_applied m.author n e);
    asks_completing = λ k n e. follows_run k.follows ∙ waits (organizational_domain m.author) _ n (waits_organization m.author n e);
    asks_comparing = λ {d} {s} {p} {o} {l} {i} {is} k f n e. follows_run k.follows ∙ ap (run_over β) (first_compared m d s p (Some o) l i is) ∙ waits (align s m.author (Some o) i) _ n (waits_compared s o i f n e);
  }
