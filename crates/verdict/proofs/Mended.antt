-- Real answers for errors change no verdict but temperror.
use Rattle.std.specs.Prelude.{Some, None, Option}
use mathlib.Core.Path.{◌≡◌, refl, ap, ap₂, sym, ◌∙◌, subst}
use mathlib.Core.Bool.{Bool, true, false, ◌&&◌, ◌||◌, true≢false, false≢true}
use Rattle.octets.specs.Octets.{is_nothing, same}
use Rattle.octets.proofs.ListLaws.{any_weaker, neither}
use Rattle.lookup.specs.Lookup.{Name, Lookups, path, value}
use Rattle.lookup.proofs.RunLaws.{value_same}
use Rattle.lookup.proofs.BoundLaws.{value_bind}
use Rattle.lookup.proofs.ReadingLaws.{value_reading}
use Rattle.domain.specs.Domain.{Domain}
use Rattle.policy.specs.declared.Settings.{Settings}
use Rattle.force.specs.InForce.{in_force}
use Rattle.txt.specs.declared.Reply.{Reply}
use Rattle.txt.specs.Answers.{Answer, records, no_records, lookup_error, reply}
use Rattle.alignment.specs.Alignments.{Identifier, mode_of, alignments}
use Rattle.walk.specs.Claims.{is_error, holds_error}
use Rattle.walk.specs.Walk.{organizational_domain}
use Rattle.walk.proofs.Errors.{errors_bind, organization_error}
use Rattle.verdict.specs.declared.Result.{Result}
use Rattle.verdict.specs.Message.{Message}
use Rattle.verdict.specs.Verdict.{Applied, own, other, not_known, no_record, applied_record, policy_of, disposition_of, Verdict, verdict_of, unjudged, judge_by, judge, evaluate, separate_walks}
use Rattle.verdict.specs.Claims.{applied_settings, passes, is_relaxed, same_organization, aligns, is_pass, passed_or_temperror}
use Rattle.verdict.specs.Mending.{is_lookup_error, Mends, is_settled, SameVerdict, Delayed, waits, stays, failed_or_temperror, ErrorsMended}
use Rattle.verdict.proofs.ErrorShows.{is_not_known, applied_error, shows_asked}
use Rattle.verdict.proofs.PassExactly.{judged_pass}

-- ------------------------------------------------------------------ what rests on the applied record

-- two verdicts by the same applied record, whatever their answers
record OneRecord (v w : Verdict) : Type 0 where
  pub policy : w.policy ≡ v.policy
  pub domain : w.domain ≡ v.domain
  pub disposition : w.result ≡ v.result → w.disposition ≡ v.disposition

itself : (v : Verdict) → OneRecord v v
itself v = record { policy = refl; domain = refl; disposition = λ e. refl }

module _ (α β : Name → Reply) (m : Message) where
  one_in_force : (b : Bool) (d : Domain) (s : Option Settings) → OneRecord (value α (judge_by m b d s)) (value β (judge_by m b d s))
  unfolding judge_by value verdict_of
  one_in_force b d None = itself (unjudged m d Result.Permerror _)
  one_in_force b d (Some s) =
      subst (λ v. OneRecord v (value β (judge_by m b d (Some s)))) (sym (value_bind α (alignments s m.author m.identifiers) _))
      (subst (OneRecord _) (sym (value_bind β (alignments s m.author m.identifiers) _))
      (record { policy = refl; domain = refl; disposition = λ e. ap (disposition_of m.support (policy_of b m.existence s)) e }))

  one_record : (a : Applied) → OneRecord (value α (judge m a)) (value β (judge m a))
  unfolding judge value
  one_record not_known = itself _
  one_record no_record = itself _
  one_record (own f) = one_in_force true f.domain (in_force f.settings)
  one_record (other f) = one_in_force false f.domain (in_force f.settings)

evaluated : (α : Name → Reply) (m : Message) → value α (evaluate m) ≡ value α (judge m (value α (applied_record m.author)))
unfolding evaluate
evaluated α m = value_bind α (applied_record m.author) (judge m)

-- ------------------------------------------------------------------ a pass rests on a usable record

module _ (α : Name → Reply) (m : Message) where
  passing_in : (b : Bool) (d : Domain) (s : Option Settings) → is_pass (value α (judge_by m b d s)).result ≡ true → (t : Settings) × (s ≡ Some t)
  unfolding judge_by value unjudged verdict_of is_pass
  passing_in b d None e = absurd (false≢true e)
  passing_in b d (Some s) e = (s, refl)

  passing : (a : Applied) → is_pass (value α (judge m a)).result ≡ true → (t : Settings) × (applied_settings a ≡ Some t) × (is_not_known a ≡ false)
  unfolding judge value unjudged verdict_of is_pass applied_settings is_not_known
  passing not_known e = absurd (false≢true e)
  passing no_record e = absurd (false≢true e)
  passing (own f) e = let (t, u) = passing_in true f.domain (in_force f.settings) e in (t, u, refl)
  passing (other f) e = let (t, u) = passing_in false f.domain (in_force f.settings) e in (t, u, refl)

is_pass_true : (r : Result) → is_pass r ≡ true → r ≡ Result.Pass
unfolding is_pass
is_pass_true Result.None e = absurd (false≢true e)
is_pass_true Result.Pass e = refl
is_pass_true Result.Fail e = absurd (false≢true e)
is_pass_true Result.Temperror e = absurd (false≢true e)
is_pass_true Result.Permerror e = absurd (false≢true e)

only_pass : (r : Result) → passed_or_temperror r ≡ true → (r ≡ Result.Temperror → ⊥) → is_pass r ≡ true
unfolding passed_or_temperror is_pass
only_pass Result.None e h = absurd (false≢true e)
only_pass Result.Pass e h = refl
only_pass Result.Fail e h = absurd (false≢true e)
only_pass Result.Temperror e h = absurd (h refl)
only_pass Result.Permerror e h = absurd (false≢true e)

-- ------------------------------------------------------------------ two sets of answers, the same but for errors of the first

known_both : (x y : Option Domain) → same_organization x y ≡ true → (is_nothing x ≡ false) × (is_nothing y ≡ false)
unfolding same_organization is_nothing
known_both None y e = absurd (false≢true e)
known_both (Some a) None e = absurd (false≢true e)
known_both (Some a) (Some b) e = (refl, refl)

still_so : (p q r x y : Bool) → (x ≡ true → y ≡ true) → (p && (q || r && x)) ≡ true → (p && (q || r && y)) ≡ true
still_so false q r x y h e = e
still_so true true r x y h e = refl
still_so true false true x y h e = h e
still_so true false false x y h e = e

module _ (α β : Name → Reply) (agree : (n : Name) → is_error (α n) ≡ false → β n ≡ α n) where
  same_without : {A : Type 0} (t : Lookups Reply A) → holds_error α (path α t) ≡ false → value β t ≡ value α t
  unfolding holds_error
  same_without t e = value_same is_error α β agree t e

  organization_same : (d : Domain) → is_nothing (value α (organizational_domain d)) ≡ false → value β (organizational_domain d) ≡ value α (organizational_domain d)
  organization_same d e = same_without (organizational_domain d) (sym (organization_error α d) ∙ e)

  still_same : (d a : Domain) → same_organization (value α (organizational_domain d)) (value α (organizational_domain a)) ≡ true
      → same_organization (value β (organizational_domain d)) (value β (organizational_domain a)) ≡ true
  still_same d a e =
      let (known, known_author) = known_both (value α (organizational_domain d)) (value α (organizational_domain a)) e in
      ap₂ same_organization (organization_same d known) (organization_same a known_author) ∙ e

  -- an identifier that aligns does so by equal domains, or by two walks without an error
  still_aligns : (s : Settings) (author : Domain) (i : Identifier) → aligns α s author i ≡ true → aligns β s author i ≡ true
  unfolding aligns
  still_aligns s author i e = still_so (passes i.outcome) (same i.domain author) (is_relaxed (mode_of s i.kind)) _ _ (still_same i.domain author) e

  module _ (m : Message) where
    applied_same : holds_error α (path α (applied_record m.author)) ≡ false → value β (applied_record m.author) ≡ value α (applied_record m.author)
    applied_same e = same_without (applied_record m.author) e

    -- the same applied record and the same result
    Same : Type 0
    Same = (value β (applied_record m.author) ≡ value α (applied_record m.author)) × ((value β (evaluate m)).result ≡ (value α (evaluate m)).result)

    -- a pass stays a pass, by the same record
    still_passes : is_pass (value α (evaluate m)).result ≡ true → Same
    unfolding Same
    still_passes e =
        let (s, usable, known) = passing α m (value α (applied_record m.author)) (ap (λ (v : Verdict). is_pass v.result) (sym (evaluated α m)) ∙ e) in
        let applied = applied_same (sym (applied_error α m.author) ∙ known) in
        let aligned = any_weaker (aligns α s m.author) (aligns β s m.author) (still_aligns s m.author) m.identifiers (sym (judged_pass α m s usable) ∙ e) in
        let again = judged_pass β m s (ap applied_settings applied ∙ usable) ∙ aligned in
        (applied, is_pass_true (value β (evaluate m)).result again ∙ sym (is_pass_true (value α (evaluate m)).result e))

    -- without an error nothing changes
    same_in_all : holds_error α (path α (evaluate m)) ≡ false → Same
    unfolding Same evaluate
    same_in_all e =
        let (none, _) = neither (holds_error α (path α (applied_record m.author))) _ (sym (errors_bind α (applied_record m.author) (judge m)) ∙ e) in
        (applied_same none, ap (λ (v : Verdict). v.result) (same_without (evaluate m) e))

    -- an error shows as pass or temperror, so the result is pass, or there is none
    same_but_temperror : ((value α (evaluate m)).result ≡ Result.Temperror → ⊥) → Same
    same_but_temperror h = go (holds_error α (path α (evaluate m))) refl
      where
        go : (b : Bool) → holds_error α (path α (evaluate m)) ≡ b → Same
        go true e = still_passes (only_pass (value α (evaluate m)).result (shows_asked α m e) h)
        go false e = same_in_all e

    -- and so the verdicts are by one record
    still_one_record : Same → OneRecord (value α (evaluate m)) (value β (evaluate m))
    unfolding Same
    still_one_record s =
        subst (λ v. OneRecord v (value β (evaluate m))) (sym (evaluated α m))
        (subst (OneRecord _) (sym (evaluated β m ∙ ap (λ a. value β (judge m a)) s.0)) (one_record α β m (value α (applied_record m.author))))

-- ------------------------------------------------------------------ the claims

-- an error is read as an error (and so is what cannot be read, which is the same in both sets)
read_error : (a : Answer) → is_lookup_error a ≡ true → is_error (reply a) ≡ true
unfolding is_lookup_error reply is_error
read_error (records bytes) e = absurd (false≢true e)
read_error no_records e = absurd (false≢true e)
read_error lookup_error e = refl

pub errors_mended : ErrorsMended
unfolding ErrorsMended Mends separate_walks Same is_settled failed_or_temperror
errors_mended m α β mends = record { same = unchanged; delayed = by_result v.result refl; fails = λ e. fail_shown e (by_result v.result refl) }
  where
    α' : Name → Reply
    α' n = reply (α n)

    β' : Name → Reply
    β' n = reply (β n)

    v : Verdict
    v = value α (separate_walks m)

    w : Verdict
    w = value β (separate_walks m)

    agree : (n : Name) → is_error (α' n) ≡ false → β' n ≡ α' n
    agree n e = ap reply (go (is_lookup_error (α n)) refl)
      where
        go : (b : Bool) → is_lookup_error (α n) ≡ b → β n ≡ α n
        go true f = absurd (true≢false (sym (read_error (α n) f) ∙ e))
        go false f = mends n f

    unchanged : is_settled v.result ≡ true → SameVerdict v w
    unchanged e =
        subst (λ x. SameVerdict x w) (sym (value_reading reply α (evaluate m)))
        (subst (SameVerdict _) (sym (value_reading reply β (evaluate m))) (record { result = s.1; policy = o.policy; disposition = o.disposition s.1; domain = o.domain }))
      where
        settled : (value α' (evaluate m)).result ≡ Result.Temperror → ⊥
        settled f = false≢true (ap is_settled (sym f) ∙ ap (λ (x : Verdict). is_settled x.result) (sym (value_reading reply α (evaluate m))) ∙ e)

        s : Same α' β' agree m
        s = same_but_temperror α' β' agree m settled

        o : OneRecord (value α' (evaluate m)) (value β' (evaluate m))
        o = still_one_record α' β' agree m s

    by_result : (r : Result) → v.result ≡ r → Delayed v w
    by_result Result.None e = stays (unchanged (ap is_settled e))
    by_result Result.Pass e = stays (unchanged (ap is_settled e))
    by_result Result.Fail e = stays (unchanged (ap is_settled e))
    by_result Result.Temperror e = waits e
    by_result Result.Permerror e = stays (unchanged (ap is_settled e))

    fail_shown : w.result ≡ Result.Fail → Delayed v w → failed_or_temperror v.result ≡ true
    fail_shown e (waits f) = ap failed_or_temperror f
    fail_shown e (stays s) = ap failed_or_temperror (sym s.result ∙ e)
