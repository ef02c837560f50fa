-- What the proofs of the functions cite that go on from the reply at the author's own name.
use Rattle.std.specs.Prelude.{Some, None, Option}
use mathlib.Core.Path.{◌≡◌, refl, sym}
use mathlib.Core.List.{List}
use mathlib.Core.Bool.{true, false}
use Prim.Native.Nat.{ℕ, ◌+◌}
use native.Mathlib.Omega.{arith}
use Rattle.octets.specs.Octets.{Octets, any}
use Rattle.lookup.specs.Lookup.{Answers}
use Rattle.domain.specs.Domain.{Domain, label_count}
use Rattle.domain.proofs.DomainLaws.{last_all}
use Rattle.domain_labels.specs.declared.Target.{Target}
use Rattle.policy.specs.declared.Settings.{Settings}
use Rattle.force.specs.InForce.{in_force}
use Rattle.txt.specs.declared.Reply.{Reply}
use Rattle.alignment.specs.Alignments.{must_walk}
use Rattle.walk.specs.Walk.{Found}
use Rattle.walk_progress.specs.declared.Applicable.{Applicable}
use Rattle.walk_progress.specs.declared.Reach.{Reach}
use Rattle.std.specs.declared.ops.ControlFlow.{ControlFlow}
use Rattle.walk_progress.specs.code.Summary.{found_in}
use Rattle.walk_progress.specs.code.Turns.{one_more}
use Rattle.walk_progress.specs.code.Reaching.{Reached, reach_by, reach, later_targets}
use Rattle.walk_progress.specs.code.Stops.{turned_in, stored_of, Turns}
use Rattle.verdict.specs.declared.AppliedPolicy.{AppliedPolicy}
use Rattle.verdict.specs.Verdict.{policy_of}
use Rattle.verdict_judgement.specs.declared.Terms.{Terms}
use Rattle.verdict_judgement.specs.code.Judging.{stored_message}
use Rattle.verdict_cursor.specs.declared.Ruling.{Ruling}
use Rattle.verdict_cursor.specs.declared.Place.{Place}
use Rattle.verdict_cursor.specs.code.Cursor.{judge_on, apply, own_on}
use Rattle.verdict_cursor.specs.code.Standing.{WritesAuthor, unjudged_at, cursor_in}
use Rattle.verdict_cursor.proofs.PassedLaws.{only_author}
use Rattle.verdict_author.specs.code.Author.{author_reached, StoresAuthor, ComparesAll}
use Rattle.verdict_found.specs.code.Found.{Completes, Finds}
use Rattle.verdict_own.specs.code.Own.{gone_in, JudgesOwn, Owns}

-- the target that is the domain itself
abbrev pub whole : Target
whole = record { begin = record { 0 = 0 }; wider = record { 0 = 0 } }

-- the turn there: the domain has no label more
turned_whole : (d : Domain) (r : Reply) (t : ControlFlow Reach (Option Applicable)) → Turns d whole None r t → (on : Option Found → Reached) → reach_by d None d (one_more d d) on r ≡ turned_in d on t
unfolding one_more found_in
turned_whole d r t e on = rw (last_all d (label_count d + 1) (omega arith)) (sym (e on))

module _ (domains : Octets) (numbers : List ℕ) (t : Terms) (β : Answers Reply) (before after : List ℕ) where
  abbrev author : Domain
  author = (stored_message domains numbers t).author

  -- what is in force of the author's own record, at the beginning of the author domain
  abbrev ruled : Settings → AppliedPolicy → Ruling
  ruled s policy = record { begin = record { 0 = 0 }; settings = s; policy = policy }

  module _ (p : Place) where
    module _ (s : Settings) (policy : AppliedPolicy) (e : policy ≡ policy_of true t.existence s) (w : Reach) where
      -- some identifier must be walked
      pub judges_walked : true ≡ any (must_walk s author) (stored_message domains numbers t).identifiers → Completes domains numbers t β (ruled s policy) w before after p → JudgesOwn domains numbers t β s w before after p
      unfolding judge_on stored_message
      judges_walked b g = rw (← b, ← e) g

      -- none must
      pub judges_unwalked : false ≡ any (must_walk s author) (stored_message domains numbers t).identifiers → ComparesAll domains numbers t β (ruled s policy) w before after p → JudgesOwn domains numbers t β s w before after p
      unfolding judge_on stored_message
      judges_unwalked b g = rw (← b, ← e) g

    pub owns_usable : (s u : Settings) (turned : ControlFlow Reach (Option Applicable)) (w : Reach) → in_force s ≡ Some u → Turns author whole None (Reply.Record s) turned
        → author_reached domains numbers w ≡ gone_in β author turned → JudgesOwn domains numbers t β u w before after p → Owns domains numbers t β (Reply.Record s) before after p
    unfolding own_on apply stored_message
    owns_usable s u turned w f k e g = rw (f, turned_whole author (Reply.Record s) turned k (λ l. reach β author l (later_targets author)), ← e) g

    pub owns_none : (w : Reach) → author_reached domains numbers w ≡ reach β author None (later_targets author) → Finds domains numbers t β w before after p → Owns domains numbers t β Reply.NoRecord before after p
    unfolding own_on stored_message
    owns_none w e f = rw (← e) f

  pub owns_not_usable : (s : Settings) (turned : ControlFlow Reach (Option Applicable)) (w : Reach) → in_force s ≡ None → Turns author whole None (Reply.Record s) turned
      → author_reached domains numbers w ≡ gone_in β author turned → StoresAuthor domains numbers w before after → Owns domains numbers t β (Reply.Record s) before after (Place.NotUsable (record { 0 = 0 }))
  unfolding own_on apply judge_on cursor_in unjudged_at stored_message
  owns_not_usable s turned w f k e g = record {
    place = rw (f, judge_on, turned_whole author (Reply.Record s) turned k (λ l. reach β author l (later_targets author)), ← e, g.number);
    only = λ z. only_author domains numbers t before after _ (Place.NotUsable (record { 0 = 0 })) _ refl g z;
  }

  pub owns_error : WritesAuthor before after (stored_of 1) → Owns domains numbers t β Reply.Error before after Place.NotKnown
  unfolding own_on apply stored_of cursor_in unjudged_at stored_message
  owns_error e = record { place = rw e.number; only = λ z. only_author domains numbers t before after _ Place.NotKnown _ refl e z }
