-- What the proofs of the functions cite that go on from the author's walk.
use mathlib.Core.Path.{◌≡◌, refl, ap, sym, ◌∙◌}
use mathlib.Core.List.{List, [], ◌∷◌}
use mathlib.Core.Bool.{Bool, true, false}
use Prim.Native.Nat.{ℕ}
use denote.Enum.Declared.{tag_of}
use types.Run.{OneOf, miss}
use Rattle.std.specs.Prelude.{if◌then◌else◌, Some, None, Option}
use Rattle.octets.specs.Octets.{Octets, any}
use Rattle.lookup.specs.Lookup.{Answers}
use Rattle.domain.specs.declared.Octet.{Octet}
use Rattle.policy.specs.declared.Settings.{Settings}
use Rattle.force.specs.InForce.{in_force}
use Rattle.txt.specs.declared.Reply.{Reply}
use Rattle.alignment.specs.Alignments.{must_walk}
use Rattle.alignment_stored.specs.code.Stored.{slot}
use Rattle.walk_progress.specs.declared.Applicable.{Applicable}
use Rattle.walk_progress.specs.declared.Organization.{Organization}
use Rattle.walk_progress.specs.declared.Reach.{Reach}
use Rattle.walk_progress.specs.code.Summary.{found_in, summary_in}
use Rattle.walk_progress.specs.code.Progress.{stored_in}
use Rattle.walk_progress.specs.code.Reaching.{progress_of}
use Rattle.walk_progress.specs.code.Stops.{reached_in, stored_of}
use Rattle.walk_progress.specs.contracts.Reach.{the_type as reach_type}
use Rattle.policy.specs.declared.Policy.{Policy}
use Rattle.verdict.specs.declared.Result.{Result}
use Rattle.verdict.specs.declared.AppliedPolicy.{AppliedPolicy}
use Rattle.verdict.specs.Verdict.{policy_of, unjudged}
use Rattle.verdict_judgement.specs.declared.Terms.{Terms}
use Rattle.verdict_judgement.specs.code.Judging.{stored_message}
use Rattle.verdict_cursor.specs.declared.Ruling.{Ruling}
use Rattle.verdict_cursor.specs.declared.Place.{Place}
use Rattle.verdict_cursor.specs.code.Stage.{applied_in, other_in}
use Rattle.verdict_cursor.specs.code.Cursor.{Cursor, cursor, at_verdict, complete_reached, judge_on, apply, apply_reached}
use Rattle.verdict_cursor.specs.code.Standing.{WritesAuthor, unjudged_at, cursor_in}
use Rattle.verdict_cursor.proofs.PassedLaws.{stands_same, only_author}
use Rattle.verdict_author.specs.code.Author.{author_reached, author_stored, StoresAuthor, ComparesAll}
use Rattle.verdict_found.specs.code.Found.{Completes, Judges, Finds}

-- whichever way a test goes
either : {A : Type 0} (b : Bool) (x : A) → x ≡ (if b then x else x)
either true x = refl
either false x = refl

module _ (domains : Octets) (numbers : List ℕ) (t : Terms) (β : Answers Reply) (before after : List ℕ) where
  -- a walk that is over, with what applies by it
  abbrev applied_with : Organization → Option Applicable → Cursor
  applied_with o a = apply β (stored_message domains numbers t) (author_stored domains numbers (author_reached domains numbers (Reach.Done o))) (author_reached domains numbers (Reach.Done o)) (other_in (found_in (slot domains numbers 0) a))

  module _ (p : Place) where
    -- a walk that is over is stored
    pub completes_over : (r : Ruling) (w : Reach) → OneOf (1 ∷ 2 ∷ []) (tag_of reach_type w) → ComparesAll domains numbers t β r w before after p → Completes domains numbers t β r w before after p
    unfolding complete_reached reached_in progress_of stored_message
    completes_over r (Reach.Stops s) k e = absurd (miss (1 ∷ 2 ∷ []) 0 tt k)
    completes_over r Reach.Failed k e = e
    completes_over r (Reach.Done o) k e = e

    -- and it is completed already, whether or not any identifier must be walked
    pub judges_usable : (begin : Octet) (s u : Settings) (o : Organization) (policy : AppliedPolicy) → in_force s ≡ Some u → policy ≡ policy_of false t.existence u
        → ComparesAll domains numbers t β (record { begin = begin; settings = u; policy = policy }) (Reach.Done o) before after p → Judges domains numbers t β begin s o before after p
    unfolding judge_on complete_reached reached_in progress_of stored_message
    judges_usable begin s u o policy f g e =
        let m = stored_message domains numbers t in
        rw (f, judge_on, ← g) (stands_same e (either (any (must_walk u m.author) m.identifiers) _))

    -- with its record
    pub finds_record : (o : Organization) (begin : Octet) (s : Settings) → o.applicable ≡ Some (record { begin = begin; settings = s }) → Judges domains numbers t β begin s o before after p → Finds domains numbers t β (Reach.Done o) before after p
    unfolding apply_reached apply applied_in other_in reached_in summary_in found_in progress_of stored_message
    finds_record o begin s f e = stands_same e (ap (applied_with o) (sym f))

  pub judges_not_usable : (begin : Octet) (s : Settings) (o : Organization) → in_force s ≡ None → StoresAuthor domains numbers (Reach.Done o) before after → Judges domains numbers t β begin s o before after (Place.NotUsable begin)
  unfolding judge_on cursor_in unjudged_at stored_message
  judges_not_usable begin s o f e = record { place = rw (f, judge_on, e.number); only = λ z. only_author domains numbers t before after _ (Place.NotUsable begin) _ refl e z }

  -- or without
  pub finds_none : (o : Organization) → o.applicable ≡ None → StoresAuthor domains numbers (Reach.Done o) before after → Finds domains numbers t β (Reach.Done o) before after Place.NoRecord
  unfolding apply_reached apply applied_in other_in reached_in summary_in found_in progress_of cursor_in unjudged_at stored_message
  finds_none o f e = record {
    place = ap (λ st. cursor st [] (at_verdict (unjudged (stored_message domains numbers t) [] Result.None (AppliedPolicy.Known Policy.None)))) e.number ∙ ap (applied_with o) (sym f);
    only = λ z. only_author domains numbers t before after _ Place.NoRecord _ refl e z;
  }

  pub finds_error : WritesAuthor before after (stored_of 1) → Finds domains numbers t β Reach.Failed before after Place.NotKnown
  unfolding apply_reached apply applied_in reached_in stored_in stored_of cursor_in unjudged_at stored_message
  finds_error e = record { place = rw e.number; only = λ z. only_author domains numbers t before after _ Place.NotKnown _ refl e z }
