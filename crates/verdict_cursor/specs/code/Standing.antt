-- How it is read where code stands between calls, and what the functions promise that move it on. Every value is read, so that the promises have
-- no premise.
use Rattle.std.specs.Prelude.{◌≡◌, List, [], ◌∷◌, ◌&&◌, ℕ, zero, suc, ◌+◌, ◌-◌, ◌≤◌, min, leb, drop, get_or, if◌then◌else◌}
use Rattle.octets.specs.Octets.{Octets}
use Rattle.lookup.specs.Lookup.{Answers}
use Rattle.policy.specs.declared.Policy.{Policy}
use Rattle.txt.specs.declared.Reply.{Reply}
use Rattle.alignment.specs.Alignments.{Identifier}
use Rattle.alignment_stored.specs.code.Stored.{slot, identifier_at, stored_identifiers}
use Rattle.walk_progress.specs.code.Stored.{Stored, still_open}
use Rattle.walk_progress.specs.code.Stops.{pause_in, stored_of}
use Rattle.verdict.specs.declared.Result.{Result}
use Rattle.verdict.specs.declared.AppliedPolicy.{AppliedPolicy}
use Rattle.verdict_judgement.specs.declared.Terms.{Terms}
use Rattle.verdict_cursor.specs.declared.Ruling.{Ruling}
use Rattle.verdict_cursor.specs.declared.Place.{Place}
use Rattle.verdict.specs.Message.{Message}
use Rattle.verdict.specs.Verdict.{Verdict, unjudged}
use Rattle.verdict_cursor.specs.code.Stage.{concluded}
use Rattle.verdict_judgement.specs.code.Judging.{stored_message}
use Rattle.verdict_cursor.specs.code.Cursor.{Cursor, cursor, on_own_name, on_author, on_completing, on_identifier, at_verdict, alignments_read, compare_on, begin_on, answered_on, numbers_of}

-- what is stored of a walk
unfoldable pub stored_at : List ℕ → (walk : ℕ) → Stored
stored_at stored walk = stored_of (get_or stored walk 0)

-- nothing is stored of a walk or of those after it
unfoldable pub NoneFrom : (walk : ℕ) → (stored : List ℕ) → Type 0
NoneFrom walk stored = (k : ℕ) → walk ≤ k → get_or stored k 0 ≡ 0

-- the author's number is written, and no other
pub record WritesAuthor (before after : List ℕ) (st : Stored) : Type 0 where
  pub number : stored_at after 0 ≡ st
  pub others : (k : ℕ) → get_or after (suc k) 0 ≡ get_or before (suc k) 0

module _ (domains : Octets) (numbers : List ℕ) where
  -- so many identifiers from a walk's on, with what is stored of each
  unfoldable pub passed_from : (stored : List ℕ) → (walk count : ℕ) → List (Identifier × Stored)
  passed_from stored walk zero = []
  passed_from stored walk (suc n) = (identifier_at domains numbers walk, stored_at stored walk) ∷ passed_from stored (walk + 1) n

  module _ (t : Terms) where
    abbrev message_of : Message
    message_of = stored_message domains numbers t

    -- how many identifiers there are
    unfoldable pub given_count : ℕ
    given_count = min t.identifiers 16

    module _ (stored : List ℕ) where
      -- the verdict by what is stored
      unfoldable pub verdict_by : Ruling → Verdict
      verdict_by r = concluded message_of (drop r.begin.0 message_of.author) r.policy (alignments_read r.settings message_of.author (stored_at stored 0) (passed_from stored 1 given_count))

      unfoldable pub judged_at : Ruling → Cursor
      judged_at r = cursor (stored_at stored 0) (passed_from stored 1 given_count) (at_verdict (verdict_by r))

      unfoldable pub unjudged_at : Octets → Result → AppliedPolicy → Cursor
      unjudged_at d r p = cursor (stored_at stored 0) [] (at_verdict (unjudged message_of d r p))

      -- a walk that no identifier has is not read
      unfoldable pub cursor_in : Place → Cursor
      cursor_in Place.OwnName = cursor still_open [] on_own_name
      cursor_in (Place.Author s) = cursor still_open [] (on_author (pause_in message_of.author s))
      cursor_in (Place.Completing r s) = cursor still_open [] (on_completing (drop r.begin.0 message_of.author) r.settings r.policy (pause_in message_of.author s))
      cursor_in (Place.Identifier r w s) =
          if leb 1 w && leb w given_count
          then cursor (stored_at stored 0) (passed_from stored 1 (w - 1))
          (on_identifier (drop r.begin.0 message_of.author) r.settings r.policy (identifier_at domains numbers w) (pause_in (slot domains numbers w) s) (stored_identifiers domains numbers (w + 1) (given_count - w)))
          else judged_at r
      cursor_in Place.NotKnown = unjudged_at [] Result.Temperror AppliedPolicy.Unknown
      cursor_in Place.NoRecord = unjudged_at [] Result.None (AppliedPolicy.Known Policy.None)
      cursor_in (Place.NotUsable begin) = unjudged_at (drop begin.0 message_of.author) Result.Permerror (AppliedPolicy.Known Policy.None)
      cursor_in (Place.Judged r) = judged_at r

    -- ---------------------------------------------------------------- promises: what is stored on the way in and on the way out

    -- the numbers stored are those of where it stands, and no others
    unfoldable pub OnlyThese : (stored : List ℕ) → Place → Type 0
    OnlyThese stored p = (walk : ℕ) → get_or stored walk 0 ≡ get_or (numbers_of (cursor_in stored p)) walk 0

    -- where code stands; and that, with what is known of the numbers before, no others are stored
    pub record StandsAt (known : Type 0) (after : List ℕ) (p : Place) (c : Cursor) : Type 0 where
      pub place : cursor_in after p ≡ c
      pub only : known → OnlyThese after p

    -- the first step
    abbrev pub Begins : Answers Reply → (before after : List ℕ) → Place → Type 0
    Begins β before after p = StandsAt (NoneFrom 0 before) after p (begin_on β message_of)

    -- an answer, which is among the replies taken
    abbrev pub Moves : Answers Reply → (before : List ℕ) → Place → Reply → (after : List ℕ) → Place → Type 0
    Moves β before p r after q = StandsAt (OnlyThese before p) after q (answered_on β message_of (cursor_in before p) r)

    -- the identifiers from a walk's on
    abbrev pub ComparesFrom : Answers Reply → (before : List ℕ) → Ruling → (walk : ℕ) → (after : List ℕ) → Place → Type 0
    ComparesFrom β before r w after q =
        StandsAt (NoneFrom w before) after q (compare_on β message_of (drop r.begin.0 message_of.author) r.settings r.policy (stored_at before 0) (passed_from before 1 (w - 1)) (stored_identifiers domains numbers w (given_count + 1 - w)))
