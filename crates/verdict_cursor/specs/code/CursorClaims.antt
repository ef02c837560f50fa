-- What holds of a cursor: it stands where a to f afresh stand, and what it stores is what is worked out afresh.
use Rattle.std.specs.Prelude.{◌≡◌, List, [], ◌∷◌, ◌++◌, map, true, ℕ, get_or, Some, Option, None}
use Rattle.lookup.specs.Lookup.{Name, done, Answers, find, needs, run_over}
use Rattle.lookup.specs.code.Following.{Follows}
use Rattle.domain.specs.Domain.{Domain, can_ask, asked_name}
use Rattle.policy.specs.declared.Settings.{Settings}
use Rattle.txt.specs.declared.Reply.{Reply}
use Rattle.alignment.specs.Alignments.{Identifier, settled_alignment}
use Rattle.walk_progress.specs.code.Stored.{Stored, stored_domain, number_in, stored_now}
use Rattle.walk_progress.specs.code.Reaching.{pauses, KeptReached}
use Rattle.verdict.specs.Message.{Message}
use Rattle.verdict.specs.Claims.{applied_settings}
use Rattle.verdict.specs.Stored.{numbers_each, numbers_stored}
use Rattle.verdict.specs.Verdict.{Applied, applied_by, applied_record, evaluate}
use Rattle.verdict_cursor.specs.code.Stage.{Stage, own_name, author_walk, completing, comparing, finished, KeptStage}
use Rattle.verdict_cursor.specs.code.Cursor.{Point, on_own_name, on_author, on_completing, on_identifier, at_verdict, Cursor, alignments_read, begin_on, answered_on, stands, numbers_of}

-- ------------------------------------------------------------------ the invariant

unfoldable pub stage_of : Message → Stored → List (Identifier × Stored) → Point → Stage
stage_of m st passed on_own_name = own_name
stage_of m st passed (on_author q) = author_walk
stage_of m st passed (on_completing d s p q) = completing d s p
stage_of m st passed (on_identifier d s p i q is) = comparing d s p (stored_domain m.author st) (alignments_read s m.author st passed) (i ∷ is)
stage_of m st passed (at_verdict v) = finished v

-- the settings in force of the applied record, over these answers and any more
unfoldable pub InForceIs : Answers Reply → Message → Settings → Type 0
InForceIs β m s = (a : Applied) × (Follows β (applied_record m.author) (done a) × (applied_settings a ≡ Some s))

-- the numbers of identifiers that were passed are those that their walks give, worked out afresh; without the author's organizational domain all are 0
unfoldable pub Passed : Answers Reply → Settings → (author : Domain) → List (Identifier × Stored) → Option Domain → Type 0
Passed β s author ws None = (walk : ℕ) → get_or (map (λ w. number_in w.1) ws) walk 0 ≡ 0
Passed β s author ws (Some o) =
    (γ : Answers Reply) (is : List Identifier) → numbers_each (β ++ γ) s author (map (λ w. w.0) ws ++ is) ≡ map (λ w. number_in w.1) ws ++ numbers_each (β ++ γ) s author is

unfoldable pub PointWaits : Answers Reply → Message → Stored → List (Identifier × Stored) → Point → Type 0
PointWaits β m st passed on_own_name = (can_ask m.author ≡ true) × (find β (asked_name m.author) ≡ None)
PointWaits β m st passed (on_author q) = KeptReached β m.author (pauses q) × Follows β (applied_record m.author) (applied_by m.author Reply.NoRecord)
PointWaits β m st passed (on_completing d s p q) = KeptReached β m.author (pauses q) × InForceIs β m s
PointWaits β m st passed (on_identifier d s p i q is) =
    KeptReached β i.domain (pauses q)
    × ((settled_alignment s m.author i ≡ None) × (((o : Domain) × (stored_domain m.author st ≡ Some o)) × ((map (λ w. w.0) passed ++ i ∷ is ≡ m.identifiers)
    × (InForceIs β m s × Passed β s m.author passed (stored_domain m.author st)))))
PointWaits β m st passed (at_verdict v) = Unit

pub record KeptCursor (β : Answers Reply) (m : Message) (c : Cursor) : Type 0 where
  pub stage : KeptStage β m (stage_of m c.author c.passed c.point)
  pub waits : PointWaits β m c.author c.passed c.point
  -- what is stored is what is worked out afresh
  pub author : c.author ≡ stored_now β m.author
  pub numbers : (walk : ℕ) → get_or (numbers_of c) walk 0 ≡ get_or (numbers_stored β m) walk 0

-- ------------------------------------------------------------------ the claims

pub record CursorClaims (β : Answers Reply) (m : Message) : Type 0 where
  pub begins : KeptCursor β m (begin_on β m)
  -- the answer to the name that it needs
  pub answers : (c : Cursor) → KeptCursor β m c → (n : Name) → stands m c ≡ needs n → (r : Reply)
      → KeptCursor (β ++ ((n, r) ∷ [])) m (answered_on (β ++ ((n, r) ∷ [])) m c r)
  -- a to f afresh stand where it stands
  pub right : (c : Cursor) → KeptCursor β m c → run_over β (evaluate m) ≡ stands m c
