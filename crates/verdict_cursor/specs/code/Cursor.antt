-- What is kept between calls of where an evaluation stands: what is stored of each walk, and where the one open walk pauses. A name's answer moves
-- it on, until another name lacks one or the verdict stands; nothing that was done is done again.
use Rattle.std.specs.Prelude.{List, [], ◌∷◌, ◌++◌, map, Bool, true, false, ℕ, if◌then◌else◌, Some, None, Option}
use Rattle.octets.specs.Octets.{any}
use Rattle.lookup.specs.Lookup.{Name, Answers, find, Standing, needs, has}
use Rattle.domain.specs.Domain.{Domain, targets, can_ask, asked_name}
use Rattle.policy.specs.declared.Policy.{Policy}
use Rattle.policy.specs.declared.Settings.{Settings}
use Rattle.force.specs.InForce.{in_force}
use Rattle.txt.specs.declared.Reply.{Reply}
use Rattle.alignment.specs.declared.Alignment.{Alignment}
use Rattle.alignment.specs.Alignments.{Identifier, settled_alignment, must_walk, compared}
use Rattle.walk.specs.Walk.{found}
use Rattle.walk_progress.specs.code.Stored.{Stored, still_open, failed, stored_domain, number_in}
use Rattle.walk_progress.specs.code.Turns.{one_more}
use Rattle.walk_progress.specs.code.Progress.{ended, stored_in}
use Rattle.walk_progress.specs.code.Reaching.{Pause, Reached, pauses, over, reach_by, reach, reach_after, later_targets, progress_of}
use Rattle.verdict.specs.declared.Result.{Result}
use Rattle.verdict.specs.declared.AppliedPolicy.{AppliedPolicy}
use Rattle.verdict.specs.Message.{Message}
use Rattle.verdict.specs.Verdict.{Applied, own, other, not_known, no_record, policy_of, Verdict, unjudged}
use Rattle.verdict_cursor.specs.code.Stage.{concluded, applied_in}

pub data Point : Type 0 where
  -- a: at the author's own name, and on the author's walk where that has no record
  on_own_name : Point
  on_author : Pause → Point
  -- c: with the applied record's domain, settings and policy, on the author's walk, and then on an identifier's, before the others
  on_completing : (domain : Domain) → Settings → AppliedPolicy → Pause → Point
  on_identifier : (domain : Domain) → Settings → AppliedPolicy → Identifier → Pause → (rest : List Identifier) → Point
  at_verdict : Verdict → Point

-- what is stored of the author's walk, and of the walk of each identifier that was passed, in their order; nothing is stored of those not yet passed
pub record Cursor : Type 0 where
  pub author : Stored
  pub passed : List (Identifier × Stored)
  pub point : Point

abbrev pub cursor : Stored → List (Identifier × Stored) → Point → Cursor
cursor st passed p = record { author = st; passed = passed; point = p }

-- ------------------------------------------------------------------ c, by what is stored

-- the alignment that needs no walk; else "unknown" without the author's organizational domain; else "equal organizational domains"
unfoldable pub read_by : Option Alignment → (organization own : Option Domain) → Alignment
read_by (Some a) organization o = a
read_by None None o = Alignment.Unknown
read_by None (Some d) o = compared d o

unfoldable pub read_alignment : Settings → Domain → Stored → Identifier × Stored → Alignment
read_alignment s author st w = read_by (settled_alignment s author w.0) (stored_domain author st) (stored_domain w.0.domain w.1)

unfoldable pub alignments_read : Settings → Domain → Stored → List (Identifier × Stored) → List Alignment
alignments_read s author st passed = map (read_alignment s author st) passed

-- whether an identifier is walked, from its alignment without a walk and the author's organizational domain
unfoldable pub is_walked : Option Alignment → Option Domain → Bool
is_walked (Some a) o = false
is_walked None None = false
is_walked None (Some o) = true

-- ------------------------------------------------------------------ on, over the answers taken

module _ (β : Answers Reply) (m : Message) where
  -- an identifier's walk pauses, or it is stored and the others follow
  unfoldable pub compare_reached : Domain → Settings → AppliedPolicy → Stored → List (Identifier × Stored) → Identifier → List Identifier → (on : List (Identifier × Stored) → Cursor) → Reached → Cursor
  compare_reached d s p st passed i is on (pauses q) = cursor st passed (on_identifier d s p i q is)
  compare_reached d s p st passed i is on (over w) = on (passed ++ ((i, stored_in i.domain (ended w)) ∷ []))

  -- "All are walked in the given order"
  unfoldable pub compare_on : Domain → Settings → AppliedPolicy → Stored → List (Identifier × Stored) → List Identifier → Cursor
  compare_on d s p st passed [] = cursor st passed (at_verdict (concluded m d p (alignments_read s m.author st passed)))
  compare_on d s p st passed (i ∷ is) = elim (is_walked (settled_alignment s m.author i) (stored_domain m.author st)) [
    | true ↦ compare_reached d s p st passed i is (λ l. compare_on d s p st l is) (reach β i.domain None (targets i.domain))
    | false ↦ compare_on d s p st (passed ++ ((i, still_open) ∷ [])) is
  ]

  -- the author's walk pauses, or it is stored and the identifiers follow
  unfoldable pub complete_reached : Domain → Settings → AppliedPolicy → Reached → Cursor
  complete_reached d s p (pauses q) = cursor still_open [] (on_completing d s p q)
  complete_reached d s p (over w) = compare_on d s p (stored_in m.author (ended w)) [] m.identifiers

  -- with the applied record: what is stored of the author's walk so far, and how far it goes if it must be completed
  unfoldable pub judge_on : Stored → Reached → (is_own : Bool) → Domain → Option Settings → Cursor
  judge_on st w is_own d None = cursor st [] (at_verdict (unjudged m d Result.Permerror (AppliedPolicy.Known Policy.None)))
  judge_on st w is_own d (Some s) =
      if any (must_walk s m.author) m.identifiers
      then complete_reached d s (policy_of is_own m.existence s) w
      else compare_on d s (policy_of is_own m.existence s) st [] m.identifiers

  unfoldable pub apply : Stored → Reached → Applied → Cursor
  apply st w not_known = cursor st [] (at_verdict (unjudged m [] Result.Temperror AppliedPolicy.Unknown))
  apply st w no_record = cursor st [] (at_verdict (unjudged m [] Result.None (AppliedPolicy.Known Policy.None)))
  apply st w (own f) = judge_on st w true f.domain (in_force f.settings)
  apply st w (other f) = judge_on st w false f.domain (in_force f.settings)

  -- without an own record: the author's walk pauses, or it gives the applied record
  unfoldable pub apply_reached : Reached → Cursor
  apply_reached (pauses q) = cursor still_open [] (on_author q)
  apply_reached (over w) = apply (stored_in m.author (ended w)) (over w) (applied_in w)

  -- with an own record: the author's walk so far, stored if it has ended
  abbrev pub own_reached : Applied → Reached → Cursor
  own_reached a w = apply (stored_in m.author (progress_of w)) w a

  -- with the reply at the author's own name: "pausing if its own name has a record"
  unfoldable pub own_on : Reply → Cursor
  own_on Reply.Error = apply failed (over None) not_known
  own_on Reply.NoRecord = apply_reached (reach β m.author None (later_targets m.author))
  own_on (Reply.Record s) =
      own_reached (own (found m.author s)) (reach_by m.author None m.author (one_more m.author m.author) (λ l. reach β m.author l (later_targets m.author)) (Reply.Record s))

  -- from the beginning
  unfoldable pub begin_on : Cursor
  begin_on = elim (can_ask m.author) [
    | true ↦ elim (find β (asked_name m.author)) [ None ↦ cursor still_open [] on_own_name | Some r ↦ own_on r ]
    | false ↦ own_on Reply.NoRecord
  ]

  -- with the reply that it waited for, which is among the answers
  unfoldable pub answered_at : Cursor → Reply → Point → Cursor
  answered_at c r on_own_name = own_on r
  answered_at c r (on_author q) = apply_reached (reach_after β m.author q r)
  answered_at c r (on_completing d s p q) = complete_reached d s p (reach_after β m.author q r)
  answered_at c r (on_identifier d s p i q is) = compare_reached d s p c.author c.passed i is (λ l. compare_on d s p c.author l is) (reach_after β i.domain q r)
  answered_at c r (at_verdict v) = c

  unfoldable pub answered_on : Cursor → Reply → Cursor
  answered_on c r = answered_at c r c.point

-- ------------------------------------------------------------------ where it stands

unfoldable pub stands_at : Message → Point → Standing Verdict
stands_at m on_own_name = needs (asked_name m.author)
stands_at m (on_author q) = needs (asked_name q.target)
stands_at m (on_completing d s p q) = needs (asked_name q.target)
stands_at m (on_identifier d s p i q is) = needs (asked_name q.target)
stands_at m (at_verdict v) = has v

unfoldable pub stands : Message → Cursor → Standing Verdict
stands m c = stands_at m c.point

-- the name that it needs, if it needs one
unfoldable pub needed : Standing Verdict → Option Name
needed (needs n) = Some n
needed (has v) = None

-- ------------------------------------------------------------------ the numbers stored

-- of the author's walk, and of each identifier that was passed
unfoldable pub numbers_of : Cursor → List ℕ
numbers_of c = number_in c.author ∷ map (λ w. number_in w.1) c.passed
