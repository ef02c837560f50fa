-- What a walk does at a target, and over its last ones, by where the code places them.
use Rattle.std.specs.Prelude.{◌≡◌, List, ℕ, zero, suc, min, drop, Some, None, Option}
use Rattle.lookup.specs.Lookup.{Answers}
use Rattle.domain.specs.declared.Octet.{Octet}
use Rattle.domain.specs.Domain.{Domain}
use Rattle.domain.specs.declared.Starts.{Starts}
use Rattle.domain_labels.specs.declared.Target.{Target}
use Rattle.domain_labels.specs.code.Places.{target_by}
use Rattle.txt.specs.declared.Reply.{Reply}
use Rattle.walk.specs.Walk.{Found}
use Rattle.walk_known.specs.code.Kept.{looked_at}
use Rattle.walk_progress.specs.declared.Applicable.{Applicable}
use Rattle.walk_progress.specs.declared.Reach.{Reach}
use Rattle.std.specs.declared.ops.ControlFlow.{ControlFlow}
use Rattle.walk_progress.specs.code.Summary.{found_in}
use Rattle.walk_progress.specs.code.Turns.{last_summary}
use Rattle.walk_progress.specs.code.Reaching.{Reached, pause, pauses, over, reach_by}
use Rattle.walk_progress.specs.code.Stops.{targets_left, reached_in, turned_in}

-- at a target, with the last n targets after it, by what is known of it; `wider` is the target with one more label
unfoldable pub by_looked : Domain → (last : Option Found) → (target wider : Domain) → (n : ℕ) → (on : Option Found → Reached) → Option Reply → Reached
by_looked d last t w n on None = pauses (pause last t w (targets_left d n))
by_looked d last t w n on (Some r) = reach_by d last t w on r

module _ (β : Answers Reply) (d : Domain) where
  -- at a target that is placed
  unfoldable pub reach_at : Target → (last : Option Found) → (n : ℕ) → (on : Option Found → Reached) → Reached
  reach_at at last n on = by_looked d last (drop at.begin.0 d) (drop at.wider.0 d) n on (looked_at β (drop at.begin.0 d))

  -- over its last n targets, by the places found
  unfoldable pub reach_placed : List Octet → (last : Option Found) → (n : ℕ) → Reached
  reach_placed begins last zero = over (Some (last_summary d last))
  reach_placed begins last (suc n) = reach_at (target_by begins (suc n)) last n (λ l. reach_placed begins l n)

-- of a step at a target, with the last n targets after it, however the walk goes on
abbrev pub Steps : Answers Reply → Domain → (at : Target) → (last : Option Applicable) → (n : ℕ) → ControlFlow Reach (Option Applicable) → Type 0
Steps β d at last n t = (on : Option Found → Reached) → turned_in d on t ≡ reach_at β d at (found_in d last) n on

-- of a walk over its last n targets, of no more than eight or the labels counted
abbrev pub ReachesPlaced : Answers Reply → Domain → Starts → (last : Option Applicable) → (n : ℕ) → Reach → Type 0
ReachesPlaced β d s last n r = reached_in d r ≡ reach_placed β d s.begins (found_in d last) (min n (min 8 s.labels.0))
