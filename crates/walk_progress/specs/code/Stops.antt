-- How code's answers on the way of a walk are read, and what its functions promise. Every value is read.
use Rattle.std.specs.Prelude.{◌≡◌, List, ℕ, ◌-◌, eqb, length, drop, if◌then◌else◌, Option, None, Some}
use Rattle.lookup.specs.Lookup.{Answers}
use Rattle.domain.specs.Domain.{Domain, targets}
use Rattle.domain_labels.specs.declared.Target.{Target}
use Rattle.txt.specs.declared.Reply.{Reply}
use Rattle.walk.specs.Walk.{Found}
use Rattle.walk_progress.specs.code.Stored.{Stored, still_open, failed, from}
use Rattle.walk_progress.specs.declared.Applicable.{Applicable}
use Rattle.walk_progress.specs.declared.Stop.{Stop}
use Rattle.walk_progress.specs.declared.Reach.{Reach}
use Rattle.std.specs.declared.ops.ControlFlow.{ControlFlow}
use Rattle.std.specs.declared.ops.ControlFlow.TheVariants.{Break, Continue}
use Rattle.walk_progress.specs.code.Summary.{found_in, summary_in}
use Rattle.walk_progress.specs.code.Reaching.{Pause, pause, Reached, pauses, over, reach_by, reach, reach_after}

-- the last n targets of a walk
unfoldable pub targets_left : Domain → (n : ℕ) → List Domain
targets_left d n = drop (length (targets d) - n) (targets d)

unfoldable pub pause_in : Domain → Stop → Pause
pause_in d s = pause (found_in d s.last) (drop s.target.begin.0 d) (drop s.target.wider.0 d) (targets_left d s.more.0)

unfoldable pub reached_in : Domain → Reach → Reached
reached_in d (Reach.Stops s) = pauses (pause_in d s)
reached_in d Reach.Failed = over None
reached_in d (Reach.Done o) = over (Some (summary_in d o))

-- with what follows where the walk goes on
unfoldable pub turned_in : Domain → (on : Option Found → Reached) → ControlFlow Reach (Option Applicable) → Reached
turned_in d on (Break r) = reached_in d r
turned_in d on (Continue last) = on (found_in d last)

-- a stored number: 0 while the walk is open, 1 after an error, else two more than the place
unfoldable pub stored_of : ℕ → Stored
stored_of n = if eqb n 0 then still_open else if eqb n 1 then failed else from (n - 2)

-- ------------------------------------------------------------------ promises

-- of a turn at a reply to a target, however the walk goes on
abbrev pub Turns : Domain → (at : Target) → (last : Option Applicable) → Reply → ControlFlow Reach (Option Applicable) → Type 0
Turns d at last r t = (on : Option Found → Reached) → turned_in d on t ≡ reach_by d (found_in d last) (drop at.begin.0 d) (drop at.wider.0 d) on r

-- of a walk that has its last n targets left
abbrev pub ReachesFrom : Answers Reply → Domain → (last : Option Applicable) → (n : ℕ) → Reach → Type 0
ReachesFrom β d last n r = reached_in d r ≡ reach β d (found_in d last) (targets_left d n)

-- of a walk from its start
abbrev pub ReachesWhole : Answers Reply → Domain → Reach → Type 0
ReachesWhole β d r = reached_in d r ≡ reach β d None (targets d)

-- of a walk that gets the reply that it stopped for
abbrev pub ReachesAfter : Answers Reply → Domain → Stop → Reply → Reach → Type 0
ReachesAfter β d s q r = reached_in d r ≡ reach_after β d (pause_in d s) q
