-- How far a walk goes over the answers taken: to the first of its targets whose name lacks one, or to its end. What is kept of the one walk that
-- is open is where it pauses.
use Rattle.std.specs.Prelude.{◌≡◌, List, [], ◌∷◌, true, false, drop, Option, None, Some}
use Rattle.lookup.specs.Lookup.{Answers, find}
use Rattle.domain.specs.Domain.{Domain, can_ask, asked_name, targets}
use Rattle.policy.specs.declared.Psd.{Psd}
use Rattle.txt.specs.declared.Reply.{Reply}
use Rattle.walk.specs.Walk.{Found, found}
use Rattle.walk_progress.specs.code.Summary.{Summary}
use Rattle.walk_progress.specs.code.Turns.{last_summary, one_more, wider_summary}
use Rattle.walk_progress.specs.code.Progress.{Progress, open_walk, ended, KeptWalk, InPlaces}

-- the last record found so far; the target whose answer is wanted, and that target with one more label of the start; and those after it
pub record Pause : Type 0 where
  pub last : Option Found
  pub target : Domain
  pub wider : Domain
  pub more : List Domain

abbrev pub pause : Option Found → (target wider : Domain) → List Domain → Pause
pause l t w ts = record { last = l; target = t; wider = w; more = ts }

-- a walk pauses, or it is over, with what its records come to or nothing after an error
pub data Reached : Type 0 where
  pauses : Pause → Reached
  over : Option Summary → Reached

-- by the psd of a record that is found
unfoldable pub reach_found : (start : Domain) → (last : Option Found) → Found → (wider : Domain) → (on : Option Found → Reached) → Psd → Reached
reach_found start last f w on Psd.Yes = over (Some (wider_summary start last f w))
reach_found start last f w on Psd.No = over (Some (last_summary start (Some f)))
reach_found start last f w on Psd.Unset = on (Some f)

-- by the reply at a target
unfoldable pub reach_by : (start : Domain) → (last : Option Found) → (target wider : Domain) → (on : Option Found → Reached) → Reply → Reached
reach_by start last t w on Reply.Error = over None
reach_by start last t w on Reply.NoRecord = on last
reach_by start last t w on (Reply.Record s) = reach_found start last (found t s) w on s.psd

-- over the answers taken, with these targets left
unfoldable pub reach : Answers Reply → (start : Domain) → (last : Option Found) → List Domain → Reached
reach β start last [] = over (Some (last_summary start last))
reach β start last (t ∷ ts) = elim (can_ask t) [
  | true ↦ elim (find β (asked_name t)) [
    | None ↦ pauses (pause last t (one_more start t) ts)
    | Some r ↦ reach_by start last t (one_more start t) (λ l. reach β start l ts) r
  ]
  | false ↦ reach β start last ts
]

-- with the reply that the pause waited for
unfoldable pub reach_after : Answers Reply → (start : Domain) → Pause → Reply → Reached
reach_after β start p r = reach_by start p.last p.target p.wider (λ l. reach β start l p.more) r

-- the targets after the domain itself
unfoldable pub later_targets : Domain → List Domain
later_targets d = drop 1 (targets d)

-- ------------------------------------------------------------------ what is kept

unfoldable pub progress_of : Reached → Progress
progress_of (pauses p) = open_walk p.last (p.target ∷ p.more)
progress_of (over s) = ended s

-- where a walk pauses, its target's name is to be asked and has no answer
pub record Waiting (β : Answers Reply) (d : Domain) (p : Pause) : Type 0 where
  pub can : can_ask p.target ≡ true
  pub lacks : find β (asked_name p.target) ≡ None
  pub wide : p.wider ≡ one_more d p.target

unfoldable pub Waits : Answers Reply → Domain → Reached → Type 0
Waits β d (pauses p) = Waiting β d p
Waits β d (over s) = Unit

-- what holds of a walk that has come so far
pub record KeptReached (β : Answers Reply) (d : Domain) (w : Reached) : Type 0 where
  pub walk : KeptWalk β d (progress_of w)
  pub places : InPlaces d (progress_of w)
  pub waits : Waits β d w
