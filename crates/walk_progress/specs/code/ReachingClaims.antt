-- What holds of a walk that goes as far as the answers taken let it.
use Rattle.std.specs.Prelude.{◌≡◌, List, [], ◌∷◌, ◌++◌, Option, Some, option_map}
use Rattle.lookup.specs.Lookup.{Answers, needs, run_over}
use Rattle.domain.specs.Domain.{Domain, targets, asked_name}
use Rattle.txt.specs.declared.Reply.{Reply}
use Rattle.walk.specs.Walk.{Found}
use Rattle.walk_progress.specs.code.Stored.{Stored, stored_domain, stored_now}
use Rattle.walk_progress.specs.code.Summary.{Summary, summarized}
use Rattle.walk_progress.specs.code.Turns.{one_more}
use Rattle.walk_progress.specs.code.Progress.{open_walk, ended, not_begun, KeptWalk, turned, stored_in, InPlaces}
use Rattle.walk_progress.specs.code.Reaching.{Pause, Reached, pauses, reach_by, reach, reach_after, later_targets, progress_of, KeptReached}

pub record ReachingClaims (β : Answers Reply) (d : Domain) : Type 0 where
  -- the domain itself comes first
  pub starts : targets d ≡ d ∷ later_targets d
  pub begins : KeptWalk β d (not_begun d) × InPlaces d (not_begun d)
  -- from any place that is kept
  pub reaches : (last : Option Found) (ts : List Domain) → KeptWalk β d (open_walk last ts) → InPlaces d (open_walk last ts) → KeptReached β d (reach β d last ts)
  -- and after a turn
  pub turns : (last : Option Found) (t : Domain) (ts : List Domain) (r : Reply) → KeptWalk β d (turned d last t ts r) → InPlaces d (turned d last t ts r)
      → KeptReached β d (reach_by d last t (one_more d t) (λ l. reach β d l ts) r)
  -- the answer that a pause waited for
  pub answers : (p : Pause) → KeptReached β d (pauses p) → (r : Reply)
      → KeptReached (β ++ ((asked_name p.target, r) ∷ [])) d (reach_after (β ++ ((asked_name p.target, r) ∷ [])) d p r)
  -- where it pauses, its target's name is the one needed
  pub asks : (p : Pause) → KeptReached β d (pauses p) → run_over β (summarized d) ≡ needs (asked_name p.target)
  -- what is stored of it is what is worked out afresh
  pub exactly : (w : Reached) → KeptReached β d w → stored_in d (progress_of w) ≡ stored_now β d
  pub same_domain : (s : Option Summary) → InPlaces d (ended s) → stored_domain d (stored_in d (ended s)) ≡ option_map (λ o. o.organization) s
  -- and stays so once it has ended, whatever more is answered
  pub stays : (γ : Answers Reply) (st : Stored) → st ≡ stored_now β d → {o : Domain} → stored_domain d st ≡ Some o → st ≡ stored_now (β ++ γ) d
