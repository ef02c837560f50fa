-- What is kept of a walk between answers: where it stands while it is open, and once it has ended what it came to.
use Rattle.std.specs.Prelude.{◌≡◌, List, [], ◌∷◌, drop, Option, None, Some}
use Rattle.lookup.specs.Lookup.{Lookups, done, Answers}
use Rattle.lookup.specs.code.Following.{Follows}
use Rattle.domain.specs.Domain.{Domain, begin_of, targets}
use Rattle.policy.specs.declared.Psd.{Psd}
use Rattle.txt.specs.declared.Reply.{Reply}
use Rattle.walk.specs.Walk.{Found, found}
use Rattle.walk_progress.specs.code.Stored.{Stored, still_open, failed, from}
use Rattle.walk_progress.specs.code.Summary.{Summary, summarized}
use Rattle.walk_progress.specs.code.Turns.{last_summary, suffix_summary, summarized_from}

-- open: the last record found so far, and the targets left. Ended: what its records come to, or nothing after an error
pub data Progress : Type 0 where
  open_walk : (last : Option Found) → (left : List Domain) → Progress
  ended : Option Summary → Progress

-- a walk that has not looked at a target
unfoldable pub not_begun : Domain → Progress
not_begun d = open_walk None (targets d)

-- what is left of the walk
unfoldable pub left_of : (start : Domain) → Progress → Lookups Reply (Option Summary)
left_of start (open_walk last ds) = summarized_from start last ds
left_of start (ended s) = done s

-- over the answers taken, and any more, the walk worked out afresh runs as what is left of it
pub record KeptWalk (β : Answers Reply) (d : Domain) (p : Progress) : Type 0 where
  pub follows : Follows β (summarized d) (left_of d p)

-- after a record that is found, by its psd
unfoldable pub turned_by : (start : Domain) → (last : Option Found) → Found → (left : List Domain) → Psd → Progress
turned_by start last f ds Psd.Yes = ended (Some (suffix_summary start last f))
turned_by start last f ds Psd.No = ended (Some (last_summary start (Some f)))
turned_by start last f ds Psd.Unset = open_walk (Some f) ds

-- after the reply at its next target
unfoldable pub turned : (start : Domain) → (last : Option Found) → Domain → (left : List Domain) → Reply → Progress
turned start last d ds Reply.Error = ended None
turned start last d ds Reply.NoRecord = open_walk last ds
turned start last d ds (Reply.Record s) = turned_by start last (found d s) ds s.psd

-- ------------------------------------------------------------------ what is stored

-- "each when its walk ends, as where it begins in its own domain"
unfoldable pub stored_in : Domain → Progress → Stored
stored_in d (open_walk last ds) = still_open
stored_in d (ended None) = failed
stored_in d (ended (Some s)) = from (begin_of s.organization d)

-- every domain of a progress is an end of the walk's own, so that places can stand for them
unfoldable pub IsEnd : (whole : Domain) → Domain → Type 0
IsEnd whole d = d ≡ drop (begin_of d whole) whole

unfoldable pub LastIsEnd : Domain → Option Found → Type 0
LastIsEnd d None = Unit
LastIsEnd d (Some f) = IsEnd d f.domain

unfoldable pub AllEnds : Domain → List Domain → Type 0
AllEnds d [] = Unit
AllEnds d (t ∷ ts) = IsEnd d t × AllEnds d ts

unfoldable pub InPlaces : Domain → Progress → Type 0
InPlaces d (open_walk last ds) = LastIsEnd d last × AllEnds d ds
InPlaces d (ended None) = Unit
InPlaces d (ended (Some s)) = IsEnd d s.organization
