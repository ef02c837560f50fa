-- What comparing makes of one identifier, and how code says it.
use Rattle.std.specs.Prelude.{if◌then◌else◌, None}
use Rattle.lookup.specs.Lookup.{Answers}
use Rattle.domain.specs.Domain.{Domain, targets}
use Rattle.policy.specs.declared.Settings.{Settings}
use Rattle.txt.specs.declared.Reply.{Reply}
use Rattle.alignment.specs.Alignments.{Identifier, settled_alignment}
use Rattle.walk_progress.specs.code.Stored.{Stored, still_open, stored_domain}
use Rattle.walk_progress.specs.code.Progress.{ended, stored_in}
use Rattle.walk_progress.specs.code.Reaching.{Pause, Reached, pauses, over, reach}
use Rattle.walk_progress.specs.code.Stops.{pause_in, stored_of}
use Rattle.walk_turn.specs.code.Storing.{within_253}
use Rattle.verdict_cursor.specs.code.Cursor.{is_walked}
use Rattle.verdict_pass.specs.declared.Passing.{Passing}

-- its walk pauses, or it is passed with what is stored of it
pub data Passed : Type 0 where
  pauses_at : Pause → Passed
  stores : Stored → Passed

-- by how far its walk goes
unfoldable pub passed_by : Domain → Reached → Passed
passed_by d (pauses q) = pauses_at q
passed_by d (over w) = stores (stored_in d (ended w))

-- with a place past 253 not stored
unfoldable pub passed_within : Passed → Passed
passed_within (pauses_at q) = pauses_at q
passed_within (stores x) = stores (within_253 x)

-- one that is not walked is passed
unfoldable pub passed_at : Answers Reply → Settings → (author : Domain) → Stored → Identifier → Passed
passed_at β s author st i =
    if is_walked (settled_alignment s author i) (stored_domain author st)
    then passed_by i.domain (reach β i.domain None (targets i.domain))
    else stores still_open

-- code's answer, read
unfoldable pub passed_in : Domain → Passing → Passed
passed_in d (Passing.Stops s) = pauses_at (pause_in d s)
passed_in d (Passing.Passes n) = stores (stored_of n)
