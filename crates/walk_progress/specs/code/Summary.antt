-- What code keeps of a walk, in place of the list of its records: the organizational domain, and the record that applies by the walk.
use Rattle.std.specs.Prelude.{List, drop, Option, None, Some, option_map}
use Rattle.lookup.specs.Lookup.{Lookups, done, ◌>>=◌}
use Rattle.domain.specs.Domain.{Domain}
use Rattle.txt.specs.declared.Reply.{Reply}
use Rattle.walk.specs.Walk.{Found, found, walk, organizational, found_at, found_suffix}
use Rattle.walk_progress.specs.declared.Applicable.{Applicable}
use Rattle.walk_progress.specs.declared.Organization.{Organization}

pub record Summary : Type 0 where
  pub organization : Domain
  pub applicable : Option Found

unfoldable pub or_found : Option Found → Option Found → Option Found
or_found None g = g
or_found (Some f) g = Some f

-- "the organizational domain's, where the author's walk found one; else the psd=y one"
unfoldable pub summary : Domain → List Found → Summary
summary start fs = record { organization = organizational start fs; applicable = or_found (found_at (organizational start fs) fs) (found_suffix fs) }

-- a walk, and its summary in place of its records
unfoldable pub summarized : Domain → Lookups Reply (Option Summary)
summarized d = do
  fs ← walk d
  done (option_map (summary d) fs)

-- ------------------------------------------------------------------ the code's answers, read

unfoldable pub found_in : Domain → Option Applicable → Option Found
found_in d None = None
found_in d (Some a) = Some (found (drop a.begin.0 d) a.settings)

-- by where its domains begin in that of the walk
unfoldable pub summary_in : Domain → Organization → Summary
summary_in d o = record { organization = drop o.begin.0 d; applicable = found_in d o.applicable }
