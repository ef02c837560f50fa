-- What is stored of a walk's organizational domain, as code reads it.
use Rattle.std.specs.Prelude.{ℕ, ◌+◌, drop, Option, None, Some}
use Rattle.lookup.specs.Lookup.{Answers, Standing, needs, has, run_over}
use Rattle.domain.specs.Domain.{Domain, begin_of}
use Rattle.txt.specs.declared.Reply.{Reply}
use Rattle.walk.specs.Walk.{organizational_domain}

-- while a walk is open, or after an error in it, nothing; else where the organizational domain begins in the walk's own
pub data Stored : Type 0 where
  still_open failed : Stored
  from : (place : ℕ) → Stored

-- the organizational domain that is stored
unfoldable pub stored_domain : Domain → Stored → Option Domain
stored_domain d still_open = None
stored_domain d failed = None
stored_domain d (from place) = Some (drop place d)

-- the number that says it
unfoldable pub number_in : Stored → ℕ
number_in still_open = 0
number_in failed = 1
number_in (from place) = place + 2

-- what is to be stored, by where the walk worked out afresh stands
unfoldable pub stored_by : Domain → Standing (Option Domain) → Stored
stored_by d (needs n) = still_open
stored_by d (has None) = failed
stored_by d (has (Some o)) = from (begin_of o d)

unfoldable pub stored_now : Answers Reply → Domain → Stored
stored_now β d = stored_by d (run_over β (organizational_domain d))
