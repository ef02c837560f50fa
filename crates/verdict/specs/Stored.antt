-- What is stored of a message's walks (document 02, Ask 7): a number for the author's walk, then one for each identifier's, in the given order.
use Rattle.std.specs.Prelude.{List, [], ◌∷◌, ℕ, ◌+◌, if◌then◌else◌, Some, None, Option}
use Rattle.lookup.specs.Lookup.{Answers, Standing, needs, has, run_over}
use Rattle.domain.specs.Domain.{Domain, begin_of}
use Rattle.policy.specs.declared.Settings.{Settings}
use Rattle.txt.specs.declared.Reply.{Reply}
use Rattle.walk.specs.Walk.{organizational_domain}
use Rattle.alignment.specs.Alignments.{Identifier, must_walk}
use Rattle.verdict.specs.Message.{Message}
use Rattle.verdict.specs.Verdict.{Applied, applied_record}
use Rattle.verdict.specs.Claims.{applied_settings}

-- of a walk that has ended: 1 "after an error in it"; else two more than "where it begins in its own domain"
unfoldable pub ended_number : Domain → Option Domain → ℕ
ended_number d None = 1
ended_number d (Some o) = begin_of o d + 2

-- "Store each when its walk ends". "While a walk is open", paused or not, nothing is stored of it, nor of those that come after it: where the
-- numbers end, 0 is stored, which says so
unfoldable pub once_ended : Domain → Standing (Option Domain) → (others : Option Domain → List ℕ) → List ℕ
once_ended d (needs n) others = []
once_ended d (has o) others = ended_number d o ∷ others o

-- the settings in force of the applied record, where it is known
unfoldable pub settings_so_far : Standing Applied → Option Settings
settings_so_far (needs n) = None
settings_so_far (has a) = applied_settings a

-- over the answers accepted so far, each walk worked out afresh
module _ (β : Answers Reply) where
  -- "All are walked in the given order"; one that needs no walk has 0
  unfoldable pub numbers_each : Settings → (author : Domain) → List Identifier → List ℕ
  numbers_each s author [] = []
  numbers_each s author (i ∷ is) =
      if must_walk s author i
      then once_ended i.domain (run_over β (organizational_domain i.domain)) (λ o. numbers_each s author is)
      else 0 ∷ numbers_each s author is

  -- "no identifier is walked" without settings in force, nor where "the author's walk ended in an error"
  unfoldable pub numbers_walked : Message → Option Settings → (organization : Option Domain) → List ℕ
  numbers_walked m None o = []
  numbers_walked m (Some s) None = []
  numbers_walked m (Some s) (Some o) = numbers_each s m.author m.identifiers

  unfoldable pub numbers_stored : Message → List ℕ
  numbers_stored m = once_ended m.author (run_over β (organizational_domain m.author)) (numbers_walked m (settings_so_far (run_over β (applied_record m.author))))
