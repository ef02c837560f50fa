-- Labels counted in one pass (document 02, Ask 3). "The answers stay as they are": they are those of `last_labels`.
use Rattle.std.specs.Prelude.{◌≡◌, List, ℕ, suc, ◌<◌, length, get_or}
use Rattle.domain.specs.declared.Octet.{Octet}
use Rattle.domain.specs.declared.Starts.{Starts}
use Rattle.domain.specs.Domain.{Domain, label_count, last_labels, begin_of}

-- the n-th of some places, from 0
unfoldable pub place_at : List Octet → ℕ → ℕ
place_at begins n = (get_or begins n (record { 0 = 0 })).0

-- the promise of one pass over a domain
pub record Passes (d : Domain) (t : Starts) : Type 0 where
  -- "Where the last n labels begin, for every n a walk needs, is to be found in one pass, however it is done now": 1 to 7 for its targets, and 8 for
  -- a target's domain with one more label
  pub each : (n : ℕ) → n < 8 → place_at t.begins n ≡ begin_of (last_labels (suc n) d) d
  pub counts : t.labels.0 ≡ label_count d
  -- "its rounds, counted beside the answers, equal the domain's octets in number"
  pub once_over : t.rounds ≡ length d
