-- Octet places in a domain, found in one pass.
use Rattle.std.specs.Prelude.{◌≡◌, List, [], Bool, true, false, ◌&&◌, ℕ, ◌+◌, ◌-◌, leb, length, get_or}
use Rattle.domain.specs.declared.Octet.{Octet}
use Rattle.domain.specs.Domain.{Domain, label_count, last_labels, begin_of, targets}
use Rattle.domain_labels.specs.declared.Target.{Target}

-- the target of a walk that has n labels left, the first one all of them
unfoldable pub target_of : ℕ → Domain → Domain
target_of n d = get_or (targets d) (length (targets d) - n) []

-- the target that has n labels left, by the places found: of 1 to 7, where they begin, and where one more does; else the whole
unfoldable pub target_placed : List Octet → (n : ℕ) → (is_placed : Bool) → Target
target_placed begins n true = record { begin = get_or begins (n - 1) (record { 0 = 0 }); wider = get_or begins n (record { 0 = 0 }) }
target_placed begins n false = record { begin = record { 0 = 0 }; wider = record { 0 = 0 } }

unfoldable pub target_by : List Octet → (n : ℕ) → Target
target_by begins n = target_placed begins n (leb 1 n && leb n 7)

-- of a target that is found: where it begins, and where it begins with one more label
pub record Finds (d target : Domain) (p : Target) : Type 0 where
  pub here : p.begin.0 ≡ begin_of target d
  pub wider : p.wider.0 ≡ begin_of (last_labels (label_count target + 1) d) d
