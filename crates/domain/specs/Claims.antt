-- What is claimed of the targets of every walk and of the names asked, whatever the number of labels, and of a domain's final dot.
use Rattle.std.specs.Prelude.{◌≡◌, [], ◌++◌, true, ℕ, ◌-◌, ◌<◌, min, length, drop, get_or}
use Rattle.octets.specs.Octets.{octets}
use Rattle.domain.specs.Domain.{Domain, without_dot, is_domain, label_count, begin_of, targets, can_ask, asked_name}

-- "Facts on a walk hold once for any number of labels"
pub record WalkTargets (d : Domain) : Type 0 where
  -- "looks at the domain"
  pub starts : get_or (targets d) 0 [] ≡ d
  -- as many as it has labels, at most eight
  pub number : length (targets d) ≡ min 8 (label_count d)
  -- "its last x-1 labels, or its last 7 if x is over 8, then one label fewer each time down to one"
  pub labels_left : (k : ℕ) → 0 < k → k < length (targets d) → label_count (get_or (targets d) k []) ≡ length (targets d) - k
  -- each is an end of the domain, so its place in the domain marks it
  pub ends : (k : ℕ) → get_or (targets d) k [] ≡ drop (begin_of (get_or (targets d) k []) d) d

-- "A target over 246 octets is not asked": with `_dmarc.` in front, every name that is asked keeps the domain rule
unfoldable pub AskedNames : Domain → Type 0
AskedNames d =
    is_domain d ≡ true
    → (k : ℕ) → k < length (targets d) → can_ask (get_or (targets d) k []) ≡ true → is_domain (asked_name (get_or (targets d) k [])) ≡ true

-- a domain as it is taken (document 02, Ask 5)
pub record Taken (d : Domain) : Type 0 where
  -- "end in one dot, which is dropped": that one alone, whatever stands before it
  pub dropped : without_dot (d ++ octets ".") ≡ d
  -- "no dot at either end": nothing is dropped from a domain that keeps the rule
  pub kept : is_domain d ≡ true → without_dot d ≡ d
