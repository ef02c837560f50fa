-- When what a check keeps shows the book of checks.
use Rattle.std.specs.Prelude.{◌≡◌, List, Bool, true, false, leb, length, None, Some}
use Rattle.octets.specs.Octets.{lower}
use Rattle.lookup.specs.Lookup.{Name, Lookups, done, ◌>>=◌, Answers, names, find, needs}
use Rattle.lookup.specs.code.Following.{Follows}
use Rattle.txt.specs.Answers.{Answer}
use Rattle.walk_progress.specs.code.Reaching.{pauses, KeptReached}
use Rattle.asking.specs.Asking.{replies}
use Rattle.address.specs.declared.Agreement.{Agreement}
use Rattle.address.specs.Address.{confirming_name, confirm, organization, by_host, by_policy}
use Rattle.address.specs.Checks.{Pair, CheckBook, check_lookups}
use Rattle.address_check.specs.code.Cursor.{Cursor, on_policy, on_host, on_confirming, settled, stands}
use Rattle.address_check.specs.code.Machine.{Keeps, count_of}

-- what is left of a check
unfoldable pub left : Pair → Cursor → Lookups Answer Agreement
left c (on_policy q) = organization c.policy >>= by_policy c.policy c.host
left c (on_host o q) = organization c.host >>= by_host c.policy c.host o
left c on_confirming = confirm c.policy c.host
left c (settled a) = done a

-- the open walk waits at a name
unfoldable pub Waits : Answers Answer → Pair → Cursor → Type 0
Waits β c (on_policy q) = KeptReached (replies β) c.policy (pauses q)
Waits β c (on_host o q) = KeptReached (replies β) c.host (pauses q)
Waits β c on_confirming = leb (length (confirming_name c.policy c.host)) 253 ≡ true
Waits β c (settled a) = Unit

unfoldable pub is_settled : Cursor → Bool
is_settled (on_policy q) = false
is_settled (on_host o q) = false
is_settled on_confirming = false
is_settled (settled a) = true

pub record KeptCursor (β : Answers Answer) (c : Pair) (x : Cursor) : Type 0 where
  pub follows : Follows β (check_lookups c) (left c x)
  pub waits : Waits β c x
  -- until the outcome the confirming name has no answer
  pub lacks : is_settled x ≡ false → find β (confirming_name c.policy c.host) ≡ None

pub record Shows (k : Keeps) (b : CheckBook) : Type 0 where
  pub pair : k.pair ≡ b.pair
  pub asked : k.asked ≡ b.run.asked
  pub counted : count_of k ≡ length (names b.run.taken)
  -- the replies are those of the book's answers, until the confirming name is answered; then the check is at its outcome
  pub same_replies : k.confirmed ≡ false → k.replies ≡ replies b.run.taken
  pub at_its_end : k.confirmed ≡ true → is_settled k.at ≡ true
  pub kept : (c : Pair) → b.pair ≡ Some c → KeptCursor b.run.taken c k.at
  -- what is asked is what it stands at
  pub stands_at : (c : Pair) → b.pair ≡ Some c → (n : Name) → b.run.asked ≡ Some n → stands c k.at ≡ needs n
  -- the host is in lower case
  pub lowered : (c : Pair) → b.pair ≡ Some c → lower c.host ≡ c.host
