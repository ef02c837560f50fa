-- What an answer at the confirming name says, and where what replaces the address stands (document 02, Ask 11).
use Rattle.std.specs.Prelude.{◌≡◌, Bool, true, false, ◌+◌, ◌≤◌, length, if◌then◌else◌, Some, Option, None}
use mathlib.Core.List.{List, ◌∷◌, ◌++◌, flatten}
use Rattle.octets.specs.Octets.{Octets, is_empty, is_nothing, all, same, split, part_of}
use Rattle.domain.specs.Domain.{Domain}
use Rattle.policy.specs.declared.Bounds.{Bounds}
use Rattle.policy.specs.declared.Settings.{Settings}
use Rattle.policy.specs.Records.{read_policy, rua_text, rua_begin, rua_length}
use Rattle.txt.specs.Answers.{records, texts_read, policy_records}
use Rattle.txt.specs.Taking.{left_after}
use Rattle.address.specs.declared.Agreement.{Agreement}
use Rattle.address.specs.Address.{host_of, confirmation}

-- a text without an entry that 23 lets through
unfoldable pub no_host : Octets → Bool
no_host text = all (λ e. is_nothing (host_of e)) (split 44 (rua_text text))

-- an entry without a host, or with this one
unfoldable pub no_other : (host : Domain) → Option Domain → Bool
no_other host None = true
no_other host (Some h) = same host h

-- "every such host in it is the first host"
unfoldable pub only_host : (host : Domain) → Octets → Bool
only_host host text = all (λ e. no_other host (host_of e)) (split 44 (rua_text text))

-- the text that takes the address's place: of the answer's texts "the first with an entry that 23 lets through", a policy record, with "the first
-- host" and no other
pub record ReplacedBy (host : Domain) (ts : List Octets) (text : Octets) : Type 0 where
  pub earlier : List Octets
  pub later : List Octets
  pub among : ts ≡ earlier ++ text ∷ later
  pub first : all no_host earlier ≡ true
  pub settings : Settings
  pub is_record : read_policy text ≡ Some settings
  pub some_host : no_host text ≡ false
  pub same_hosts : only_host host text ≡ true

-- every host, and every answer whose texts could be read
pub record AnswerClaims : Type 0 where
  -- "The first with an entry that 23 lets through replaces the address by its rua text, given as a place in the scratch, if every such host in it is
  -- the first host; another host makes the answer a plain no"
  pub first_decides : (host : Domain) (bytes : Octets) (earlier later : List Octets) (text : Octets) → texts_read bytes ≡ Some (earlier ++ text ∷ later)
      → all no_host earlier ≡ true → no_host text ≡ false
      → confirmation host (records bytes) ≡ (if only_host host text
      then Agreement.Replaced (record { begin = length (flatten earlier) + rua_begin text; length = rua_length text })
      else Agreement.PlainNo)
  -- "One policy record or more confirms, none is a plain no"
  pub record_or_no : (host : Domain) (bytes : Octets) (ts : List Octets) → texts_read bytes ≡ Some ts → all no_host ts ≡ true
      → confirmation host (records bytes) ≡ (if is_empty (policy_records ts) then Agreement.PlainNo else Agreement.Confirmed)
  -- "given as a place in the scratch": where an accepted answer replaces the address, its rua text stands at that place of the scratch that the
  -- answer leaves
  pub in_the_scratch : (host : Domain) (bytes scratch : Octets) (b : Bounds) → confirmation host (records bytes) ≡ Agreement.Replaced b → 4096 ≤ length scratch
      → (ts : List Octets) × (text : Octets) × (texts_read bytes ≡ Some ts) × ReplacedBy host ts text
      × (part_of (left_after (records bytes) scratch) b.begin (b.begin + b.length) ≡ rua_text text)
