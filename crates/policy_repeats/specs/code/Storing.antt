-- The unknown names of a text, and the store of those that were met.
use Rattle.std.specs.Prelude.{List, [], ◌∷◌, Bool, false, ◌&&◌, ◌||◌, not, ◌≡◌, ℕ, suc, ◌+◌, ◌*◌, ◌%◌, ◌≤◌, ◌<◌, eqb, length, drop, get_or}
use Rattle.octets.specs.Octets.{Octets, any, same, is_letter, lower, split, front, after, is_blank}
use Rattle.policy.specs.Tags.{repeats}
use Rattle.policy_tags.specs.code.TagNames.{name_of, is_tag, names_of, is_known, unknown_names}

-- whether a part, trimmed, is a well-formed tag whose name is not known
unfoldable pub is_unknown : Octets → Bool
is_unknown s = is_tag s && not (is_known (name_of s))

-- the unknown names of the parts from a place of the text on
unfoldable pub names_left : Octets → ℕ → List Octets
names_left text at = unknown_names (names_of (split 59 (drop at text)))

-- the name, in lower case, of the tag whose part begins at a place
unfoldable pub name_at : Octets → ℕ → Octets
name_at text at = lower (front is_letter (after is_blank (drop at text)))

-- the place at which the next part begins
unfoldable pub part_after : Octets → ℕ → ℕ
part_after text at = at + length (front (λ x. not (eqb x 59)) (drop at text)) + 1

-- the part at a place has the first of the names left, unless the text ends there
abbrev pub First : Octets → ℕ → Type 0
First text at = at < length text → names_left text at ≡ name_at text at ∷ names_left text (part_after text at)

-- a place from which on the same names are left, at the part of the first of them
pub record Next (text : Octets) (from at : ℕ) : Type 0 where
  pub onward : from ≤ at
  pub left : names_left text from ≡ names_left text at
  pub first : First text at

-- a name's key: its letters as digits of a number modulo a prime
abbrev pub prime : ℕ
prime = 576460752303423433

unfoldable pub key_from : ℕ → Octets → ℕ
key_from key [] = key
key_from key (x ∷ xs) = key_from ((key * 32 + x % 32) % prime) xs

unfoldable pub key_of : Octets → ℕ
key_of name = key_from 0 name

-- the store: where the parts of the names met begin, and beside that the names' keys
unfoldable pub Keyed : Octets → List ℕ → List ℕ → ℕ → Type 0
Keyed text keys places count = (i : ℕ) → i < count → get_or keys i 0 ≡ key_of (name_at text (get_or places i 0))

-- whether a name is one of the first so many stored
unfoldable pub is_stored : Octets → List ℕ → ℕ → Octets → Bool
is_stored text places ℕ.zero name = false
is_stored text places (suc count) name = is_stored text places count name || same (name_at text (get_or places count 0)) name

-- whether a name repeats: one that is left is stored, or is left twice
unfoldable pub repeats_left : Octets → List ℕ → ℕ → ℕ → Bool
repeats_left text places count at = any (is_stored text places count) (names_left text at) || repeats (names_left text at)

-- at a place of the text: what the names stored and those left say together is what the whole says
pub record Holds (text : Octets) (from : ℕ) (keys places : List ℕ) (count at : ℕ) : Type 0 where
  pub keys_room : length keys ≡ 1024
  pub places_room : length places ≡ 1024
  pub keyed : Keyed text keys places count
  pub first : First text at
  pub whole : repeats (names_left text from) ≡ repeats_left text places count at
