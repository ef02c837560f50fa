-- The tags of a text and their values, as code finds them.
use Rattle.std.specs.Prelude.{List, [], ◌∷◌, Bool, ◌&&◌, not, ℕ, ◌+◌, eqb, length, drop, if◌then◌else◌, Option, None, Some}
use Rattle.octets.specs.Octets.{Octets, is_empty, all, between, split, front}
use Rattle.policy.specs.Tags.{Tag, name_and_value, tags_from, has_version, parts}

-- `DMARC1`
abbrev pub version : Octets
version = 68 ∷ 77 ∷ 65 ∷ 82 ∷ 67 ∷ 49 ∷ []

-- where the parts after the first begin, where the text is a policy record
unfoldable pub later_parts : Octets → Option ℕ
later_parts s = if has_version (parts s) then Some (length (front (λ x. not (eqb x 59)) s) + 1) else None

-- the tags of the parts from a place of the text on
unfoldable pub tags_at : ℕ → Octets → List Tag
tags_at at s = tags_from at (split 59 (drop at s))

-- the value of a part, empty where it has none
unfoldable pub value_of : Octets → Octets
value_of s = elim (name_and_value s) [ None ↦ [] | Some t ↦ t.1 ]

-- "one or more octets 32 to 126"
unfoldable pub is_value : Octets → Bool
is_value v = not (is_empty v) && all (between 32 126) v
