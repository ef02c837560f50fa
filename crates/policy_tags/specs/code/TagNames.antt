-- The names of a text's tags, as code finds them.
use Rattle.std.specs.Prelude.{List, [], ◌∷◌, Bool, not, ltb, if◌then◌else◌}
use Rattle.octets.specs.Octets.{Octets, is_letter, lower, front, trim}
use Rattle.policy.specs.Tags.{well_formed}
use Rattle.policy_words.specs.code.Rows.{tag_number}
use Rattle.policy_tags.specs.code.TagValues.{value_of}

-- the name of a part, trimmed, in lower case
unfoldable pub name_of : Octets → Octets
name_of s = lower (front is_letter s)

-- whether a part, trimmed, is a well-formed tag
unfoldable pub is_tag : Octets → Bool
is_tag s = well_formed (name_of s, value_of s)

-- its value, empty where it is none
unfoldable pub tag_value : Octets → Octets
tag_value s = if is_tag s then value_of s else []

-- the names of the parts that are well-formed tags
unfoldable pub add_name : Octets → List Octets → List Octets
add_name s ns = if is_tag s then name_of s ∷ ns else ns

unfoldable pub names_of : List Octets → List Octets
names_of [] = []
names_of (p ∷ ps) = add_name (trim p) (names_of ps)

-- whether a name is one of the table
unfoldable pub is_known : Octets → Bool
is_known n = ltb (tag_number n) 14

-- those of several names that are, and those that are not
unfoldable pub known_names : List Octets → List Octets
known_names [] = []
known_names (n ∷ ns) = if is_known n then n ∷ known_names ns else known_names ns

unfoldable pub unknown_names : List Octets → List Octets
unknown_names [] = []
unknown_names (n ∷ ns) = if not (is_known n) then n ∷ unknown_names ns else unknown_names ns
