-- Elements, entities and addresses, as the aggregate report writes them (document 02, Ask 9).
use mathlib.Core.List.{List, [], ◌∷◌, ◌++◌, map, flatten}
use Rattle.std.specs.Prelude.{Bool, true, false, ℕ, zero, suc, ◌+◌, ◌*◌, ◌/◌, ◌%◌, eqb, ltb, take, drop, get_or, if◌then◌else◌}
use Prim.Native.String.{String}
use Rattle.octets.specs.Octets.{Octets, octets, is_empty, same}
use Rattle.octets.specs.Decimal.{decimal}

-- "each with a start and an end tag", "no blanks or line ends between elements"
unfoldable pub element : (name : String) → (body : Octets) → Octets
element name body = octets "<" ++ octets name ++ octets ">" ++ body ++ octets "</" ++ octets name ++ octets ">"

-- "an optional element exactly where these inputs give it a value that isn't empty"
unfoldable pub optional_element : (name : String) → (body : Octets) → Octets
optional_element name body = if is_empty body then [] else element name body

-- "`&`, `<` and `>` in texts are written as entities"
unfoldable pub entity : ℕ → Octets
entity x = if eqb x 38 then octets "&amp;" else if eqb x 60 then octets "&lt;" else if eqb x 62 then octets "&gt;" else x ∷ []

unfoldable pub with_entities : Octets → Octets
with_entities s = flatten (map entity s)

-- ------------------------------------------------------------------ addresses

-- texts parted by a mark
unfoldable pub after_mark : Octets → List Octets → Octets
after_mark mark ts = flatten (map (λ t. mark ++ t) ts)

unfoldable pub parted : (mark : Octets) → List Octets → Octets
parted mark [] = []
parted mark (t ∷ ts) = t ++ after_mark mark ts

unfoldable pub hex_octet : ℕ → ℕ
hex_octet d = get_or (octets "0123456789abcdef") d 0

-- the lower-case hexadecimal digits of x, at most n of them, "without leading zeros"
unfoldable pub hex_digits : ℕ → ℕ → Octets
hex_digits zero x = []
hex_digits (suc n) x = elim (ltb x 16) [ true ↦ hex_octet x ∷ [] | false ↦ hex_digits n (x / 16) ++ (hex_octet (x % 16) ∷ []) ]

-- a group is two octets
unfoldable pub groups : Octets → List Octets
groups [] = []
groups (a ∷ []) = []
groups (a ∷ b ∷ rest) = hex_digits 4 (a * 256 + b) ∷ groups rest

-- "IPv4 mapped": ten octets 0, two 255, and the address
unfoldable pub is_mapped : Octets → Bool
is_mapped source = same (take 12 source) (0 ∷ 0 ∷ 0 ∷ 0 ∷ 0 ∷ 0 ∷ 0 ∷ 0 ∷ 0 ∷ 0 ∷ 255 ∷ 255 ∷ [])

-- "mapped addresses dotted, others as eight lower-case hexadecimal groups", "numbers and groups without leading zeros"
unfoldable pub address : Octets → Octets
address source = if is_mapped source then parted (octets ".") (map decimal (drop 12 source)) else parted (octets ":") (groups source)
