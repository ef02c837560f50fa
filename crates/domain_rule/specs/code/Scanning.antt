-- The domain rule as one pass over a text sees it.
use Rattle.std.specs.Prelude.{◌≡◌, List, Bool, ◌&&◌, not, ℕ, ◌<◌, eqb, leb, length, get_or, if◌then◌else◌}
use Rattle.octets.specs.Octets.{Octets, is_empty, all}
use Rattle.domain.specs.Domain.{domain_octet}

-- an octet's class: 0 in a label, 1 a dot, 2 another
unfoldable pub class_code : ℕ → ℕ
class_code x = if domain_octet x then 0 else if eqb x 46 then 1 else 2

-- a table of the classes of all octets
abbrev pub Classes : List ℕ → Type 0
Classes table = (x : ℕ) → x < 256 → get_or table x 0 ≡ class_code x

-- a label of any length
unfoldable pub some_label : Octets → Bool
some_label l = not (is_empty l) && all domain_octet l

-- a label of any octets
unfoldable pub short_label : Octets → Bool
short_label l = leb (length l) 63
