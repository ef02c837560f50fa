-- The parts of an address: a group's four digits, with its leading zeros; octets in groups, and octets dotted.
use Rattle.std.specs.Prelude.{[], ◌∷◌, map, ℕ, ◌/◌, ◌%◌}
use Rattle.octets.specs.Octets.{Octets, octets}
use Rattle.octets.specs.Decimal.{decimal}
use Rattle.report.specs.Xml.{parted, hex_octet, groups}

unfoldable pub four_digits : (high low : ℕ) → Octets
four_digits high low = hex_octet (high / 16) ∷ hex_octet (high % 16) ∷ hex_octet (low / 16) ∷ hex_octet (low % 16) ∷ []

abbrev pub grouped : Octets → Octets
grouped s = parted (octets ":") (groups s)

abbrev pub dotted : Octets → Octets
dotted s = parted (octets ".") (map decimal s)
