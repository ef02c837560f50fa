-- The elements of identifiers of one kind.
use mathlib.Core.List.{List, map, flatten}
use Rattle.std.specs.Prelude.{Bool, true, false}
use Rattle.octets.specs.Octets.{Octets}
use Rattle.rows.specs.Lists.{Reported}
use Rattle.report.specs.Report.{dkim_element, spf_element}

unfoldable pub kind_element : (dkim : Bool) → Reported → Octets
kind_element true i = dkim_element i
kind_element false i = spf_element i

unfoldable pub each_of : (dkim : Bool) → List Reported → Octets
each_of dkim is = flatten (map (kind_element dkim) is)
