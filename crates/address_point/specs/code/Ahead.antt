-- What comes next, read.
use Rattle.std.specs.Prelude.{Bool, false, ltb}
use Rattle.lookup.specs.Lookup.{Standing, needs, has}
use Rattle.address.specs.declared.Agreement.{Agreement}
use Rattle.address.specs.Checks.{Pair}
use Rattle.address_check.specs.Numbers.{mark_in}
use Rattle.address_point.specs.declared.CheckAhead.{CheckAhead}

unfoldable pub ahead_standing : Pair → CheckAhead → Standing Agreement
ahead_standing c (CheckAhead.Name walk place) = needs (mark_in c walk place)
ahead_standing c (CheckAhead.Outcome a) = has a

-- whether it is the name of a walk
unfoldable pub ahead_walks : CheckAhead → Bool
ahead_walks (CheckAhead.Name walk place) = ltb walk 2
ahead_walks (CheckAhead.Outcome a) = false
