-- Places in a list, and a set of identifiers, one record after the other.
use Rattle.std.specs.Prelude.{List, [], ◌∷◌, Bool, true, ◌&&◌, ◌||◌, not, ℕ, zero, suc, eqb, leb}
use Rattle.octets.specs.Octets.{Octets}
use Rattle.octets.specs.Framing.{after_record}
use Rattle.rows.specs.Lists.{Reported}

-- a list behind its first n records
unfoldable pub records_after : ℕ → Octets → Octets
records_after zero list = list
records_after (suc n) list = records_after n (after_record list)

-- whether 01 takes an identifier, its domain aside: not "a kind or outcome number not listed", no "17th identifier, or a second SPF"
unfoldable pub takes : (index : ℕ) → (spf_seen : Bool) → Reported → Bool
takes index seen i = not (leb 16 index) && not (leb 2 i.kind) && not (leb 3 i.outcome) && not (eqb i.kind 0 && seen)

unfoldable pub passes_set : (index : ℕ) → (spf_seen : Bool) → List Reported → Bool
passes_set index seen [] = true
passes_set index seen (i ∷ is) = takes index seen i && passes_set (suc index) (seen || eqb i.kind 0) is
