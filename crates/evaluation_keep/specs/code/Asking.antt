-- What an answer is taken for.
use Rattle.std.specs.Prelude.{Bool, true, false, if◌then◌else◌, Option, None, Some}
use Rattle.octets.specs.Octets.{Octets, same_text}
use Rattle.lookup.specs.Lookup.{Name}
use Rattle.domain.specs.Domain.{without_dot}

-- the name that is needed, where an answer is waited for and is given by that name
unfoldable pub answered : (live : Bool) → (name : Octets) → (needed : Option Name) → Option Name
answered false name n = None
answered true name None = None
answered true name (Some n) = if same_text (without_dot name) n then Some n else None
