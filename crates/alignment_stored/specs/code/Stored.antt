-- How a message is stored: the domains of its walks in slots of 253 octets, the author's first, and three numbers for each walk.
use Rattle.std.specs.Prelude.{List, [], ◌∷◌, ℕ, zero, suc, ◌+◌, ◌*◌, min, leb, take, drop, get_or, if◌then◌else◌}
use Rattle.octets.specs.Octets.{Octets}
use Rattle.domain.specs.Domain.{Domain}
use Rattle.alignment.specs.declared.Kind.{Kind}
use Rattle.alignment.specs.declared.Outcome.{Outcome}
use Rattle.alignment.specs.Alignments.{kinds, outcomes, Identifier}

-- the number of a walk, 0 to 16, in the part of the numbers that begins at a place: from 0 lengths, from 17 kinds, from 34 outcomes
unfoldable pub number_at : List ℕ → (from walk : ℕ) → ℕ
number_at numbers from walk = if leb walk 16 then get_or numbers (from + walk) 0 else 0

-- the domain that a walk starts from: the author domain is walk 0, that of the identifier with index i walk i + 1
unfoldable pub slot : Octets → List ℕ → (walk : ℕ) → Domain
slot domains numbers walk = take (min (number_at numbers 0 walk) 253) (drop (253 * walk) domains)

-- a kind, of its number; none but those listed is stored
unfoldable pub kind_in : ℕ → Kind
kind_in n = get_or kinds n Kind.Dkim

-- an outcome, of its number
unfoldable pub outcome_in : ℕ → Outcome
outcome_in n = get_or outcomes n Outcome.NotPassing

unfoldable pub kind_at : List ℕ → (walk : ℕ) → Kind
kind_at numbers walk = kind_in (number_at numbers 17 walk)

unfoldable pub outcome_at : List ℕ → (walk : ℕ) → Outcome
outcome_at numbers walk = outcome_in (number_at numbers 34 walk)

unfoldable pub identifier_at : Octets → List ℕ → (walk : ℕ) → Identifier
identifier_at domains numbers walk = record { kind = kind_at numbers walk; outcome = outcome_at numbers walk; domain = slot domains numbers walk }

-- so many identifiers, from a walk's on
unfoldable pub stored_identifiers : Octets → List ℕ → (walk count : ℕ) → List Identifier
stored_identifiers domains numbers walk zero = []
stored_identifiers domains numbers walk (suc n) = identifier_at domains numbers walk ∷ stored_identifiers domains numbers (walk + 1) n
