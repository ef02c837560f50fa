-- Alignments by numbers, as a verdict has them.
use Rattle.std.specs.Prelude.{List, [], ◌∷◌, ℕ, zero, suc, ◌/◌, ◌%◌, get_or}
use Rattle.alignment.specs.declared.Alignment.{Alignment}

-- not judged 0, aligned 1, not aligned 2, unknown 3
abbrev pub alignment_numbers : List Alignment
alignment_numbers = Alignment.NotJudged ∷ Alignment.Aligned ∷ Alignment.NotAligned ∷ Alignment.Unknown ∷ []

unfoldable pub alignment_of : ℕ → Alignment
alignment_of n = get_or alignment_numbers n Alignment.Unknown

-- "alignment of each identifier": so many digits to base 4, the first one's lowest
unfoldable pub alignments_in : (identifiers digits : ℕ) → List Alignment
alignments_in zero digits = []
alignments_in (suc n) digits = alignment_of (digits % 4) ∷ alignments_in n (digits / 4)
