-- What code keeps of the alignments of identifiers, and how its answers are read.
use Rattle.std.specs.Prelude.{List, [], ◌∷◌, false, ◌||◌, ℕ, ◌+◌, ◌*◌}
use Rattle.alignment.specs.declared.Outcome.{Outcome}
use Rattle.alignment.specs.declared.Alignment.{Alignment}
use Rattle.alignment_settle.specs.declared.Tally.{Tally}
use Rattle.alignment.specs.Alignments.{Identifier, is_aligned, is_unknown, is_temporary}

-- ------------------------------------------------------------------ alignments as digits

unfoldable pub alignment_code : Alignment → ℕ
alignment_code Alignment.NotJudged = 0
alignment_code Alignment.Aligned = 1
alignment_code Alignment.NotAligned = 2
alignment_code Alignment.Unknown = 3

-- digits to base 4, the first identifier's lowest
unfoldable pub alignment_digits : List Alignment → ℕ
alignment_digits [] = 0
alignment_digits (a ∷ l) = alignment_code a + 4 * alignment_digits l

-- ------------------------------------------------------------------ a tally

unfoldable pub no_tally : Tally
no_tally = record { digits = 0; aligned = false; unknown = false; temporary = false }

-- with one identifier more in front
unfoldable pub tally_with : Outcome → Alignment → Tally → Tally
tally_with o a t = record {
  digits = alignment_code a + 4 * t.digits;
  aligned = is_aligned a || t.aligned;
  unknown = is_unknown a || t.unknown;
  temporary = is_temporary o || t.temporary;
}

-- of identifiers, each with its alignment
unfoldable pub tally_of : List (Identifier × Alignment) → Tally
tally_of [] = no_tally
tally_of (w ∷ ws) = tally_with w.0.outcome w.1 (tally_of ws)
