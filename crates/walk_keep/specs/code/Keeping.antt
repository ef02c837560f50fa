-- One reply more among those kept.
use Rattle.std.specs.Prelude.{◌≡◌, List, [], ◌∷◌, ◌++◌, ℕ, ◌+◌, ◌*◌, ◌≤◌, ◌<◌, leb, length, drop, if◌then◌else◌}
use Rattle.octets.specs.Octets.{Octets}
use Rattle.domain.specs.declared.Octet.{Octet}
use Rattle.domain.specs.Domain.{asked_name}
use Rattle.txt.specs.declared.Reply.{Reply}
use Rattle.walk_known.specs.code.Kept.{kept_answers}
use Rattle.alignment_stored.specs.code.Stored.{slot}

-- where a walk's domain begins among the stored ones
unfoldable pub begin_of_slot : (walk : ℕ) → ℕ
begin_of_slot walk = if leb walk 16 then 253 * walk else 0

-- with room for three numbers more, one reply more is kept, to the name that a walk and a place mark; else nothing is changed
pub record KeepsReply (domains : Octets) (numbers : List ℕ) (walk : ℕ) (place : Octet) (r : Reply) (count : ℕ) (before after : List ℕ) : Type 0 where
  pub replies : 3 * count + 3 ≤ length before → kept_answers domains (count + 1) after ≡ kept_answers domains count before ++ ((asked_name (drop place.0 (slot domains numbers walk)), r) ∷ [])
  pub size : length after ≡ length before
  pub no_room : length before < 3 * count + 3 → after ≡ before
