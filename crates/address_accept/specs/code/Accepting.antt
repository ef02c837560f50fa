-- What an accepted answer makes of a check.
use Rattle.std.specs.Prelude.{◌≡◌, [], ◌∷◌, ◌++◌, ℕ, ◌≤◌, ◌<◌, drop}
use Rattle.domain.specs.declared.Octet.{Octet}
use Rattle.domain.specs.Domain.{asked_name}
use Rattle.txt.specs.declared.Reply.{Reply}
use Rattle.alignment_stored.specs.code.Stored.{slot}
use Rattle.address.specs.declared.Agreement.{Agreement}
use Rattle.address_check.specs.declared.Check.{Check}
use Rattle.address_check.specs.Numbers.{pair_now}
use Rattle.address_check.specs.code.Cursor.{settled, answered_on}
use Rattle.address_check.specs.code.View.{replies_now, cursor_now}

-- the reply to the name that a walk and a place mark is kept, and where the check stands moves on
pub record Accepts (before : Check) (walk : ℕ) (place : Octet) (r : Reply) (after : Check) : Type 0 where
  pub started : after.started ≡ before.started
  pub confirmed : after.confirmed ≡ before.confirmed
  pub asked : after.asked ≡ 0
  pub domains : after.domains ≡ before.domains
  pub numbers : after.numbers ≡ before.numbers
  pub replies : replies_now after ≡ replies_now before ++ ((asked_name (drop place.0 (slot before.domains before.numbers walk)), r) ∷ [])
  pub cursor : cursor_now after ≡ answered_on (replies_now after) (pair_now before) (cursor_now before) r

-- with room for the reply it is accepted; else nothing is changed
pub record AcceptsInRoom (before : Check) (walk : ℕ) (place : Octet) (r : Reply) (after : Check) : Type 0 where
  pub accepts : before.count < 16 → Accepts before walk place r after
  pub no_room : 16 ≤ before.count → after ≡ before

-- the outcome at the confirming name
pub record Settles (before : Check) (a : Agreement) (after : Check) : Type 0 where
  pub started : after.started ≡ before.started
  pub confirmed : after.confirmed ≡ 1
  pub asked : after.asked ≡ 0
  pub domains : after.domains ≡ before.domains
  pub numbers : after.numbers ≡ before.numbers
  pub replies : replies_now after ≡ replies_now before
  pub cursor : cursor_now after ≡ settled a
