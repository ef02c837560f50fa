-- What an answer is taken for.
use Rattle.std.specs.Prelude.{◌≡◌, Bool, true, false, ◌&&◌, ◌≤◌, Option, None, Some}
use Rattle.octets.specs.Octets.{Octets, same_text}
use Rattle.lookup.specs.Lookup.{Name, needs}
use Rattle.domain.specs.Domain.{without_dot}
use Rattle.address.specs.Checks.{Pair}
use Rattle.address_check.specs.declared.CheckPoint.{CheckPoint}
use Rattle.address_check.specs.Numbers.{mark_in}
use Rattle.address_check.specs.code.Cursor.{on_confirming, stands, needed, is_walk}
use Rattle.address_check.specs.code.View.{cursor_in}
use Rattle.address_asked.specs.declared.WaitedFor.{WaitedFor}

-- whether an answer is waited for and given by the name that is needed
unfoldable pub is_for : Octets → Option Name → Bool
is_for name None = false
is_for name (Some n) = same_text (without_dot name) n

-- for no name; for the target of the open walk; for the confirming name
unfoldable pub Waits : Pair → CheckPoint → (live : Bool) → (name : Octets) → WaitedFor → Type 0
Waits c p live name WaitedFor.Nothing = (live && is_for name (needed (stands c (cursor_in c p)))) ≡ false
Waits c p live name (WaitedFor.Walk walk place) =
    (live ≡ true) × (is_for name (needed (stands c (cursor_in c p))) ≡ true) × (is_walk (cursor_in c p) ≡ true) × (walk ≤ 1) × (stands c (cursor_in c p) ≡ needs (mark_in c walk place))
Waits c p live name WaitedFor.Confirming = (live ≡ true) × (is_for name (needed (stands c (cursor_in c p))) ≡ true) × (cursor_in c p ≡ on_confirming)
