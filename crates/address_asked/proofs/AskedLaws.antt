-- Laws of what an answer is for.
use mathlib.Core.Path.{◌≡◌, refl, ap, sym, ◌∙◌}
use mathlib.Core.Bool.{Bool, true, false, ◌&&◌, true≢false, and-false}
use Prim.Native.Nat.{ℕ, ◌≤◌, ◌<◌}
use native.Mathlib.Omega.{arith}
use lib.Dec.{ltb}
use borrow.Author.Tests.{lt-ltb, le-ltb}
use Rattle.octets.specs.Octets.{Octets, same_text}
use Rattle.lookup.specs.Lookup.{Name, needs, has}
use Rattle.lookup.proofs.RunLaws.{has≢needs}
use Rattle.domain.specs.declared.Octet.{Octet}
use Rattle.domain.specs.Domain.{without_dot}
use Rattle.address.specs.declared.Agreement.{Agreement}
use Rattle.address.specs.Checks.{Pair}
use Rattle.address_check.specs.declared.CheckPoint.{CheckPoint}
use Rattle.address_check.specs.Numbers.{mark_in}
use Rattle.address_check.specs.code.Cursor.{Cursor, on_policy, on_host, on_confirming, settled, stands, needed, is_walk}
use Rattle.address_check.specs.code.View.{cursor_in}
use Rattle.address_asked.specs.declared.WaitedFor.{WaitedFor}
use Rattle.address_asked.specs.code.Asked.{is_for, Waits}

confirming_cursor : (c : Pair) (x : Cursor) (n : Name) → is_walk x ≡ false → needs n ≡ stands c x → x ≡ on_confirming
unfolding is_walk stands
confirming_cursor c (on_policy q) n w e = absurd (true≢false w)
confirming_cursor c (on_host o q) n w e = absurd (true≢false w)
confirming_cursor c on_confirming n w e = refl
confirming_cursor c (settled g) n w e = absurd (has≢needs (sym e))

module _ (c : Pair) (p : CheckPoint) (live : Bool) (name : Octets) where
  pub waits_dead : live ≡ false → Waits c p live name WaitedFor.Nothing
  unfolding Waits
  waits_dead e = rw e

  pub waits_outcome : (g : Agreement) → has g ≡ stands c (cursor_in c p) → Waits c p live name WaitedFor.Nothing
  unfolding Waits needed is_for
  waits_outcome g e = rw (← e) (and-false live)

  module _
      (walk : ℕ) (place : Octet) (s : needs (mark_in c walk place) ≡ stands c (cursor_in c p)) (w : ltb walk 2 ≡ is_walk (cursor_in c p)) {t : Bool}
      (m : t ≡ same_text (without_dot name) (mark_in c walk place)) where
    for_it : t ≡ is_for name (needed (stands c (cursor_in c p)))
    unfolding needed is_for
    for_it = rw (← s) m

    pub waits_other : t ≡ false → Waits c p live name WaitedFor.Nothing
    unfolding Waits
    waits_other e = ap (λ b. live && b) (sym for_it ∙ e) ∙ and-false live

    pub waits_confirming : live ≡ true → t ≡ true → 1 < walk → Waits c p live name WaitedFor.Confirming
    unfolding Waits
    waits_confirming l e h = (l, sym for_it ∙ e, confirming_cursor c (cursor_in c p) (mark_in c walk place) (sym w ∙ le-ltb walk 2 (omega arith)) s)

    pub waits_walk : live ≡ true → t ≡ true → walk ≤ 1 → Waits c p live name (WaitedFor.Walk walk place)
    unfolding Waits
    waits_walk l e h = (l, sym for_it ∙ e, sym w ∙ lt-ltb walk 2 (omega arith), h, sym s)
