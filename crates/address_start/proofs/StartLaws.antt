-- Laws of the start of a check.
use Rattle.std.specs.Prelude.{Option, None, Some}
use mathlib.Core.Path.{◌≡◌, refl, ap, ap₂, sym, ◌∙◌}
use mathlib.Core.List.{List, [], ◌∷◌}
use mathlib.Core.Bool.{Bool, true, false, not}
use Prim.Native.Nat.{ℕ, ◌+◌, ◌*◌, ◌≤◌}
use native.Mathlib.Omega.{arith}
use lib.ListN.{length, set, length-set}
use lib.Seq.{get_or-set_same, get_or-set_other}
use Rattle.octets.specs.Octets.{Octets, lower, is_set}
use Rattle.octets.specs.Refusing.{◌>>=◌, OrRefused, ok, not_ok, refusal, refuse_if, or_refuse}
use Rattle.octets.proofs.TextLaws.{lower_length}
use Rattle.octets_append.specs.code.Appending.{Appends}
use Rattle.octets_append.proofs.AppendLaws.{there, before_it, as_long}
use Rattle.domain.specs.Domain.{without_dot, is_domain}
use Rattle.alignment_stored.specs.code.Stored.{number_at, slot}
use Rattle.alignment_stored.proofs.StoredLaws.{slot_of}
use Rattle.address.specs.Address.{host_of}
use Rattle.address.specs.Checks.{Pair, check_started}
use Rattle.walk_known.specs.code.Kept.{kept_answers}
use Rattle.address_check.specs.declared.CheckPoint.{CheckPoint}
use Rattle.address_check.specs.code.Cursor.{begin_on}
use Rattle.address_check.specs.code.Machine.{Keeps, keeps_started}
use Rattle.address_check.specs.code.View.{cursor_in, replies_now, cursor_now, asked_now, view_by, view}
use Rattle.address_check.specs.Numbers.{pair_now}
use Rattle.address_check.specs.code.Pairs.{both}

-- ------------------------------------------------------------------ refusals, in order

module _ (policy entry : Octets) {d : Octets} (q : d ≡ without_dot policy) where
  pub bad_policy : is_domain d ≡ false → check_started policy entry ≡ not_ok (refusal 11 0)
  unfolding check_started ◌>>=◌ refuse_if
  bad_policy e = rw (← q, e)

  module _ (e : is_domain d ≡ true) where
    pub bad_entry : host_of entry ≡ None → check_started policy entry ≡ not_ok (refusal 23 0)
    unfolding check_started ◌>>=◌ refuse_if or_refuse
    bad_entry f = rw (← q, e, f)

    pub good_start : (h : Octets) → host_of entry ≡ Some (lower h) → check_started policy entry ≡ ok (both (lower d) (lower h))
    unfolding check_started ◌>>=◌ refuse_if or_refuse
    good_start h f = rw (← q, e, f)

-- ------------------------------------------------------------------ two domains in their slots

module _ {before once twice : Octets} {a b : ℕ} (numbers : List ℕ) (p h : Octets) (room : length before ≡ 506) (sized : length numbers ≡ 2) (short : length p ≤ 253) (short₂ : length h ≤ 253)
    (f : Appends (lower p) 0 before a once) (g : Appends (lower h) 253 once b twice) where
  room₂ : length once ≡ 506
  room₂ = as_long (omega (arith, room, lower_length p)) f ∙ room

  abbrev pub sizes : List ℕ
  sizes = set (set numbers 0 (length p)) 1 (length h)

  pub first_slot : slot twice sizes 0 ≡ lower p
  unfolding number_at
  first_slot =
      slot_of twice p sizes 0 short
      (get_or-set_other (set numbers 0 (length p)) 1 0 (length h) 0 (λ e. omega arith) ∙ get_or-set_same numbers 0 (length p) 0 (omega (arith, sized)))
      (before_it (omega (arith, room₂, lower_length h)) g 0 (length (lower p)) (omega (arith, lower_length p)) ∙ there (omega (arith, room, lower_length p)) f)

  pub second_slot : slot twice sizes 1 ≡ lower h
  unfolding number_at
  second_slot =
      slot_of twice h sizes 1 short₂ (get_or-set_same (set numbers 0 (length p)) 1 (length h) 0 (omega (arith, sized, length-set numbers 0 (length p)))) (there (omega (arith, room₂, lower_length h)) g)

  -- what a check keeps that is started with them
  pub started_view : (kept : List ℕ) (point : CheckPoint) (first second : Octets) → first ≡ slot twice sizes 0 → second ≡ slot twice sizes 1
      → cursor_in (both first second) point ≡ begin_on (kept_answers twice 0 kept) (both first second)
      → view (record { started = 1; asked = 0; confirmed = 0; domains = twice; numbers = sizes; kept = kept; count = 0; point = point }) ≡ keeps_started (both (lower p) (lower h))
  unfolding is_set view view_by keeps_started pair_now replies_now cursor_now asked_now kept_answers
  started_view kept point first second x y z =
      let here : cursor_in (both (slot twice sizes 0) (slot twice sizes 1)) point ≡ begin_on [] (both (slot twice sizes 0) (slot twice sizes 1)) = rw (x, y) at z in
      ap (λ at. record { pair = Some (both (slot twice sizes 0) (slot twice sizes 1)); replies = []; confirmed = false; asked = None; at = at }) here
      ∙ ap₂ (λ (a b : Octets). keeps_started (both a b)) first_slot second_slot
