-- Laws of an octet between words.
use mathlib.Core.Path.{◌≡◌, refl, sym, ◌∙◌}
use mathlib.Core.Logic.{inl, inr}
use mathlib.Core.Bool.{Bool, true, false, ◌||◌, false≢true, true≢false}
use Prim.Native.Nat.{ℕ, ◌<◌}
use native.Mathlib.Omega.{arith}
use lib.Dec.{eqb}
use borrow.Author.Tests.{eq-eqb, ne_eqb, leb-false}
use Rattle.octets.specs.Octets.{is_blank}
use Rattle.field_states.specs.declared.Side.{Side}
use Rattle.field_states.specs.declared.Blanks.{Blanks}
use Rattle.field_states.specs.declared.State.{State}
use Rattle.field_states.specs.declared.Misread.{Misread}
use Rattle.std.specs.Prelude.{Ok, Err}
use Rattle.field_states.specs.code.States.{reader, closes, after_other, between_step, step_from, step, is_open, opens, depth_of, ninth, is_wrong, again, turn}
use Rattle.field_states.proofs.BlankLaws.{IsBlank}
use Rattle.field_states.proofs.RestLaws.{blank_is}
use Rattle.field_states.proofs.RunLaws.{turn_deep, turn_wrong, turn_on}
use Rattle.field_blanks.specs.code.Rows.{after_space}

-- blanks, CR and LF
not_blank : (x c : ℕ) → (c ≡ 32 → ⊥) → (c ≡ 9 → ⊥) → IsBlank x → eqb x c ≡ false
not_blank x c h i (inl e) = ne_eqb x c (λ f. h (sym f ∙ e))
not_blank x c h i (inr e) = ne_eqb x c (λ f. i (sym f ∙ e))

-- whether an octet is a blank, CR or LF
unfoldable pub is_space : ℕ → Bool
is_space x = is_blank x || (eqb x 13 || eqb x 10)

module _ (side : Side) (b : Blanks) (k : ℕ) (d s : Bool) (x : ℕ) where
  pub space_step : is_space x ≡ true → between_step side b k d s x ≡ State.Between side (after_space b (closes side k) x) k
  unfolding between_step after_space is_space
  space_step h = go (is_blank x) refl (eqb x 13) refl (eqb x 10) refl
    where
      go : (p : Bool) → is_blank x ≡ p → (q : Bool) → eqb x 13 ≡ q → (r : Bool) → eqb x 10 ≡ r → between_step side b k d s x ≡ State.Between side (after_space b (closes side k) x) k
      go true e q f r g = rw (e, not_blank x 13 (λ z. omega arith) (λ z. omega arith) (blank_is x e), not_blank x 10 (λ z. omega arith) (λ z. omega arith) (blank_is x e))
      go false e true f r g = rw (e, f)
      go false e false f true g = rw (e, f, g)
      go false e false f false g = absurd (false≢true (rw (e, f, g) at h))

  pub other_step : is_space x ≡ false → between_step side b k d s x ≡ after_other b side k d s x
  unfolding between_step is_space
  other_step h = go (is_blank x) refl (eqb x 13) refl (eqb x 10) refl
    where
      go : (p : Bool) → is_blank x ≡ p → (q : Bool) → eqb x 13 ≡ q → (r : Bool) → eqb x 10 ≡ r → between_step side b k d s x ≡ after_other b side k d s x
      go true e q f r g = absurd (true≢false (rw e at h))
      go false e true f r g = absurd (true≢false (rw (e, f) at h))
      go false e false f true g = absurd (true≢false (rw (e, f, g) at h))
      go false e false f false g = rw (e, f, g)

-- one comment more may be counted
pub counted : (side : Side) (b : Blanks) (k x : ℕ) → ninth (State.Between side b k) x ≡ false → is_open b ≡ true → x ≡ 40 → k < 8
unfolding ninth opens depth_of
counted side b k x n h e = leb-false 8 k (rw (h, eq-eqb x 40 e) at n)

-- ------------------------------------------------------------------ a turn

module _ (side : Side) (b : Blanks) (k : ℕ) (d s : Bool) (x : ℕ) where
  pub deep_turn : ninth (State.Between side b k) x ≡ true → turn (reader (State.Between side b k) d s) x ≡ Err Misread.TooDeep
  unfolding reader
  deep_turn h = turn_deep (reader (State.Between side b k) d s) x h

  pub wrong_turn : ninth (State.Between side b k) x ≡ false → is_wrong (between_step side b k d s x) ≡ true → turn (reader (State.Between side b k) d s) x ≡ Err Misread.Wrong
  unfolding reader step step_from
  wrong_turn h i = turn_wrong (reader (State.Between side b k) d s) x h i

  pub on_turn : ninth (State.Between side b k) x ≡ false → is_wrong (between_step side b k d s x) ≡ false
      → turn (reader (State.Between side b k) d s) x ≡ Ok (reader (between_step side b k d s x) d s)
  unfolding reader step step_from again
  on_turn h i = turn_on (reader (State.Between side b k) d s) x h i refl
