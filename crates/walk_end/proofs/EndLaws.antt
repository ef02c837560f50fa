-- Laws of the end of a walk, by the places of its domains in the start.
use Rattle.std.specs.Prelude.{Option, Some}
use mathlib.Core.Path.{◌≡◌, refl, ap, sym, ◌∙◌}
use mathlib.Core.Bool.{Bool, true, false}
use Prim.Native.Nat.{ℕ, min}
use native.Mathlib.Omega.{arith}
use lib.Dec.{eqb}
use lib.ListN.{length, drop, length-drop}
use borrow.Author.Tests.{eqb-true, eqb-false}
use Rattle.octets.specs.Octets.{same}
use Rattle.octets.proofs.TextLaws.{same_self, same_uneven}
use Rattle.octets.proofs.PartLaws.{clipped}
use Rattle.domain.specs.Domain.{Domain}
use Rattle.policy.specs.declared.Settings.{Settings}
use Rattle.walk.specs.Walk.{Found, found}
use Rattle.walk_progress.specs.code.Summary.{or_found}
use Rattle.walk_progress.specs.code.Turns.{if_at, last_summary, wider_summary}

-- ------------------------------------------------------------------ ends of a text

-- two ends are the same exactly where they begin at the same place of the text
pub same_ends : (d : Domain) (a b : ℕ) (x y : ℕ) → x ≡ min a (length d) → y ≡ min b (length d) → eqb x y ≡ same (drop a d) (drop b d)
same_ends d a b x y e f = go (eqb x y) refl
  where
    go : (t : Bool) → eqb x y ≡ t → eqb x y ≡ same (drop a d) (drop b d)
    go true h =
        let ends : drop a d ≡ drop b d = sym (clipped d a) ∙ ap (λ (n : ℕ). drop n d) (sym e ∙ eqb-true x y h ∙ f) ∙ clipped d b in
        h ∙ sym (rw ends (same_self (drop b d)))
    go false h = h ∙ sym (same_uneven (drop a d) (drop b d) λ g. eqb-false x y h (omega (arith, length-drop a d, length-drop b d)))

-- ------------------------------------------------------------------ the end of a walk at a psd=y record

module _ (d : Domain) (at wider : ℕ) (last : Option Found) (s : Settings) (t : Bool) (e : t ≡ same (drop at d) d) where
  -- at the start
  pub suffix_at_start : t ≡ true → last_summary d (Some (found (drop at d) s)) ≡ wider_summary d last (found (drop at d) s) (drop wider d)
  unfolding wider_summary
  suffix_at_start g = rw (← e, g)

  -- and elsewhere
  pub suffix_above : t ≡ false → (chosen : Option Found) → chosen ≡ or_found (if_at (drop wider d) last) (Some (found (drop at d) s))
      → record { organization = drop wider d; applicable = chosen } ≡ wider_summary d last (found (drop at d) s) (drop wider d)
  unfolding wider_summary
  suffix_above g chosen h = rw (← e, g, h)
