-- Laws of the entries and the octets of a rua text.
use mathlib.Core.Path.{◌≡◌, refl, ap, sym, ◌∙◌}
use mathlib.Core.List.{[], ◌∷◌, reverse, reverse-reverse}
use mathlib.Core.Bool.{Bool, true, false, ◌&&◌, ◌||◌, not, and-false}
use Prim.Native.Nat.{ℕ, ◌≤◌, ◌<◌}
use native.Mathlib.Omega.{arith}
use lib.Dec.{eqb, leb}
use native.Mathlib.Decide.{dec_le}
use borrow.Author.Tests.{eq-eqb, ne_eqb}
use lib.ListN.{length, length-drop, length-reverse}
use Rattle.octets.specs.Octets.{Octets, made_of, all, one_of, same, between, split, front, after, is_blank, trim_end, trim}
use Rattle.octets.proofs.TextLaws.{same_self, same_uneven}
use Rattle.octets.proofs.PartLaws.{front_fits, after_drop}
use Rattle.policy.specs.Reports.{valid_entry}
use Rattle.publishing.specs.Publishing.{good_entries, good_rua}

-- ------------------------------------------------------------------ blanks at either end

-- where nothing is dropped, all is kept
kept_all : (f : ℕ → Bool) (s : Octets) → length s ≤ length (after f s) → after f s ≡ s
kept_all f s h =
    let none : length (front f s) ≡ 0 = omega (arith, h, ap length (after_drop f s), length-drop (length (front f s)) s, front_fits f s) in
    after_drop f s ∙ rw none

after_short : (f : ℕ → Bool) (s : Octets) → length (after f s) ≤ length s
after_short f s = omega (arith, ap length (after_drop f s), length-drop (length (front f s)) s)

end_short : (s : Octets) → length (trim_end s) ≤ length s
unfolding trim_end
end_short s = omega (arith, length-reverse (after is_blank (reverse s)), after_short is_blank (reverse s), length-reverse s)

trim_short : (s : Octets) → length (trim s) ≤ length s
unfolding trim
trim_short s = omega (arith, after_short is_blank (trim_end s), end_short s)

-- a text is trimmed where trimming it leaves it as long as it was
trimmed : (s : Octets) → length s ≤ length (trim s) → same (trim s) s ≡ true
unfolding trim trim_end
trimmed s h = rw (whole ∙ back) (same_self s)
  where
    back : trim_end s ≡ s
    back =
        ap reverse (kept_all is_blank (reverse s) (omega (arith, h, after_short is_blank (trim_end s), length-reverse (after is_blank (reverse s)), length-reverse s)))
        ∙ reverse-reverse s

    whole : trim s ≡ trim_end s
    whole = kept_all is_blank (trim_end s) (omega (arith, h, end_short s))

not_trimmed : (s : Octets) → length (trim s) < length s → same (trim s) s ≡ false
not_trimmed s h = same_uneven (trim s) s (λ e. omega (arith, h, e))

-- ------------------------------------------------------------------ the whole text

-- trimming leaves a text as long as it was, or not
same_long : (s : Octets) → same (trim s) s ≡ eqb (length (trim s)) (length s)
same_long s = go (dec_le (length s) (length (trim s)))
  where
    go : Dec (length s ≤ length (trim s)) → same (trim s) s ≡ eqb (length (trim s)) (length s)
    go (yes h) =
        let e : length (trim s) ≡ length s = omega (arith, trim_short s) in
        trimmed s h ∙ sym (eq-eqb (length (trim s)) (length s) e)
    go (no h) = not_trimmed s (omega arith) ∙ sym (ne_eqb (length (trim s)) (length s) (λ e. h (omega arith)))

-- what is tested of a text, in the code's order
pub tested : (s : Octets)
    → good_rua s ≡ (eqb (length s) 0 || (made_of 4096 (between 32 126) s && not (one_of s 59) && eqb (length (trim s)) (length s) && all (λ e. valid_entry (trim e)) (split 44 s)))
unfolding good_rua good_entries made_of
tested [] = refl
tested (x ∷ s) =
    rw (ne_eqb (length (x ∷ s)) 0 (omega arith), ← same_long (x ∷ s))
    (go (all (λ e. valid_entry (trim e)) (split 44 (x ∷ s))) (one_of (x ∷ s) 59) (all (between 32 126) (x ∷ s)) (same (trim (x ∷ s)) (x ∷ s)) (leb (length (x ∷ s)) 4096))
  where
    go : (a o b c d : Bool) → (a && not o && b && c && d) ≡ ((d && b) && not o && c && a)
    go false o b c d = sym (and-false (d && b && not o && c))
    go true false false c false = refl
    go true false false c true = refl
    go true false true false false = refl
    go true false true false true = refl
    go true false true true false = refl
    go true false true true true = refl
    go true true b c false = refl
    go true true false c true = refl
    go true true true c true = refl
