-- Laws of a final dot, by the last octet.
use mathlib.Core.Path.{◌≡◌, refl, ap}
use mathlib.Core.List.{[], ◌∷◌}
use Prim.Native.Nat.{ℕ, zero, suc}
use native.Mathlib.Omega.{arith}
use lib.ListN.{length, take, get_or}
use borrow.Author.Tests.{eq-eqb, ne_eqb}
use Rattle.octets.specs.Octets.{Octets}
use Rattle.domain.specs.Domain.{without_dot}

-- a text without octets has no dot
pub dot_of_none : (s : Octets) → length s ≡ 0 → without_dot s ≡ s
unfolding without_dot
dot_of_none [] e = refl
dot_of_none (x ∷ s) e = absurd (omega arith)

-- the last octet is another
pub dot_stays : (s : Octets) (i : ℕ) → length s ≡ suc i → (get_or s i 0 ≡ 46 → ⊥) → without_dot s ≡ s
unfolding without_dot
dot_stays [] i e o = refl
dot_stays (x ∷ []) zero e o = rw (ne_eqb x 46 o)
dot_stays (x ∷ []) (suc i) e o = absurd (omega arith)
dot_stays (x ∷ y ∷ ys) zero e o = absurd (omega arith)
dot_stays (x ∷ y ∷ ys) (suc i) e o = ap (λ (l : Octets). x ∷ l) (dot_stays (y ∷ ys) i (omega arith) o)

-- the last octet is a dot
pub dot_goes : (s : Octets) (i : ℕ) → length s ≡ suc i → get_or s i 0 ≡ 46 → without_dot s ≡ take i s
unfolding without_dot
dot_goes [] i e o = absurd (omega arith)
dot_goes (x ∷ []) zero e o = rw (eq-eqb x 46 o)
dot_goes (x ∷ []) (suc i) e o = absurd (omega arith)
dot_goes (x ∷ y ∷ ys) zero e o = absurd (omega arith)
dot_goes (x ∷ y ∷ ys) (suc i) e o = ap (λ (l : Octets). x ∷ l) (dot_goes (y ∷ ys) i (omega arith) o)
