-- Laws of the number of a kind of place.
use mathlib.Core.Path.{◌≡◌, sym}
use Prim.Native.Nat.{ℕ}
use native.Mathlib.Omega.{arith}
use Rattle.octets.proofs.ListLaws.{past, further}
use Rattle.address_check.specs.declared.PointKind.{PointKind}
use Rattle.address_check.specs.code.View.{point_kinds, point_kind_in}

-- a number that is not listed
pub not_listed : (n : ℕ) → (n ≡ 0 → ⊥) → (n ≡ 1 → ⊥) → (n ≡ 2 → ⊥) → (n ≡ 3 → ⊥) → (n ≡ 4 → ⊥) → (n ≡ 5 → ⊥) → (n ≡ 6 → ⊥) → PointKind.NotKnown ≡ point_kind_in n
unfolding point_kind_in
not_listed n a b c d e f g = sym (past point_kinds n PointKind.NotKnown (further 6 n (further 5 n (further 4 n (further 3 n (further 2 n (further 1 n (further 0 n (omega arith) a) b) c) d) e) f) g))
