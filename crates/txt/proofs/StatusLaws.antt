-- Laws of an answer's status.
use mathlib.Core.Path.{◌≡◌, sym}
use Prim.Native.Nat.{ℕ}
use native.Mathlib.Omega.{arith}
use Rattle.octets.proofs.ListLaws.{past, further}
use Rattle.txt.specs.declared.Status.{Status}
use Rattle.txt.specs.Answers.{statuses, status_numbered}

-- a number that is not listed
pub not_listed : (n : ℕ) → (n ≡ 0 → ⊥) → (n ≡ 1 → ⊥) → Status.Error ≡ status_numbered n
unfolding status_numbered
not_listed n a b = sym (past statuses n Status.Error (further 1 n (further 0 n (omega arith) a) b))
