-- `policy_read::value_at` meets its contract, by what `skip` and `part` ensure.
use mathlib.Core.Path.{◌≡◌, ◌∙◌}
use Prim.Native.Nat.{ℕ, ◌-◌}
use native.Mathlib.Omega.{arith}
use lib.ListN.{take}
use Rattle.octets.specs.Octets.{Octets, part_of}
use Rattle.policy_read.specs.code.Values.{value_at}
use Rattle.policy_read.proofs.value_at.Goals as goal

cut-first : (s : Octets) (n : ℕ) → part_of s 0 n ≡ take n s
unfolding part_of
cut-first s n =
    let all : n - 0 ≡ n = omega arith in
    rw all

pub returns : goal.returns
unfolding value_at
returns c = rw (← c.skip-rest.ensures) (c.part.ensures ∙ cut-first c.skip-rest.result.now _)
