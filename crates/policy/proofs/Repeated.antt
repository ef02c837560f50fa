-- The texts of Ask 2, computed.
use mathlib.Core.Path.{refl}
use Rattle.policy.specs.Repeated.{Repeated}
use Rattle.policy.proofs.Computing.{policy_computes}

pub repeated : Repeated
unfolding policy_computes
repeated = record { known = refl; version = refl; unknown = refl; either_case = refl; equal_values = refl; ill_formed = refl; once = refl }
