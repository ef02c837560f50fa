-- The texts of Ask 5, computed.
use mathlib.Core.Path.{refl}
use Rattle.domain.specs.FinalDot.{long, FinalDot}
use Rattle.domain.proofs.Computing.{domain_computes}

pub final_dot : FinalDot
unfolding domain_computes long
final_dot = record { root = refl; lone = refl; two = refl; two_alone = refl; longest = refl; too_long = refl; too_long_with_dot = refl }
