-- Laws of the targets that a walk has left.
use Prim.Native.Nat.{◌<◌}
use native.Mathlib.Omega.{arith}
use lib.ListN.{length}
use Rattle.domain.specs.Domain.{Domain, targets}
use Rattle.domain.proofs.DomainLaws.{label_count_positive, target_count}

pub some_target : (d : Domain) → 0 < length (targets d)
some_target d = omega (arith, target_count d, label_count_positive d)
