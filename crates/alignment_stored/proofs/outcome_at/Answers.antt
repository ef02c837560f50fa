-- `alignment_stored::outcome_at` meets its contract.
use native.Mathlib.Omega.{arith}
use Rattle.alignment_stored.specs.code.Stored.{outcome_in, outcome_at}
use Rattle.alignment_stored.proofs.StoredLaws.{not_passing_in}
use Rattle.alignment_stored.proofs.outcome_at.Goals as goal

pub returns-in-1 : goal.returns-in-1
unfolding outcome_in outcome_at
returns-in-1 c = rw (← c.number_at.ensures, c.in-1.is)

pub returns-in-2 : goal.returns-in-2
unfolding outcome_in outcome_at
returns-in-2 c = rw (← c.number_at.ensures, c.in-2.is)

pub returns-in_default : goal.returns-in_default
unfolding outcome_at
returns-in_default c = rw (← c.number_at.ensures) (not_passing_in c.number_at.result (λ e. omega arith) (λ e. omega arith))
