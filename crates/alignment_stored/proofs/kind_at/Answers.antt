-- `alignment_stored::kind_at` meets its contract.
use native.Mathlib.Omega.{arith}
use Rattle.alignment_stored.specs.code.Stored.{kind_in, kind_at}
use Rattle.alignment_stored.proofs.StoredLaws.{dkim_in}
use Rattle.alignment_stored.proofs.kind_at.Goals as goal

pub returns-in-0 : goal.returns-in-0
unfolding kind_in kind_at
returns-in-0 c = rw (← c.number_at.ensures, c.in-0.is)

pub returns-in_default : goal.returns-in_default
unfolding kind_at
returns-in_default c = rw (← c.number_at.ensures) (dkim_in c.number_at.result (λ e. omega arith))
