-- `txt_codes::read_status` meets its contract.
use native.Mathlib.Omega.{arith}
use Rattle.txt.specs.Answers.{status_numbered}
use Rattle.txt.proofs.StatusLaws.{not_listed}
use Rattle.txt_codes.proofs.read_status.Goals as goal

pub returns-in-0 : goal.returns-in-0
unfolding status_numbered
returns-in-0 c = rw c.in-0.is

pub returns-in-1 : goal.returns-in-1
unfolding status_numbered
returns-in-1 c = rw c.in-1.is

pub returns-in_default : goal.returns-in_default
returns-in_default c = not_listed c.args.n (λ e. omega arith) (λ e. omega arith)
