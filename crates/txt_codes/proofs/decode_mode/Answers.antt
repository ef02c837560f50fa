-- `txt_codes::decode_mode` meets its contract.
use native.Mathlib.Omega.{arith}
use borrow.Author.Tests.{ne_eqb}
use Rattle.txt_codes.specs.code.Codes.{mode_of_code}
use Rattle.txt_codes.proofs.decode_mode.Goals as goal

pub returns-in-0 : goal.returns-in-0
unfolding mode_of_code
returns-in-0 c = rw c.in-0.is

pub returns-in_default : goal.returns-in_default
unfolding mode_of_code
returns-in_default c = rw (ne_eqb c.args.n 0 (λ e. omega arith))
