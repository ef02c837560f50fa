-- `txt_codes::decode_psd` meets its contract.
use native.Mathlib.Omega.{arith}
use borrow.Author.Tests.{ne_eqb}
use Rattle.txt_codes.specs.code.Codes.{psd_of}
use Rattle.txt_codes.proofs.decode_psd.Goals as goal

pub returns-in-0 : goal.returns-in-0
unfolding psd_of
returns-in-0 c = rw c.in-0.is

pub returns-in-1 : goal.returns-in-1
unfolding psd_of
returns-in-1 c = rw c.in-1.is

pub returns-in_default : goal.returns-in_default
unfolding psd_of
returns-in_default c =
    let n = c.args.n in
    rw (ne_eqb n 0 (λ e. omega arith), ne_eqb n 1 (λ e. omega arith))
