-- `txt_codes::decode` meets its contract.
use mathlib.Core.Path.{ap}
use native.Mathlib.Omega.{arith}
use borrow.Author.Tests.{ne_eqb}
use Rattle.txt.specs.declared.Reply.{Reply}
use Rattle.txt_codes.specs.code.Codes.{reply_of}
use Rattle.txt_codes.proofs.decode.Goals as goal

pub returns-in-0 : goal.returns-in-0
unfolding reply_of
returns-in-0 c = rw c.in-0.is

pub returns-in-1 : goal.returns-in-1
unfolding reply_of
returns-in-1 c = rw c.in-1.is

pub returns-in_default : goal.returns-in_default
unfolding reply_of
returns-in_default c =
    let n = c.args.code in
    rw (ne_eqb n 0 (λ e. omega arith), ne_eqb n 1 (λ e. omega arith)) (ap Reply.Record c.decode_settings.ensures)
