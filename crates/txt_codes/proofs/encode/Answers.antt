-- `txt_codes::encode` meets its contract.
use native.Mathlib.Omega.{arith}
use borrow.Author.Rules.{rules}
use Rattle.txt_codes.specs.code.Codes.{reply_code}
use Rattle.txt_codes.proofs.encode.Goals as goal

pub returns-in-Error : goal.returns-in-Error
unfolding reply_code
returns-in-Error c = search rules

pub returns-in-NoRecord : goal.returns-in-NoRecord
unfolding reply_code
returns-in-NoRecord c = search rules

pub returns-in-Record : goal.returns-in-Record
unfolding reply_code
returns-in-Record c = rw c.in-Record.is (omega arith)
