-- `verdict_author::put_number` meets its contract.
use mathlib.Core.Path.{ap}
use Prim.Native.Nat.{suc}
use native.Mathlib.Omega.{arith}
use borrow.Author.Rules.{rules}
use lib.Seq.{get_or-set_same, get_or-set_other}
use Rattle.walk_progress.specs.code.Stops.{stored_of}
use Rattle.verdict_cursor.specs.code.Standing.{stored_at}
use Rattle.verdict_author.proofs.put_number.Goals as goal

pub returns : goal.returns
unfolding stored_at
returns c =
    let a = c.args in
    record {
      number = ap stored_of (get_or-set_same a.stored.now 0 a.number 0 (search rules));
      others = λ k. get_or-set_other a.stored.now 0 (suc k) a.number 0 (λ e. omega arith);
    }
