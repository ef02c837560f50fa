-- `address_next::result` meets its contract.
use mathlib.Core.Path.{◌≡◌}
use native.Mathlib.Omega.{arith}
use lib.ListN.{length}
use Rattle.octets.proofs.TextLaws.{flag_unset, flag_set}
use Rattle.address_check.specs.Numbers.{pair_now}
use Rattle.address_check.specs.code.View.{cursor_now}
use Rattle.address_check.proofs.CallLaws.{counted, result_not_started, result_outcome, result_lacking}
use Rattle.address_point.specs.code.Ahead.{ahead_standing}
use Rattle.address_next.proofs.result.Goals as goal
use Rattle.address_next.proofs.result.Goals.{Start}

kept_full : (k : Start) → length k.args.c.kept ≡ 48
kept_full k = omega arith

pub returns-then-c-eq0 : goal.returns-then-c-eq0
returns-then-c-eq0 c = let e = c.args.c in result_not_started e (flag_unset e.started c.if-c-eq0.true)

pub returns-in-Name : goal.returns-in-Name
unfolding ahead_standing cursor_now
returns-in-Name c =
    let e = c.args.c in
    result_lacking e (flag_set e.started c.if-c-eq0.false) _ (rw c.in-Name.is at (c.look.ensures (pair_now e)).0)

pub returns-in-Outcome : goal.returns-in-Outcome
unfolding ahead_standing cursor_now
returns-in-Outcome c =
    let e = c.args.c in
    let s = flag_set e.started c.if-c-eq0.false in
    result_outcome e s _ (rw c.in-Outcome.is at (c.look.ensures (pair_now e)).0) (counted e s (kept_full (goal.at.returns-in-Outcome c).Start) c.count_names-count.ensures)
