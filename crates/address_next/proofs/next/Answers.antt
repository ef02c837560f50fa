-- `address_next::next` meets its contract.
use mathlib.Core.Path.{◌≡◌}
use native.Mathlib.Omega.{arith}
use lib.ListN.{length}
use Rattle.octets.proofs.TextLaws.{flag_unset, flag_set}
use Rattle.address_check.specs.Numbers.{pair_now}
use Rattle.address_check.specs.code.View.{cursor_now}
use Rattle.address_check.proofs.CallLaws.{asking, counted, next_not_started, next_name, next_outcome}
use Rattle.address_point.specs.code.Ahead.{ahead_standing}
use Rattle.address_next.proofs.next.Goals as goal
use Rattle.address_next.proofs.next.Goals.{Start}

kept_full : (k : Start) → length k.args.c.kept ≡ 48
kept_full k = omega arith

pub returns-then-c-eq0 : goal.returns-then-c-eq0
returns-then-c-eq0 c = let e = c.args.c in next_not_started e (flag_unset e.started c.if-c-eq0.true)

pub returns-in-Name : goal.returns-in-Name
unfolding asking ahead_standing cursor_now
returns-in-Name c =
    let e = c.args.c in
    next_name e (flag_set e.started c.if-c-eq0.false) _ _ (rw c.in-Name.is at (c.look.ensures (pair_now e)).0)

pub returns-in-Outcome : goal.returns-in-Outcome
unfolding ahead_standing cursor_now
returns-in-Outcome c =
    let e = c.args.c in
    let s = flag_set e.started c.if-c-eq0.false in
    next_outcome e s _ (rw c.in-Outcome.is at (c.look.ensures (pair_now e)).0) (counted e s (kept_full (goal.at.returns-in-Outcome c).Start) c.count_names-count.ensures)
