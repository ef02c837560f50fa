-- `address_answer::answer` meets its contract.
use mathlib.Core.Path.{◌≡◌}
use native.Mathlib.Omega.{arith}
use lib.ListN.{length}
use Rattle.address_check.specs.Numbers.{pair_now}
use Rattle.address_check.specs.code.View.{cursor_now}
use Rattle.address_answer.proofs.AnswerLaws.{answer_not_now, walk_refused, walk_accepted, confirming_refused, confirming_accepted}
use Rattle.address_answer.proofs.answer.Goals as goal
use Rattle.address_answer.proofs.answer.Goals.{Start}

kept_full : (k : Start) → length k.args.c.kept ≡ 48
kept_full k = omega arith

pub returns-in-Nothing : goal.returns-in-Nothing
unfolding pair_now cursor_now
returns-in-Nothing c =
    let a = c.args in
    rw c.refused.ensures
    (answer_not_now a.c (kept_full (goal.at.returns-in-Nothing c).Start) a.name.now a.status a.bytes.now a.scratch.now (c.is_live-live.ensures (pair_now a.c))
    (rw c.in-Nothing.is at c.find_asked.ensures))

pub returns-in-Err : goal.returns-in-Err
unfolding pair_now cursor_now
returns-in-Err c =
    let a = c.args in
    rw c.refused-in-Err.ensures
    (walk_refused a.c (kept_full (goal.at.returns-in-Err c).Start) a.name.now a.status a.bytes.now a.scratch.now (c.is_live-live.ensures (pair_now a.c)) _ _
    (rw c.in-Walk.is at c.find_asked.ensures) _ c.in-Err.f
    (rw c.in-Err.is at c.take_answer.ensures))

pub returns-in-Ok : goal.returns-in-Ok
unfolding pair_now cursor_now
returns-in-Ok c =
    let a = c.args in
    walk_accepted a.c (kept_full (goal.at.returns-in-Ok c).Start) a.name.now a.status a.bytes.now a.scratch.now (c.is_live-live.ensures (pair_now a.c)) _ _
    (rw c.in-Walk.is at c.find_asked.ensures) _ c.in-Ok.r
    (rw c.in-Ok.is at c.take_answer.ensures) c.accept.result c.accept.ensures

pub returns-in-Err-take_confirming : goal.returns-in-Err-take_confirming
unfolding pair_now cursor_now
returns-in-Err-take_confirming c =
    let a = c.args in
    rw c.refused-in-Err-take_confirming.ensures
    (confirming_refused a.c (kept_full (goal.at.returns-in-Err-take_confirming c).Start) a.name.now a.status a.bytes.now a.scratch.now (c.is_live-live.ensures (pair_now a.c))
    (rw c.in-Confirming.is at c.find_asked.ensures) c.slot-host.ensures _ c.in-Err-take_confirming.f
    (rw c.in-Err-take_confirming.is at c.take_confirming.ensures))

pub returns-in-Ok-take_confirming : goal.returns-in-Ok-take_confirming
unfolding pair_now cursor_now
returns-in-Ok-take_confirming c =
    let a = c.args in
    confirming_accepted a.c (kept_full (goal.at.returns-in-Ok-take_confirming c).Start) a.name.now a.status a.bytes.now a.scratch.now (c.is_live-live.ensures (pair_now a.c))
    (rw c.in-Confirming.is at c.find_asked.ensures) c.slot-host.ensures _ c.in-Ok-take_confirming.a
    (rw c.in-Ok-take_confirming.is at c.take_confirming.ensures) c.settle.result c.settle.ensures
