-- `evaluation_answer::answer` meets its contract.
use Rattle.std.specs.Prelude.{Some}
use native.Mathlib.Omega.{arith}
use mathlib.Core.Path.{◌≡◌, ap, sym, ◌∙◌}
use lib.ListN.{length}
use Rattle.verdict_cursor.specs.code.Cursor.{stands, needed}
use Rattle.verdict_ahead.specs.code.Waits.{waiting_name}
use Rattle.evaluation.specs.code.View.{cursor_now}
use Rattle.evaluation.specs.GivenBack.{message_now, marked}
use Rattle.evaluation_keep.specs.code.Asking.{answered}
use Rattle.evaluation_keep.proofs.AnswerLaws.{answered_in, accepted_few, answer_not_now, answer_refused, answer_accepted}
use Rattle.evaluation_answer.proofs.answer.Goals as goal
use Rattle.evaluation_answer.proofs.answer.Goals.{After-find_asked, In-Some, Start}

-- what the answer is for
named : (v : After-find_asked) →
    let a = v.args in
    waiting_name a.e.domains a.e.numbers v.find_asked.result ≡ answered_in a.e a.name.now
unfolding message_now cursor_now
named v =
    let a = v.args in
    v.find_asked.ensures a.e.stored ∙ ap (λ b. answered b a.name.now (needed (stands (message_now a.e) (cursor_now a.e)))) v.is_live-live.ensures

-- and where it is the name now asked
now_asked : (w : In-Some) →
    let a = w.args in
    answered_in a.e a.name.now ≡ Some (marked a.e w.in-Some.asked.walk w.in-Some.asked.place)
unfolding waiting_name marked message_now cursor_now
now_asked w =
    let a = w.args in
    sym (rw w.in-Some.is at (w.find_asked.ensures a.e.stored ∙ ap (λ b. answered b a.name.now (needed (stands (message_now a.e) (cursor_now a.e)))) w.is_live-live.ensures))

kept_full : (k : Start) → length k.args.e.kept ≡ 408
kept_full k = omega arith

pub returns-in-None : goal.returns-in-None
unfolding waiting_name
returns-in-None c =
    let a = c.args in
    rw c.refused.ensures (answer_not_now a.e (kept_full (goal.at.returns-in-None c).Start) a.name.now a.status a.bytes.now a.scratch.now (sym (rw c.in-None.is at (named (goal.at.returns-in-None c).After-find_asked))))

pub returns-in-Err : goal.returns-in-Err
returns-in-Err c =
    let a = c.args in
    rw c.refused-in-Err.ensures (answer_refused a.e (kept_full (goal.at.returns-in-Err c).Start) a.name.now a.status a.bytes.now a.scratch.now (now_asked (goal.at.returns-in-Err c).In-Some) _ c.in-Err.f (rw c.in-Err.is at c.take_answer.ensures))

pub returns-in-Ok : goal.returns-in-Ok
returns-in-Ok c =
    let a = c.args in
    answer_accepted a.e (kept_full (goal.at.returns-in-Ok c).Start) a.name.now a.status a.bytes.now a.scratch.now c.in-Some.asked.walk c.in-Some.asked.place (now_asked (goal.at.returns-in-Ok c).In-Some) _ c.in-Ok.r c.accept.result (c.accept.ensures.accepts (accepted_few a.e a.name.now (now_asked (goal.at.returns-in-Ok c).In-Some))) (rw c.in-Ok.is at c.take_answer.ensures)
