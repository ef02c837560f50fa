-- `evaluation_result::result` meets its contract.
use native.Mathlib.Omega.{arith}
use mathlib.Core.Path.{◌≡◌}
use lib.ListN.{length, length-map}
use Rattle.verdict_judgement.specs.code.Judging.{judged_standing, JudgedFixed}
use Rattle.verdict_cursor.specs.code.Cursor.{stands}
use Rattle.evaluation.specs.code.View.{cursor_now}
use Rattle.evaluation.specs.GivenBack.{message_now}
use Rattle.evaluation.proofs.CallLaws.{result_not_started, result_not_handed, result_missing, result_verdict}
use Rattle.evaluation_result.proofs.result.Goals as goal
use Rattle.evaluation_result.proofs.result.Goals.{After-judge, then-not-e-via-then-not-e, then-not-e-via-else-not-e+then-not-e-2}

-- where the evaluation stands
stood : (v : After-judge) →
    let e = v.args.e in
    judged_standing e.domains e.numbers e.terms v.judge.result ≡ stands (message_now e) (cursor_now e)
unfolding message_now cursor_now
stood v = v.judge.ensures.standing

pub returns-then-not-e : goal.returns-then-not-e
returns-then-not-e c =
    rw c.refuse.ensures
    (elim c.then-not-e.branch [
      | then-not-e-via-then-not-e w ↦ result_not_started c.args.e w.if-not-e.true
      | then-not-e-via-else-not-e+then-not-e-2 w ↦ result_not_handed c.args.e w.if-not-e.false w.if-not-e-2.true
    ])

pub returns-in-Missing : goal.returns-in-Missing
returns-in-Missing c =
    rw c.refuse-in-Missing.ensures (result_missing c.args.e (c.if-not-e.false) (c.if-not-e-2.false) _ _ (rw c.in-Missing.is at (stood (goal.at.returns-in-Missing c).After-judge)))

pub returns-in-Done : goal.returns-in-Done
unfolding message_now JudgedFixed
returns-in-Done c =
    let full : length c.args.e.kept ≡ 408 = omega arith in
    result_verdict c.args.e (c.if-not-e.false) (c.if-not-e-2.false) c.in-Done.judgement (rw c.in-Done.is at (stood (goal.at.returns-in-Done c).After-judge)) (rw c.in-Done.is at c.judge.ensures.fixed) full c.count_answers.result c.count_answers.ensures
