-- `evaluation_step::next` meets its contract.
use native.Mathlib.Omega.{arith}
use borrow.Author.Tests.{not-true, not-false}
use mathlib.Core.Path.{◌≡◌, ap, ◌∙◌}
use lib.ListN.{length}
use Rattle.verdict_judgement.specs.code.Judging.{judged_standing, JudgedFixed}
use Rattle.verdict_cursor.specs.code.Cursor.{stands}
use Rattle.evaluation.specs.code.View.{cursor_now}
use Rattle.evaluation.specs.Promises.{StepFixed}
use Rattle.evaluation.specs.GivenBack.{message_now}
use Rattle.evaluation.proofs.CallLaws.{next_not_started}
use Rattle.evaluation_first.specs.code.Pointing.{Points}
use Rattle.evaluation_first.proofs.PointLaws.{same_message, next_missing, next_verdict}
use Rattle.evaluation_step.proofs.next.Goals as goal
use Rattle.evaluation_step.proofs.next.Goals.{After-judge, After-point-at}

-- where the next step is
pointed : (p : After-point-at) → Points p.args.e p.point-at.result
pointed p = p.point-at.ensures

-- and where the evaluation stands there
stood : (v : After-judge) →
    let a = v.point-at.result in
    judged_standing a.domains a.numbers a.terms v.judge.result ≡ stands (message_now a) (cursor_now a)
unfolding message_now cursor_now
stood v = v.judge.ensures.standing

pub returns-then-not-e : goal.returns-then-not-e
unfolding StepFixed
returns-then-not-e c = rw c.refuse.ensures record { does = next_not_started c.args.e (not-true _ c.if-not-e.true); fixed = tt }

pub returns-in-Missing : goal.returns-in-Missing
unfolding StepFixed
returns-in-Missing c =
    record { does = next_missing c.args.e (not-false _ c.if-not-e.false) c.point-at.result (pointed (goal.at.returns-in-Missing c).After-point-at) c.in-Missing.walk c.in-Missing.place (rw c.in-Missing.is at (stood (goal.at.returns-in-Missing c).After-judge)); fixed = tt }

pub returns-in-Done : goal.returns-in-Done
unfolding message_now StepFixed JudgedFixed
returns-in-Done c =
    let full : length c.args.e.kept ≡ 408 = omega arith in
    record {
      does = next_verdict c.args.e (not-false _ c.if-not-e.false) c.point-at.result (pointed (goal.at.returns-in-Done c).After-point-at) c.in-Done.judgement (rw c.in-Done.is at (stood (goal.at.returns-in-Done c).After-judge)) (ap length (pointed (goal.at.returns-in-Done c).After-point-at).kept ∙ full) c.count_answers-count.result c.count_answers-count.ensures;
      fixed = rw (← same_message c.args.e (not-false _ c.if-not-e.false) c.point-at.result (pointed (goal.at.returns-in-Done c).After-point-at)) (rw c.in-Done.is at c.judge.ensures.fixed);
    }
