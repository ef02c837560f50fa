-- `verdict_conclude::judge` meets its contract.
use Rattle.verdict_judgement.specs.code.Judging.{judged_standing, JudgedFixed}
use Rattle.verdict_ahead.specs.code.Waits.{ahead_standing}
use Rattle.verdict_conclude.proofs.judge.Goals as goal

pub returns-in-Target : goal.returns-in-Target
unfolding ahead_standing judged_standing JudgedFixed
returns-in-Target c =
    let a = c.args in
    record { standing = rw c.in-Target.is at (c.look_ahead.ensures.standing a.domains.now a.numbers.now a.stored.now); fixed = tt }

pub returns-in-Unjudged : goal.returns-in-Unjudged
unfolding ahead_standing
returns-in-Unjudged c =
    let a = c.args in
    rw (← (c.look_ahead.ensures.standing a.domains.now a.numbers.now a.stored.now), c.in-Unjudged.is) c.judge_none.ensures

pub returns-in-Aligning : goal.returns-in-Aligning
unfolding ahead_standing
returns-in-Aligning c =
    let a = c.args in
    rw (← (c.look_ahead.ensures.standing a.domains.now a.numbers.now a.stored.now), c.in-Aligning.is) c.judge_each.ensures
