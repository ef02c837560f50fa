-- `verdict_conclude::judge_none` meets its contract.
use Rattle.verdict_conclude.proofs.JudgingLaws.{concludes_none}
use Rattle.verdict_conclude.proofs.judge_none.Goals as goal

pub returns : goal.returns
returns c =
    let a = c.args in
    rw c.conclude.ensures (concludes_none a.domains.now a.numbers.now a.t a.at c.clip-begin.result (rw c.slot-author.ensures at c.clip-begin.ensures) a.res a.policy)
