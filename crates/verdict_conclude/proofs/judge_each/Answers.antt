-- `verdict_conclude::judge_each` meets its contract.
use mathlib.Core.Path.{refl}
use Rattle.verdict_conclude.proofs.JudgingLaws.{concludes_each}
use Rattle.verdict_conclude.proofs.judge_each.Goals as goal

pub returns : goal.returns
returns c =
    let a = c.args in
    rw (c.conclude.ensures, c.with_policy-result.ensures, c.find_result.ensures)
    (concludes_each a.domains.now a.numbers.now a.t a.ruling.begin c.clip-begin.result (rw c.slot-author.ensures at c.clip-begin.ensures) a.stored.now a.ruling refl c.tally-tally.result c.tally-tally.ensures)
