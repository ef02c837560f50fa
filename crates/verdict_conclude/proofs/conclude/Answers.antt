-- `verdict_conclude::conclude` meets its contract.
use Rattle.verdict_judgement.specs.code.Judging.{judgement}
use Rattle.verdict_conclude.proofs.conclude.Goals as goal

pub returns : goal.returns
unfolding judgement
returns c = rw c.dispose.ensures
