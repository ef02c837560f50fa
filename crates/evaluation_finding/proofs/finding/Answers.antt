-- `evaluation_finding::finding` meets its contract.
use Rattle.std.proofs.lemmas.Result.{err_from_is_err_and}
use Rattle.evaluation.specs.Promises.{ResultFixed}
use Rattle.evaluation.specs.GivenBack.{message_now}
use Rattle.evaluation_finding.proofs.FindingLaws.{found_refused, found_verdict}
use Rattle.evaluation_finding.proofs.finding.Goals as goal

pub returns-in_err-v : goal.returns-in_err-v
returns-in_err-v c =
    let h = err_from_is_err_and c.from_residual.result c.from_residual.ensures.1 in
    rw (h.1, h.2) (found_refused c.args.e c.in_err-v.field-0.0 (rw c.in_err-v.was at c.result.ensures.says))

pub returns : goal.returns
unfolding message_now ResultFixed
returns c =
    let e = c.args.e in
    rw (c.enter.ensures e.domains) (found_verdict e c.in_ok-v.v (rw c.in_ok-v.was at c.result.ensures.says) (rw c.in_ok-v.was at c.result.ensures.fixed))
