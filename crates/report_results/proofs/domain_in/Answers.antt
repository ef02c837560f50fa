-- `report_results::domain_in` meets its contract.
use Rattle.report_results.proofs.ResultLaws.{domain_is}
use Rattle.report_results.proofs.domain_in.Goals as goal

pub returns : goal.returns
returns c = domain_is c.args.body.now c.octet_at-length.ensures c.skip.ensures c.without_dot.ensures
