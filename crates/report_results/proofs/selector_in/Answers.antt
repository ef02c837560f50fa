-- `report_results::selector_in` meets its contract.
use Rattle.report_results.proofs.ResultLaws.{selector_is}
use Rattle.report_results.proofs.selector_in.Goals as goal

pub returns : goal.returns
returns c = selector_is c.args.body.now c.octet_at-length.ensures c.part.ensures c.without_dot.ensures
