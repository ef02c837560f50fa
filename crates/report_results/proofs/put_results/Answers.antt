-- `report_results::put_results` meets its contract.
use Rattle.report_results.proofs.ResultLaws.{results_puts}
use Rattle.octets.specs.Octets.{octets}
use Rattle.report_results.proofs.put_results.Goals as goal

pub returns : goal.returns
unfolding octets
returns c =
    let a = c.args in
    results_puts _ a.out.now a.at c.put-first.ensures c.put_each-second.ensures c.put_each-last.ensures c.put.ensures
