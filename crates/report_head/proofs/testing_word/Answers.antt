-- `report_head::testing_word` meets its contract.
use Rattle.octets.specs.Octets.{octets}
use Rattle.report.specs.Report.{published_testing}
use Rattle.report_head.proofs.testing_word.Goals as goal

pub returns-then-t : goal.returns-then-t
unfolding published_testing octets
returns-then-t c = rw c.if-t.true

pub returns-else-t : goal.returns-else-t
unfolding published_testing octets
returns-else-t c = rw c.if-t.false
