-- `report_record::alignment_word` meets its contract.
use Rattle.octets.specs.Octets.{octets}
use Rattle.report.specs.Report.{result_of_alignment}
use Rattle.report_record.proofs.alignment_word.Goals as goal

pub returns-then-aligned : goal.returns-then-aligned
unfolding result_of_alignment octets
returns-then-aligned c = rw c.if-aligned.true

pub returns-else-aligned : goal.returns-else-aligned
unfolding result_of_alignment octets
returns-else-aligned c = rw c.if-aligned.false
