-- `report_head::mode_word` meets its contract.
use Rattle.octets.specs.Octets.{octets}
use Rattle.report.specs.Report.{published_mode}
use Rattle.report_head.proofs.mode_word.Goals as goal

pub returns-in-Relaxed : goal.returns-in-Relaxed
unfolding published_mode octets
returns-in-Relaxed c = rw c.in-Relaxed.is

pub returns-in-Strict : goal.returns-in-Strict
unfolding published_mode octets
returns-in-Strict c = rw c.in-Strict.is
