use Rattle.report_reader.specs.code.Reading.{fresh}
use Rattle.report_reader.proofs.ReaderLaws.{begins}
use Rattle.report_reader.proofs.begin.Goals as goal

-- src/lib.rt:45:1
pub returns : goal.returns
unfolding fresh
returns c = λ row. begins row
