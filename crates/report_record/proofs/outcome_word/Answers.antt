-- `report_record::outcome_word` meets its contract.
use Rattle.std.proofs.Common.{◌≡◌, arith}
use Rattle.octets.specs.Octets.{octets}
use Rattle.report.specs.Report.{outcome_word}
use Rattle.report_record.proofs.RecordLaws.{no_outcome}
use Rattle.report_record.proofs.outcome_word.Goals as goal

pub returns-in-0 : goal.returns-in-0
unfolding outcome_word octets
returns-in-0 c = rw c.in-0.is

pub returns-in-1 : goal.returns-in-1
unfolding outcome_word octets
returns-in-1 c = rw c.in-1.is

pub returns-in-2 : goal.returns-in-2
unfolding outcome_word octets
returns-in-2 c = rw c.in-2.is

pub returns-in_default : goal.returns-in_default
returns-in_default c =
    let n = c.args.outcome in
    no_outcome n (λ (e : n ≡ 0). omega arith) (λ (e : n ≡ 1). omega arith) (λ (e : n ≡ 2). omega arith)
