-- `evaluation_finding::enter` meets its contract.
use mathlib.Core.Path.{ap}
use Rattle.rows.specs.declared.Finding.{Finding}
use Rattle.evaluation_finding.proofs.FindingLaws.{the_found, said}
use Rattle.evaluation_finding.proofs.enter.Goals as goal

pub returns : goal.returns
returns c = λ domains.
    let a = c.args in
    rw (c.number_flag-2.ensures, c.number_flag.ensures, c.number_disposition.ensures, c.number_result.ensures) (ap (λ (f : Finding). the_found f a.j.begin) (said domains a.numbers.now a.t a.j c.find_methods-m.result (c.find_methods-m.ensures domains)))
