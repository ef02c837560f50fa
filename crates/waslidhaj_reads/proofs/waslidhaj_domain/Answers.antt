-- `waslidhaj_reads::waslidhaj_domain` meets its contract, by what its calls promise.
use mathlib.Core.Path.{ap, ◌∙◌}
use Rattle.octets.specs.Lent.{written_numbers}
use Rattle.evaluation_numbers.specs.Numbers.{held_of}
use Rattle.waslidhaj_reads.proofs.waslidhaj_domain.Goals as goal

pub returns : goal.returns
unfolding held_of
returns c =
    let p = c.write_domain-written.ensures in
    (c.number_written.ensures ∙ ap written_numbers p.answers, p.leaves)
