-- `waslidhaj_reads::waslidhaj_name` meets its contract, by what its calls promise.
use mathlib.Core.Path.{ap, ◌∙◌}
use Rattle.octets.specs.Lent.{written_numbers}
use Rattle.evaluation.specs.GivenBack.{marked}
use Rattle.evaluation_numbers.specs.Numbers.{held_of}
use Rattle.waslidhaj_reads.proofs.waslidhaj_name.Goals as goal

pub returns : goal.returns
unfolding held_of marked
returns c =
    let p = c.write_name-written.ensures in
    (c.number_written.ensures ∙ ap written_numbers p.answers, p.leaves)
