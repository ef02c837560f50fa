-- `waslidhaj_check::waslidhaj_check_name_by_value` meets its contract, by what its calls promise.
use mathlib.Core.Path.{ap, ◌∙◌}
use Rattle.octets.specs.Lent.{written_numbers}
use Rattle.address_check.specs.Numbers.{pair_now, check_name}
use Rattle.waslidhaj_check.proofs.waslidhaj_check_name_by_value.Goals as goal

pub returns : goal.returns
unfolding check_name pair_now
returns c =
    let p = c.write_name-written.ensures in
    (c.number_written.ensures ∙ ap written_numbers p.answers, p.leaves)
