-- `evaluation_lent::lend` meets its contract.
use Rattle.evaluation_numbers.specs.Numbers.{held_of}
use Rattle.evaluation_lent.proofs.lend.Goals as goal

pub returns : goal.returns
unfolding held_of
returns c =
    rw (
      c.kind_number.ensures,
      c.flag_number-4.ensures,
      c.existence_number.ensures,
      c.flag_number-3.ensures,
      c.flag_number-2.ensures,
      c.flag_number.ensures,
    )
