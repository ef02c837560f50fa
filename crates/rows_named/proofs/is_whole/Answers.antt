-- `rows_named::is_whole` meets its contract.
use Rattle.octets.specs.Framing.{is_whole}
use Rattle.rows_named.proofs.is_whole.Goals as goal

pub returns : goal.returns
unfolding is_whole
returns c = rw c.size.ensures.0
