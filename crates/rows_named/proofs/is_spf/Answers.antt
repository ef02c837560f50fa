-- `rows_named::is_spf` meets its contract.
use Rattle.rows.specs.Lists.{reported}
use Rattle.rows_named.proofs.is_spf.Goals as goal

pub returns : goal.returns
unfolding reported
returns c = rw c.octet_at.ensures
