-- `walk_stop::read_stop` meets its contract.
use borrow.Author.Tests.{eq-eqb, ne_eqb}
use Rattle.octets.specs.Octets.{is_set}
use Rattle.walk_stop.specs.code.KeptStops.{stop_in, last_in}
use Rattle.walk_stop.proofs.read_stop.Goals as goal
use Rattle.walk_stop.proofs.read_stop.Goals.{then-k-eq0, else-k-eq0}

pub returns : goal.returns
unfolding stop_in last_in is_set
returns c = elim c.if-k-eq0.branch [
  | then-k-eq0 w ↦ rw (w.last-is, eq-eqb _ _ w.if-k-eq0.true)
  | else-k-eq0 w ↦ rw (w.last-is, ne_eqb _ _ w.if-k-eq0.false, w.decode_settings.ensures)
]
