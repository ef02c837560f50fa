-- `policy_read::rua_bounds` meets its contract: the bounds that were gathered are those of the rua tag.
use Rattle.policy_gather.specs.code.Gathering.{bounds_of, bounds_at}
use Rattle.policy_read.proofs.RecordLaws.{no_rua, one_rua}
use Rattle.policy_read.proofs.rua_bounds.Goals as goal

pub returns-in-Some : goal.returns-in-Some
unfolding bounds_at
returns-in-Some c = one_rua c.args.text.now c.in-Some.tags (rw c.in-Some.is at c.gather.ensures)

pub returns-in-None : goal.returns-in-None
unfolding bounds_of
returns-in-None c = no_rua c.args.text.now (rw c.in-None.is at c.gather.ensures)
