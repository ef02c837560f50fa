-- `walk_stop::no_stop` meets its contract.
use borrow.Author.Rules.{rules}
use Rattle.walk_stop.specs.code.KeptStops.{blank_stop}
use Rattle.walk_stop.proofs.no_stop.Goals as goal

pub returns : goal.returns
unfolding blank_stop
returns c = search rules
