-- `walk_turn::turn` meets its contract.
use Rattle.walk_progress.specs.code.Reaching.{reach_by}
use Rattle.walk_progress.specs.code.Stops.{reached_in, turned_in}
use Rattle.walk_turn.proofs.turn.Goals as goal

pub returns-in-Error : goal.returns-in-Error
unfolding reach_by turned_in reached_in
returns-in-Error c = λ on. rw c.in-Error.is

pub returns-in-NoRecord : goal.returns-in-NoRecord
unfolding reach_by turned_in
returns-in-NoRecord c = λ on. rw c.in-NoRecord.is

pub returns-in-Record : goal.returns-in-Record
returns-in-Record c = λ on. rw c.in-Record.is (c.turn_found.ensures on)
