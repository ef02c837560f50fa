-- `walk_turn::stored_number` meets its contract.
use Rattle.walk_progress.specs.code.Progress.{stored_in}
use Rattle.walk_progress.specs.code.Reaching.{progress_of}
use Rattle.walk_progress.specs.code.Stops.{reached_in}
use Rattle.walk_progress.proofs.StopLaws.{stores_open, stores_failed}
use Rattle.walk_turn.specs.code.Storing.{within_253}
use Rattle.walk_turn.proofs.TurnLaws.{stores_within, stores_past}
use Rattle.walk_turn.proofs.stored_number.Goals as goal

pub returns-else-place-le253 : goal.returns-else-place-le253
unfolding reached_in progress_of
returns-else-place-le253 c =
    let a = c.args in
    rw c.in-Done.is (stores_past a.d.now c.in-Done.o _ c.clip-place.ensures c.if-place-le253.false)

pub returns-in-Stops : goal.returns-in-Stops
unfolding reached_in progress_of stored_in within_253
returns-in-Stops c = rw c.in-Stops.is stores_open

pub returns-in-Failed : goal.returns-in-Failed
unfolding reached_in progress_of stored_in within_253
returns-in-Failed c = rw c.in-Failed.is (stores_failed c.args.d.now)

pub returns-then-place-le253 : goal.returns-then-place-le253
unfolding reached_in progress_of
returns-then-place-le253 c =
    let a = c.args in
    rw c.in-Done.is (stores_within a.d.now c.in-Done.o _ c.clip-place.ensures c.if-place-le253.true)
