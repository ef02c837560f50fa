-- `verdict_ahead::find_target` meets its contract.
use mathlib.Core.Path.{ap}
use Rattle.verdict_cursor.specs.code.Cursor.{needed}
use Rattle.verdict_ahead.specs.code.Waits.{ahead_standing, AheadWithin, waiting_name, Within}
use Rattle.verdict_ahead.proofs.find_target.Goals as goal

pub returns-in-Target : goal.returns-in-Target
unfolding ahead_standing AheadWithin needed waiting_name Within
returns-in-Target c =
    let looks = rw c.in-Target.is at c.look_ahead.ensures in
    record { name = λ domains numbers stored. ap needed (looks.standing domains numbers stored); within = looks.within }

pub returns-in-Unjudged : goal.returns-in-Unjudged
unfolding ahead_standing AheadWithin needed waiting_name Within
returns-in-Unjudged c =
    let looks = rw c.in-Unjudged.is at c.look_ahead.ensures in
    record { name = λ domains numbers stored. ap needed (looks.standing domains numbers stored); within = looks.within }

pub returns-in-Aligning : goal.returns-in-Aligning
unfolding ahead_standing AheadWithin needed waiting_name Within
returns-in-Aligning c =
    let looks = rw c.in-Aligning.is at c.look_ahead.ensures in
    record { name = λ domains numbers stored. ap needed (looks.standing domains numbers stored); within = looks.within }
