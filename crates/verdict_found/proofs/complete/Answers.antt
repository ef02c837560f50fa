-- `verdict_found::complete` meets its contract.
use borrow.Enum.Refused.{opened}
use mathlib.Core.Path.{refl}
use Rattle.walk_known.specs.code.Kept.{kept_answers}
use Rattle.walk_progress.specs.code.Stops.{reached_in}
use Rattle.verdict_judgement.specs.code.Judging.{stored_message}
use Rattle.verdict_cursor.specs.code.Cursor.{complete_reached}
use Rattle.verdict_cursor.specs.code.Standing.{cursor_in}
use Rattle.verdict_cursor.proofs.PassedLaws.{only_at_open}
use Rattle.verdict_found.proofs.FoundLaws.{completes_over}
use Rattle.verdict_found.proofs.complete.Goals as goal

pub returns-in-Stops : goal.returns-in-Stops
unfolding cursor_in complete_reached reached_in stored_message
returns-in-Stops c = rw (c.completing.ensures, c.in-Stops.is) (record { place = refl; only = λ z. only_at_open _ _ _ _ _ _ refl z })

pub returns-in_default : goal.returns-in_default
returns-in_default c =
    let a = c.args in
    completes_over a.domains.now a.numbers.now a.t (kept_answers a.domains.now a.count a.kept.now) _ _ _ a.ruling a.w (opened c.in_default.in_default-own.keys2) c.compare_all.ensures
