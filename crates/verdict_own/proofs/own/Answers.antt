-- `verdict_own::own` meets its contract.
use Rattle.walk_known.specs.code.Kept.{kept_answers}
use Rattle.walk_progress.specs.code.Summary.{found_in}
use Rattle.verdict_judgement.specs.code.Judging.{stored_message}
use Rattle.verdict_own.proofs.OwnLaws.{owns_none, owns_error}
use Rattle.verdict_own.proofs.own.Goals as goal

pub returns-in-Error : goal.returns-in-Error
returns-in-Error c =
    let a = c.args in
    rw (c.not_known.ensures, c.in-Error.is) (owns_error a.domains.now a.numbers.now a.t (kept_answers a.domains.now a.count a.kept.now) _ _ c.put_number.ensures)

pub returns-in-NoRecord : goal.returns-in-NoRecord
unfolding stored_message found_in
returns-in-NoRecord c =
    let a = c.args in
    rw c.in-NoRecord.is (owns_none a.domains.now a.numbers.now a.t (kept_answers a.domains.now a.count a.kept.now) _ _ _ c.reach_on-w.result (rw c.slot-author.ensures at c.reach_on-w.ensures) c.found.ensures)

pub returns-in-Record : goal.returns-in-Record
returns-in-Record c = rw c.in-Record.is c.apply_own.ensures
