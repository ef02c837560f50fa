-- `verdict_found::found` meets its contract.
use mathlib.Core.Path.{refl}
use Rattle.walk_known.specs.code.Kept.{kept_answers}
use Rattle.walk_progress.specs.code.Stops.{reached_in}
use Rattle.verdict_judgement.specs.code.Judging.{stored_message}
use Rattle.verdict_cursor.specs.code.Cursor.{apply_reached}
use Rattle.verdict_cursor.specs.code.Standing.{cursor_in}
use Rattle.verdict_cursor.proofs.PassedLaws.{only_at_open}
use Rattle.verdict_found.proofs.FoundLaws.{finds_error, finds_none, finds_record}
use Rattle.verdict_found.proofs.found.Goals as goal

pub returns-in-Stops : goal.returns-in-Stops
unfolding cursor_in apply_reached reached_in stored_message
returns-in-Stops c = rw (c.author.ensures, c.in-Stops.is) (record { place = refl; only = λ z. only_at_open _ _ _ _ _ _ refl z })

pub returns-in-Failed : goal.returns-in-Failed
returns-in-Failed c =
    let a = c.args in
    rw (c.not_known.ensures, c.in-Failed.is) (finds_error a.domains.now a.numbers.now a.t (kept_answers a.domains.now a.count a.kept.now) _ _ c.put_number.ensures)

pub returns-in-None : goal.returns-in-None
returns-in-None c =
    let a = c.args in
    rw (c.no_record.ensures, c.in-Done.is) (finds_none a.domains.now a.numbers.now a.t (kept_answers a.domains.now a.count a.kept.now) _ _ _ c.in-None.is c.store.ensures)

pub returns-in-Some : goal.returns-in-Some
returns-in-Some c =
    let a = c.args in
    rw c.in-Done.is (finds_record a.domains.now a.numbers.now a.t (kept_answers a.domains.now a.count a.kept.now) _ _ _ _ _ _ c.in-Some.is c.judge.ensures)
