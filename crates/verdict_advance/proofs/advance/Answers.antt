-- `verdict_advance::advance` meets its contract.
use Rattle.walk_known.specs.code.Kept.{kept_answers}
use Rattle.verdict_advance.proofs.AdvanceLaws.{moves_own, moves_author, moves_completing, stays}
use Rattle.verdict_advance.proofs.advance.Goals as goal

pub returns-in-OwnName : goal.returns-in-OwnName
returns-in-OwnName c =
    let a = c.args in
    rw (← c.read.ensures, c.in-OwnName.is)
    (moves_own a.domains.now a.numbers.now a.t (kept_answers a.domains.now a.count a.kept.now) a.stored.now a.r _ _ c.own.ensures)

pub returns-in-Author : goal.returns-in-Author
returns-in-Author c =
    let a = c.args in
    rw (← c.read.ensures, c.in-Author.is)
    (moves_author a.domains.now a.numbers.now a.t (kept_answers a.domains.now a.count a.kept.now) a.stored.now a.r _ _ _ c.reach_after-w.result (rw c.slot-author.ensures at c.reach_after-w.ensures) c.found.ensures)

pub returns-in-Completing : goal.returns-in-Completing
returns-in-Completing c =
    let a = c.args in
    rw (← c.read.ensures, c.in-Completing.is)
    (moves_completing a.domains.now a.numbers.now a.t (kept_answers a.domains.now a.count a.kept.now) a.stored.now a.r _ _ _ c.reach_after-w-in-Completing.result _ (rw c.slot-author.ensures at c.reach_after-w-in-Completing.ensures) c.complete.ensures)

pub returns-in-Identifier : goal.returns-in-Identifier
returns-in-Identifier c =
    rw (← c.read.ensures, c.in-Identifier.is) c.advance_identifier.ensures

pub returns-in_default : goal.returns-in_default
returns-in_default c =
    let a = c.args in
    rw (← c.read.ensures)
    (stays a.domains.now a.numbers.now a.t (kept_answers a.domains.now a.count a.kept.now) a.stored.now a.r c.read.result c.in_default.in_default-own.keys5)
