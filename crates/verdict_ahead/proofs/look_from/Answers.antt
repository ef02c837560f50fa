-- `verdict_ahead::look_from` meets its contract.
use mathlib.Core.Path.{sym, ◌∙◌}
use Rattle.verdict_ahead.proofs.LookLaws.{looks_own, looks_author, looks_completing, looks_identifier, looks_past, looks_unknown, looks_none, looks_unusable, looks_judged}
use Rattle.verdict_ahead.proofs.look_from.Goals as goal

pub returns-in-OwnName : goal.returns-in-OwnName
returns-in-OwnName c = rw c.in-OwnName.is (looks_own c.args.t)

pub returns-in-Author : goal.returns-in-Author
returns-in-Author c = rw c.in-Author.is (looks_author c.args.t c.in-Author.stop)

pub returns-in-Completing : goal.returns-in-Completing
returns-in-Completing c = rw c.in-Completing.is (looks_completing c.args.t c.in-Completing.stop c.in-Completing.ruling)

pub returns-then-is_given : goal.returns-then-is_given
returns-then-is_given c =
    let at = c.in-Identifier in
    rw at.is (looks_identifier c.args.t at.stop at.ruling at.walk (sym c.is_given.ensures ∙ c.if-is_given.true))

pub returns-else-is_given : goal.returns-else-is_given
returns-else-is_given c =
    let at = c.in-Identifier in
    rw at.is (looks_past c.args.t at.ruling at.walk at.stop (sym c.is_given.ensures ∙ c.if-is_given.false))

pub returns-in-NotKnown : goal.returns-in-NotKnown
returns-in-NotKnown c = rw c.in-NotKnown.is (looks_unknown c.args.t)

pub returns-in-NoRecord : goal.returns-in-NoRecord
returns-in-NoRecord c = rw (c.in-NoRecord.is, c.look_unjudged.ensures) (looks_none c.args.t)

pub returns-in-NotUsable : goal.returns-in-NotUsable
returns-in-NotUsable c = rw (c.in-NotUsable.is, c.look_unjudged-in-NotUsable.ensures) (looks_unusable c.args.t c.in-NotUsable.begin)

pub returns-in-Judged : goal.returns-in-Judged
returns-in-Judged c = rw c.in-Judged.is (looks_judged c.args.t c.in-Judged.ruling)
