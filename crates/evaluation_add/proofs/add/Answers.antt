-- `evaluation_add::add` meets its contract.
use mathlib.Core.Path.{refl}
use borrow.Author.Tests.{not-true, not-false}
use Rattle.evaluation.specs.GivenBack.{message_now}
use Rattle.evaluation_open.specs.code.Opening.{Holds}
use Rattle.evaluation_add.proofs.AddLaws.{add_not_opened, add_too_late, add_in_time}
use Rattle.evaluation_add.proofs.add.Goals as goal
use Rattle.evaluation_add.proofs.add.Goals.{then-not-e-via-then-not-e, then-not-e-via-else-not-e+then-e}

pub returns-then-not-e : goal.returns-then-not-e
returns-then-not-e c =
    elim c.then-not-e.branch [
      | then-not-e-via-then-not-e w ↦ add_not_opened c.args.e _ (not-true _ w.if-not-e.true) c.refused.ensures
      | then-not-e-via-else-not-e+then-e w ↦ add_too_late c.args.e _ (not-false _ w.if-not-e.false) w.if-e.true c.refused.ensures
    ]

pub returns : goal.returns
returns c =
    let e = c.args.e in
    let h : Holds e (message_now e) = record { started = not-false _ c.if-not-e.false; not_handed = c.if-e.false; message = refl } in
    add_in_time e _ h c.add_to.result (c.add_to.ensures _ h)
