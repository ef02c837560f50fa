-- `evaluation_open::open` meets its contract.
use mathlib.Core.Logic.{⊎_elim}
use Rattle.evaluation_open.proofs.OpenLaws.{bad_author, short_author, bad_existence, bad_support, good_opening, opens_refused, opens_ok, opens_changes}
use Rattle.evaluation_open.proofs.open.Goals as goal

pub returns-in-Err : goal.returns-in-Err
returns-in-Err c =
    let a = c.args in
    opens_changes _ _ _ (opens_refused a.e _ (bad_author a.author.now a.existence a.support c.without_dot-d.ensures c.check.ensures c.in-Err.at c.in-Err.is) c.refused.ensures)

pub returns-in-Ok : goal.returns-in-Ok
returns-in-Ok c =
    let a = c.args in
    let ok = c.in-Ok in
    let no = c.refused-in-Ok.ensures in
    ⊎_elim (λ h. opens_changes _ _ _ (opens_refused a.e _ (bad_existence a.author.now a.existence a.support c.without_dot-d.ensures c.check.ensures ok.field-0 ok.is h) no))
    (λ h. opens_changes _ _ _ (opens_refused a.e _ (bad_support a.author.now a.existence a.support c.without_dot-d.ensures c.check.ensures ok.field-0 ok.is h.0 h.1) no))
    c.if-support-gt1.either

pub hold-requires : goal.hold-requires
hold-requires c =
    let a = c.args in
    short_author a.author.now a.existence a.support c.without_dot-d.ensures c.check.ensures c.in-Ok-2.field-0 c.in-Ok-2.is

pub returns-in-Ok-2 : goal.returns-in-Ok-2
returns-in-Ok-2 c =
    let a = c.args in
    let listed = c.if-support-gt1.false in
    opens_changes _ _ _ (opens_ok a.e _ (good_opening a.author.now a.existence a.support c.without_dot-d.ensures c.check.ensures c.in-Ok-2.field-0 c.in-Ok-2.is listed.0 listed.1) c.hold.ensures.0 c.hold.ensures.1)
