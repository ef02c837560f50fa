-- `report_taken::take_octet` meets its contract.
use native.Mathlib.Omega.{arith}
use mathlib.Core.Path.{sym, subst}
use mathlib.Core.Bool.{false}
use Rattle.report_steps.specs.code.Steps.{refusal_number}
use Rattle.report_taken.specs.code.Taking.{largest, Takes}
use Rattle.report_taken.proofs.TakeLaws.{takes_stuck, takes_full, takes_refused, takes_on}
use Rattle.report_taken.proofs.take_octet.Goals as goal

pub returns-then-s-ne0 : goal.returns-then-s-ne0
returns-then-s-ne0 c = let a = c.args in takes_stuck a.s a.row.now a.x c.if-s-ne0.true

pub returns-then-s-ge-LARGEST : goal.returns-then-s-ge-LARGEST
unfolding largest refusal_number
returns-then-s-ge-LARGEST c =
    let a = c.args in
    subst (λ t. Takes a.s a.x a.row.now (record { gives = false; state = t }) a.row.now) (sym c.refuse.ensures)
    (takes_full a.s a.row.now a.x c.if-s-ne0.false c.if-s-ge-LARGEST.true)

pub returns-in-Ok : goal.returns-in-Ok
unfolding largest
returns-in-Ok c =
    let a = c.args in
    takes_on a.s _ a.x a.row.now c.knows_five-five.ensures c.if-s-ne0.false c.if-s-ge-LARGEST.false _ c.in-Ok.ensures _ _ c.count_on.ensures c.put.ensures

pub returns-in-Err : goal.returns-in-Err
unfolding largest
returns-in-Err c =
    let a = c.args in
    subst (λ t. Takes a.s a.x a.row.now (record { gives = false; state = t }) a.row.now) (sym c.refuse-in-Err.ensures)
    (takes_refused a.s _ a.x a.row.now c.knows_five-five.ensures c.if-s-ne0.false c.if-s-ge-LARGEST.false _ c.in-Err.ensures)
