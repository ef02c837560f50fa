-- `records_find::find` meets its contract. The loop's invariant: no record that was passed answers the name, so what is left decides.
use mathlib.Core.Path.{◌≡◌, ap, sym, ◌∙◌}
use Prim.Native.Nat.{◌+◌, ◌-◌}
use native.Mathlib.Omega.{arith}
use Rattle.records_fields.specs.code.Layout.{found_body}
use Rattle.records_fields.proofs.LayoutLaws.{found_here, found_later, found_none}
use Rattle.records_find.proofs.find.Goals as goal

pub returns-then-answers_name : goal.returns-then-answers_name
returns-then-answers_name c =
    let m = c.loop in
    let a = c.args in
    c.body.ensures
    ∙ sym (m.invariant ∙ found_here a.name.now m.t.now (a.records - m.counter) (omega arith) (sym c.answers_name.ensures ∙ c.if-answers_name.true))

pub loop-preserved : goal.loop-preserved
loop-preserved c =
    let m = c.loop in
    let a = c.args in
    let left : a.records - m.counter - 1 ≡ a.records - (m.counter + 1) = omega arith in
    rw (← left)
    (m.invariant
    ∙ found_later a.name.now m.t.now (a.records - m.counter) (omega arith) (sym c.answers_name.ensures ∙ c.if-answers_name.false)
    ∙ ap (found_body (a.records - m.counter - 1) a.name.now) (sym c.after_record-t.ensures))

pub returns : goal.returns
returns c =
    let m = c.loop in
    sym (m.invariant ∙ found_none c.args.name.now m.t.now (c.args.records - m.counter) (omega arith))
