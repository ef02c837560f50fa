-- `records_check::check_sheet` meets its contract: what is left decides, record by record.
use mathlib.Core.Path.{ap, sym, ◌∙◌}
use Rattle.std.specs.Prelude.{Err}
use native.Mathlib.Omega.{arith}
use borrow.Author.Tests.{eqb-true, eqb-false}
use Rattle.std.proofs.lemmas.Result.{err_from_is_err_and}
use Rattle.records_check.proofs.ScanningLaws.{no_octets, begun, faulty, shorter, one_more, complete}
use Rattle.records_check.proofs.check_sheet.Goals as goal

pub returns-then-is_empty : goal.returns-then-is_empty
returns-then-is_empty c = no_octets c.args.sheet.now (eqb-true _ _ (sym c.is_empty.ensures ∙ c.if-is_empty.true))

pub loop-t-init : goal.loop-t-init
loop-t-init c = begun c.args.sheet.now (eqb-false _ _ (sym c.is_empty.ensures ∙ c.if-is_empty.false))

pub returns-in_err-phase : goal.returns-in_err-phase
returns-in_err-phase c =
    let h = err_from_is_err_and c.from_residual.result c.from_residual.ensures.1 in
    let some = eqb-false _ _ (sym c.is_empty-in-loop-t.ensures ∙ c.loop-t-test.true) in
    rw h.1 (faulty c.loop-t.invariant (omega (arith, some)) c.check_record.result c.check_record.ensures h.0 (c.in_err-phase.was ∙ ap Err (sym h.2)))

pub loop-t-smaller : goal.loop-t-smaller
loop-t-smaller c =
    let some = eqb-false _ _ (sym c.is_empty-in-loop-t.ensures ∙ c.loop-t-test.true) in
    shorter c.loop-t.invariant (omega (arith, some)) c.check_record.result c.check_record.ensures c.in_ok-phase.phase c.in_ok-phase.was c.after_record-t.result.now c.after_record-t.ensures

pub loop-t-preserved : goal.loop-t-preserved
loop-t-preserved c =
    let some = eqb-false _ _ (sym c.is_empty-in-loop-t.ensures ∙ c.loop-t-test.true) in
    one_more c.loop-t.invariant (omega (arith, some)) c.check_record.result c.check_record.ensures c.in_ok-phase.phase c.in_ok-phase.was c.after_record-t.result.now c.after_record-t.ensures

pub returns : goal.returns
returns c =
    let none = eqb-true _ _ (sym c.is_empty-in-loop-t.ensures ∙ c.loop-t-test.false) in
    complete c.loop-t.invariant (omega (arith, none))
