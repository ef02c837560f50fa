-- `records_check::check_record` meets its contract: where the record ends, what it is, and whether it may come.
use native.Mathlib.Omega.{arith}
use Rattle.records.specs.Sheet.{entry_of}
use Rattle.records_check.proofs.ScanningLaws.{runs_over, runs_past, again, once}
use Rattle.records_check.proofs.check_record.Goals as goal

pub returns-then-place-min-gt-SHEET_OCTETS : goal.returns-then-place-min-gt-SHEET_OCTETS
returns-then-place-min-gt-SHEET_OCTETS c =
    let a = c.args in
    runs_over a.records a.phase a.t.now a.sheet.now c.requires.t_in_bounds c.size-end.result c.size-end.ensures.0 (omega (arith, c.min.ensures)) (omega (arith, c.min.ensures))

pub returns-then-t-end : goal.returns-then-t-end
returns-then-t-end c =
    let a = c.args in
    runs_past a.records a.phase a.t.now a.sheet.now c.requires.t_in_bounds c.size-end.result c.size-end.ensures.0 (omega (arith, c.min.ensures)) c.if-t-end.true

pub returns-then-is_answered : goal.returns-then-is_answered
returns-then-is_answered c =
    let a = c.args in
    again a.records a.phase a.t.now a.sheet.now c.requires.t_in_bounds c.size-end.result c.size-end.ensures.0
    c.if-t-end.false (omega (arith, c.min.ensures)) (rw c.if-is_answered.true at c.is_answered.ensures)

pub returns : goal.returns
returns c =
    let a = c.args in
    once a.records a.phase a.t.now a.sheet.now c.requires.t_in_bounds c.size-end.result c.size-end.ensures.0
    c.if-t-end.false (omega (arith, c.min.ensures)) (rw c.if-is_answered.false at c.is_answered.ensures)
    c.next_phase.result (c.next_phase.ensures (entry_of a.t.now) c.read_kind-kind.ensures)
