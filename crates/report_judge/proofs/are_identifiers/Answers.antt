-- `report_judge::are_identifiers` meets its contract.
use mathlib.Core.Bool.{not}
use mathlib.Core.Path.{ap}
use Rattle.std.proofs.Common.{◌<◌, ◌≤◌, length, arith}
use Rattle.std.proofs.lemmas.Grind.{common_steps}
use Rattle.report_judge.proofs.JudgeLaws.{set_stops, set_on, set_ends}
use mathlib.Core.Path.{refl, ◌∙◌, sym}
use Rattle.report.specs.Report.{good_identifier}
use Rattle.rows_named.proofs.NamingLaws.{drops_some}
use Rattle.report_judge.proofs.are_identifiers.Goals as goal

pub loop-t-init : goal.loop-t-init
loop-t-init c = refl

pub returns-then-not-is_identifier : goal.returns-then-not-is_identifier
returns-then-not-is_identifier c =
    let some : 0 < length c.loop-t.t.now = grind (arith, common_steps) in
    set_stops good_identifier c.loop-t.t.now some c.front_body.ensures c.is_identifier.ensures
    (ap not c.if-not-is_identifier.true) ∙ sym c.loop-t.invariant

pub loop-t-smaller : goal.loop-t-smaller
loop-t-smaller c =
    let some : 0 < length c.loop-t.t.now = grind (arith, common_steps) in
    rw c.after_record-t.ensures (drops_some c.loop-t.t.now some)

pub loop-t-preserved : goal.loop-t-preserved
loop-t-preserved c =
    let some : 0 < length c.loop-t.t.now = grind (arith, common_steps) in
    c.loop-t.invariant ∙ set_on good_identifier c.loop-t.t.now some c.front_body.ensures c.is_identifier.ensures
    (ap not c.if-not-is_identifier.false) c.after_record-t.ensures

pub returns : goal.returns
returns c =
    let none : length c.loop-t.t.now ≤ 0 = grind (arith, common_steps) in
    set_ends good_identifier c.loop-t.t.now none ∙ sym c.loop-t.invariant
