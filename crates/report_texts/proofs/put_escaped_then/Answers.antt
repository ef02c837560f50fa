-- `report_texts::put_escaped_then` meets its contract.
use Rattle.std.proofs.Common.{◌≡◌, length, arith}
use Rattle.std.proofs.Math.Seq.{take-length}
use mathlib.Core.List.{flatten}
use Rattle.report.specs.Xml.{entity, with_entities}
use Rattle.octets_pieces.proofs.PuttingLaws.{puts_both, puts_nothing}
use Rattle.octets_pieces.proofs.PieceLaws.{one_more}
use Rattle.report_texts.proofs.put_escaped_then.Goals as goal

pub loop-b-init : goal.loop-b-init
unfolding with_entities flatten
loop-b-init c = puts_nothing c.args.out.now c.args.at

pub loop-b-preserved : goal.loop-b-preserved
unfolding with_entities
loop-b-preserved c =
    let a = c.args in
    let m = c.loop-b in
    rw (one_more entity a.text.now m.b-index 0 (omega arith)) (puts_both _ _ a.out.now a.at m.invariant c.put_entity-end.ensures)

pub returns : goal.returns
returns c =
    let a = c.args in
    let all : c.loop-b.b-index ≡ length a.text.now = omega arith in
    puts_both _ _ a.out.now a.at (rw (all, take-length) at c.loop-b.invariant) c.put.ensures
