-- `report_sources::put_dotted` meets its contract.
use native.Mathlib.Omega.{arith}
use Rattle.octets.specs.Octets.{octets}
use Rattle.report_sources.proofs.SourceLaws.{dotting_begins, octet_put, octets_put}
use Rattle.report_sources.proofs.put_dotted.Goals as goal

pub loop-t-init : goal.loop-t-init
loop-t-init c = dotting_begins c.args.s.now c.args.out.now c.args.at

pub loop-t-preserved : goal.loop-t-preserved
unfolding octets
loop-t-preserved c =
    octet_put c.loop-t.t.now c.loop-t.invariant c.loop-t-test.true c.octet_at-number.ensures (omega arith) c.part-mark.ensures
    c.put_decimal_then-end.ensures

pub shape_of-out : goal.shape_of-out
shape_of-out c = c.loop-t.invariant.going.kept

pub returns : goal.returns
returns c = octets_put c.loop-t.t.now c.loop-t.invariant c.loop-t-test.false
