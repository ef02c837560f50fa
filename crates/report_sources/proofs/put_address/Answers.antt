-- `report_sources::put_address` meets its contract.
use Rattle.report_texts.proofs.Going.{goes_begins}
use Rattle.report_sources.proofs.SourceLaws.{group_put, groups_put, of_mapped, of_groups}
use Rattle.report_sources.proofs.put_address.Goals as goal

pub returns-then-same_octets : goal.returns-then-same_octets
returns-then-same_octets c =
    let a = c.args in
    of_mapped a.source.now a.out.now a.at c.part.ensures c.same_octets.ensures c.if-same_octets.true c.skip.ensures
    c.put_dotted.ensures

pub loop-t-init : goal.loop-t-init
loop-t-init c =
    goes_begins _ c.args.out.now c.args.at

pub loop-t-preserved : goal.loop-t-preserved
loop-t-preserved c =
    group_put c.loop-t.t.now c.loop-t.invariant c.loop-t-test.true c.put_group-end.ensures

pub shape_of-out : goal.shape_of-out
shape_of-out c = c.loop-t.invariant.kept

pub returns : goal.returns
returns c =
    let a = c.args in
    of_groups a.source.now a.out.now a.at c.part.ensures c.same_octets.ensures c.if-same_octets.false
    (groups_put c.loop-t.t.now c.loop-t.invariant c.loop-t-test.false)
