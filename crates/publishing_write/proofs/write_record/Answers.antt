-- `publishing_write::write_record` meets its contract: one test after the other, then two rounds of one writer.
use mathlib.Core.Bool.{not}
use mathlib.Core.Path.{ap}
use Rattle.publishing_write.proofs.RecordLaws.{not_usable, not_allowed, too_long, wrote}
use Rattle.publishing_write.proofs.write_record.Goals as goal

pub returns-then-not-usable : goal.returns-then-not-usable
returns-then-not-usable c =
    let a = c.args in
    not_usable a.s a.rua.now a.out.now c.is_usable-usable.ensures c.is_rua-good.ensures (ap not c.if-not-usable.true) c.refused.ensures

pub returns-then-not-good : goal.returns-then-not-good
returns-then-not-good c =
    let a = c.args in
    not_allowed a.s a.rua.now a.out.now c.is_usable-usable.ensures c.is_rua-good.ensures (ap not c.if-not-usable.false) (ap not c.if-not-good.true) c.refused-then-not-good.ensures

pub returns-then-out-needed : goal.returns-then-out-needed
returns-then-out-needed c =
    let a = c.args in
    too_long a.s a.rua.now a.out.now c.is_usable-usable.ensures c.is_rua-good.ensures (ap not c.if-not-usable.false) (ap not c.if-not-good.false) c.put_record-needed.ensures c.if-out-needed.true c.too_short.ensures

pub returns : goal.returns
returns c =
    let a = c.args in
    wrote a.s a.rua.now a.out.now c.is_usable-usable.ensures c.is_rua-good.ensures (ap not c.if-not-usable.false) (ap not c.if-not-good.false) c.put_record-needed.ensures c.if-out-needed.false c.put_record.ensures
