-- `sheet_open::add_each` meets its contract. The loop's invariant: what was added, and what is left to add.
use mathlib.Core.Path.{sym, ◌∙◌}
use Prim.Native.Nat.{◌-◌}
use Rattle.records_fields.proofs.LayoutLaws.{one_identified, other_follows, none_left}
use Rattle.sheet_open.proofs.OpenLaws.{none_added, all_added, one_refused, one_added}
use Rattle.sheet_open.proofs.add_each.Goals as goal

pub loop-more-init : goal.loop-more-init
loop-more-init c = let a = c.args in none_added a.records a.sheet.now c.after_record-t.ensures a.e

pub returns-in-Err : goal.returns-in-Err
returns-in-Err c = λ m v.
    let l = c.loop-more in
    one_refused (l.invariant m v) (one_identified l.t.now l.more c.loop-more-test.true (sym c.is_identifier.ensures ∙ c.if-is_identifier.true)) c.add_at-added.ensures c.in-Err.is

pub loop-more-preserved : goal.loop-more-preserved
loop-more-preserved c = λ m v.
    let l = c.loop-more in
    rw c.after_record-rest.ensures (one_added (l.invariant m v) (one_identified l.t.now l.more c.loop-more-test.true (sym c.is_identifier.ensures ∙ c.if-is_identifier.true)) c.add_at-added.ensures c.in_default.is)

pub returns-else-is_identifier : goal.returns-else-is_identifier
returns-else-is_identifier c = λ m v.
    let l = c.loop-more in
    all_added (l.invariant m v) (other_follows l.t.now l.more c.loop-more-test.true (sym c.is_identifier.ensures ∙ c.if-is_identifier.false))

pub returns-after-loop-more : goal.returns-after-loop-more
returns-after-loop-more c = λ m v.
    let l = c.loop-more in
    all_added (l.invariant m v) (none_left l.t.now l.more c.loop-more-test.false)
