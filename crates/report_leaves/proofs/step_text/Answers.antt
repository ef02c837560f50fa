-- `report_leaves::step_text` meets its contract.
use mathlib.Core.Path.{sym, ◌∙◌}
use Rattle.report_leaves.proofs.LeafLaws.{in_refused, in_on, text_empty, text_ended, text_full, text_refused, text_more}
use Rattle.report_leaves.proofs.step_text.Goals as goal
use Rattle.report_leaves.proofs.step_text.Goals.{else-length-lt4096-via-then-length-lt4096+else-is_text_octet, else-length-lt4096-via-else-length-lt4096}

pub returns-in-Some : goal.returns-in-Some
returns-in-Some c = let a = c.args in in_on a.length a.at a.x c.if-at-ne0.true c.in-Some.next c.in-Some.ensures

pub returns-in-None : goal.returns-in-None
returns-in-None c = let a = c.args in in_refused a.length a.at a.x c.if-at-ne0.true c.in-None.ensures

pub returns-then-length-ne0 : goal.returns-then-length-ne0
returns-then-length-ne0 c = let a = c.args in text_ended a.length a.at a.x c.if-at-ne0.false c.if-x-eq60.true c.if-length-ne0.true

pub returns-else-length-ne0 : goal.returns-else-length-ne0
returns-else-length-ne0 c = let a = c.args in text_empty a.length a.at a.x c.if-at-ne0.false c.if-x-eq60.true c.if-length-ne0.false

pub returns-then-is_text_octet : goal.returns-then-is_text_octet
returns-then-is_text_octet c = let a = c.args in text_more a.length a.at a.x _ c.from.ensures c.if-at-ne0.false c.if-x-eq60.false c.if-length-lt4096.true (sym c.is_text_octet.ensures ∙ c.if-is_text_octet.true)

pub returns-else-length-lt4096 : goal.returns-else-length-lt4096
returns-else-length-lt4096 c =
    let a = c.args in
    elim c.else-length-lt4096.branch [
      | else-length-lt4096-via-then-length-lt4096+else-is_text_octet w ↦ text_refused a.length a.at a.x c.if-at-ne0.false c.if-x-eq60.false w.if-length-lt4096.true (sym w.is_text_octet.ensures ∙ w.if-is_text_octet.false)
      | else-length-lt4096-via-else-length-lt4096 w ↦ text_full a.length a.at a.x c.if-at-ne0.false c.if-x-eq60.false w.if-length-lt4096.false
    ]
