-- `report_leaves::step_id` meets its contract.
use mathlib.Core.Path.{sym, ◌∙◌}
use Rattle.report_leaves.proofs.LeafLaws.{id_empty, id_ended, id_full, id_refused, id_plain, alphanumeric_same}
use Rattle.report_leaves.proofs.step_id.Goals as goal
use Rattle.report_leaves.proofs.step_id.Goals.{else-length-lt64-via-then-length-lt64+else-is_ascii_alphanumeric, else-length-lt64-via-else-length-lt64}

pub returns-then-length-ne0 : goal.returns-then-length-ne0
returns-then-length-ne0 c = let a = c.args in id_ended a.length a.x c.if-x-eq60.true c.if-length-ne0.true

pub returns-else-length-ne0 : goal.returns-else-length-ne0
returns-else-length-ne0 c = let a = c.args in id_empty a.length a.x c.if-x-eq60.true c.if-length-ne0.false

pub returns-then-is_ascii_alphanumeric : goal.returns-then-is_ascii_alphanumeric
returns-then-is_ascii_alphanumeric c =
    let a = c.args in
    id_plain a.length a.x c.if-x-eq60.false c.if-length-lt64.true (sym (alphanumeric_same a.x) ∙ sym c.is_ascii_alphanumeric.ensures.value ∙ c.if-is_ascii_alphanumeric.true)

pub returns-else-length-lt64 : goal.returns-else-length-lt64
returns-else-length-lt64 c =
    let a = c.args in
    elim c.else-length-lt64.branch [
      | else-length-lt64-via-then-length-lt64+else-is_ascii_alphanumeric w ↦
          id_refused a.length a.x c.if-x-eq60.false w.if-length-lt64.true (sym (alphanumeric_same a.x) ∙ sym w.is_ascii_alphanumeric.ensures.value ∙ w.if-is_ascii_alphanumeric.false)
      | else-length-lt64-via-else-length-lt64 w ↦ id_full a.length a.x c.if-x-eq60.false w.if-length-lt64.false
    ]
