-- `report_words::step_behind` meets its contract.
use Rattle.report_words.proofs.step_behind.Goals.{else-i-text-via-then-i-text+else-text-i, else-i-text-via-else-i-text}
use Rattle.report_words.proofs.PieceSteps.{past_end, another, the_last, the_next}
use Rattle.report_words.proofs.step_behind.Goals as goal

pub returns-then-text-i-2 : goal.returns-then-text-i-2
returns-then-text-i-2 c = let a = c.args in the_last a.text.now a.at a.x c.if-i-text.true c.if-text-i.true c.if-text-i-2.true

pub returns-else-text-i-2 : goal.returns-else-text-i-2
returns-else-text-i-2 c = let a = c.args in the_next a.text.now a.at a.x c.if-i-text.true c.if-text-i.true c.if-text-i-2.false

pub returns-else-i-text : goal.returns-else-i-text
returns-else-i-text c =
    let a = c.args in
    elim c.else-i-text.branch [
      | else-i-text-via-then-i-text+else-text-i w ↦ another a.text.now a.at a.x w.if-i-text.true w.if-text-i.false
      | else-i-text-via-else-i-text w ↦ past_end a.text.now a.at a.x w.if-i-text.false
    ]
