-- `records_read::read_kind` meets its contract, mark by mark.
use mathlib.Core.Path.{sym, ◌∙◌}
use Rattle.octets.specs.Octets.{octets}
use Rattle.records_read.proofs.KindLaws.{kind_short, kind_author, kind_identifier, kind_other, kind_answer, kind_no_answer}
use Rattle.records_read.proofs.read_kind.Goals as goal
use Rattle.records_read.proofs.read_kind.Goals.{else-same_octets-3-via-then-same_octets-3+else-is_answer, else-same_octets-3-via-else-same_octets-3}

pub returns-then-content-lt2 : goal.returns-then-content-lt2
returns-then-content-lt2 c = kind_short c.args.t.now c.body-content.result.now c.body-content.ensures c.if-content-lt2.true

pub returns-then-same_octets : goal.returns-then-same_octets
unfolding octets
returns-then-same_octets c =
    kind_author c.args.t.now c.body-content.result.now c.part-mark.result.now c.body-content.ensures c.part-mark.ensures c.if-content-lt2.false
    (sym c.same_octets.ensures ∙ c.if-same_octets.true)

pub returns-then-same_octets-2 : goal.returns-then-same_octets-2
unfolding octets
returns-then-same_octets-2 c =
    kind_identifier c.args.t.now c.body-content.result.now c.part-mark.result.now c.body-content.ensures c.part-mark.ensures
    (sym c.same_octets.ensures ∙ c.if-same_octets.false) c.if-content-lt2.false (sym c.same_octets-else-same_octets.ensures ∙ c.if-same_octets-2.true)

pub returns-then-is_answer : goal.returns-then-is_answer
unfolding octets
returns-then-is_answer c =
    kind_answer c.args.t.now c.body-content.result.now c.part-mark.result.now c.body-content.ensures c.part-mark.ensures
    (sym c.same_octets-else-same_octets-2.ensures ∙ c.if-same_octets-3.true) (sym c.if-is_answer.true ∙ c.is_answer.ensures)

pub returns-else-same_octets-3 : goal.returns-else-same_octets-3
unfolding octets
returns-else-same_octets-3 c =
    let body = c.body-content in
    let mark = c.part-mark in
    let other = c.same_octets-else-same_octets-2.ensures in
    elim c.else-same_octets-3.branch [
      | else-same_octets-3-via-then-same_octets-3+else-is_answer w ↦
          kind_no_answer c.args.t.now body.result.now mark.result.now body.ensures mark.ensures (sym other ∙ w.if-same_octets-3.true) (sym w.if-is_answer.false ∙ w.is_answer.ensures)
      | else-same_octets-3-via-else-same_octets-3 w ↦
          kind_other c.args.t.now body.result.now mark.result.now body.ensures mark.ensures
          (sym c.same_octets.ensures ∙ c.if-same_octets.false) (sym c.same_octets-else-same_octets.ensures ∙ c.if-same_octets-2.false) (sym other ∙ w.if-same_octets-3.false)
    ]
