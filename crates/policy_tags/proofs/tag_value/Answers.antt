-- `policy_tags::tag_value` meets its contract, by the tests of the name and the value.
use Rattle.std.proofs.Common.{◌∙◌, sym, ap}
use Rattle.policy_tags.specs.code.TagValues.{is_value}
use Rattle.policy_tags.proofs.TagLaws.{tag_unnamed, tag_valued, tag_ill}
use Rattle.policy_tags.proofs.tag_value.Goals as goal
use Rattle.policy_tags.proofs.tag_value.Goals.{else-front_length-ne0-via-then-front_length-ne0+else-is_value, else-front_length-ne0-via-else-front_length-ne0}

pub returns-then-is_value : goal.returns-then-is_value
returns-then-is_value c =
    let s = c.args.part.now in
    let value = c.value_of-value in
    value.ensures ∙ tag_valued s (λ z. c.if-front_length-ne0.true (c.front_length.ensures ∙ z)) (ap is_value (sym value.ensures) ∙ sym c.is_value.ensures ∙ c.if-is_value.true)

pub returns-else-front_length-ne0 : goal.returns-else-front_length-ne0
returns-else-front_length-ne0 c =
    let s = c.args.part.now in
    let value = c.value_of-value in
    elim c.else-front_length-ne0.branch [
      | else-front_length-ne0-via-then-front_length-ne0+else-is_value w ↦
          tag_ill s (λ z. w.if-front_length-ne0.true (c.front_length.ensures ∙ z)) (ap is_value (sym value.ensures) ∙ sym w.is_value.ensures ∙ w.if-is_value.false)
      | else-front_length-ne0-via-else-front_length-ne0 w ↦ tag_unnamed s (sym c.front_length.ensures ∙ w.if-front_length-ne0.false)
    ]
