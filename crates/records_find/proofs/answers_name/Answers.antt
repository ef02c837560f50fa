-- `records_find::answers_name` meets its contract: the mark, then the name.
use mathlib.Core.Path.{ap, sym, ◌∙◌}
use Rattle.octets.specs.Octets.{Octets, octets, same_text}
use Rattle.octets.proofs.FramingLaws.{mark_is}
use Rattle.records_fields.specs.code.Layout.{name_in}
use Rattle.records_fields.proofs.LayoutLaws.{other_mark, answer_mark}
use Rattle.records_find.proofs.answers_name.Goals as goal

pub returns-then-same_octets : goal.returns-then-same_octets
unfolding octets
returns-then-same_octets c =
    let a = c.args in
    c.same_text.ensures
    ∙ ap (λ (n : Octets). same_text n a.name.now) (c.name_in.ensures ∙ ap name_in c.body.ensures)
    ∙ sym (answer_mark a.name.now a.t.now (mark_is a.t.now (octets "AN") c.part.ensures c.same_octets.ensures ∙ c.if-same_octets.true))

pub returns-else-same_octets : goal.returns-else-same_octets
unfolding octets
returns-else-same_octets c =
    let a = c.args in
    let other = c.if-same_octets.false in
    other ∙ sym (other_mark a.name.now a.t.now (mark_is a.t.now (octets "AN") c.part.ensures c.same_octets.ensures ∙ other))
