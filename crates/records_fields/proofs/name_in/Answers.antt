-- `records_fields::name_in` meets its contract.
use mathlib.Core.Path.{ap, ◌∙◌}
use Rattle.domain.specs.Domain.{without_dot}
use Rattle.records_fields.proofs.LayoutLaws.{name_part}
use Rattle.records_fields.proofs.name_in.Goals as goal

pub returns : goal.returns
returns c =
    c.without_dot.ensures
    ∙ ap without_dot c.part-name.ensures ∙ name_part c.args.body.now c.from.result (c.from.ensures ∙ c.octet_at.ensures)
