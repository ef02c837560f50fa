-- `records_fields::body` meets its contract.
use mathlib.Core.Path.{◌∙◌}
use Rattle.octets.proofs.FramingLaws.{body_part}
use Rattle.records_fields.proofs.body.Goals as goal

pub returns : goal.returns
returns c = c.part.ensures ∙ body_part c.args.t.now c.size.result c.size.ensures.0
