-- `records_fields::after_record` meets its contract.
use mathlib.Core.Path.{◌∙◌}
use Rattle.octets.proofs.FramingLaws.{rest_part}
use Rattle.records_fields.proofs.after_record.Goals as goal

pub returns : goal.returns
returns c = c.skip.ensures ∙ rest_part c.args.t.now c.size.result c.size.ensures.0
