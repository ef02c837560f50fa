-- `records_fields::bytes` meets its contract.
use mathlib.Core.Path.{◌∙◌}
use Rattle.records_fields.proofs.LayoutLaws.{bytes_part}
use Rattle.records_fields.proofs.bytes.Goals as goal

pub returns : goal.returns
returns c = c.skip.ensures ∙ bytes_part c.args.body.now c.from.result (c.from.ensures ∙ c.octet_at.ensures)
