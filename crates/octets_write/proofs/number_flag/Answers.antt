-- `octets_write::number_flag` meets its contract.
use mathlib.Core.Path.{◌∙◌}
use Rattle.octets.proofs.TextLaws.{flag_octet}
use Rattle.octets_write.proofs.number_flag.Goals as goal

pub returns : goal.returns
returns c = c.from.ensures ∙ flag_octet _
