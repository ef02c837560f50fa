-- `text_parts::same_octets` meets its contract.
use mathlib.Core.Path.{◌∙◌}
use Rattle.octets.proofs.TextLaws.{same_each}
use Rattle.text_parts.proofs.same_octets.Goals as goal

pub returns : goal.returns
returns c = c.eq.ensures ∙ same_each _ _
