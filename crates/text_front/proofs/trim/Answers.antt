-- `text_front::trim` meets its contract, by what `trim_end` and `after` ensure.
use mathlib.Core.Path.{ap, ◌∙◌}
use Rattle.octets.specs.Octets.{after, is_blank, trim}
use Rattle.text_front.proofs.trim.Goals as goal

pub returns : goal.returns
unfolding trim
returns c = c.after.ensures ∙ ap (after is_blank) c.trim_end.ensures
