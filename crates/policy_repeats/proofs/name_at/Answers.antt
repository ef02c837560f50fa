-- `policy_repeats::name_at` meets its contract: the letters after the blanks.
use mathlib.Core.Path.{ap, ◌∙◌}
use Rattle.octets.specs.Octets.{is_letter, lower, front, after, is_blank}
use Rattle.policy_repeats.specs.code.Storing.{name_at}
use Rattle.policy_repeats.proofs.name_at.Goals as goal

pub returns : goal.returns
unfolding name_at
returns c = ap lower (c.front.ensures ∙ ap (front is_letter) (c.after.ensures ∙ ap (after is_blank) c.skip.ensures))
