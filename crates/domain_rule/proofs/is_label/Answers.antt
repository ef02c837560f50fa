-- `domain_rule::is_label` meets its contract.
use mathlib.Core.Path.{◌∙◌}
use Rattle.domain_rule.proofs.ClassLaws.{label_class}
use Rattle.domain_rule.proofs.is_label.Goals as goal

pub returns : goal.returns
returns c = c.is_made_of.ensures ∙ label_class c.args.s.now
