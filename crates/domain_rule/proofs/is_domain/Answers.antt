-- `domain_rule::is_domain` meets its contract.
use mathlib.Core.Path.{◌∙◌}
use Rattle.domain_rule.proofs.CheckLaws.{kept}
use Rattle.domain_rule.proofs.is_domain.Goals as goal

pub returns : goal.returns
returns c = c.is_ok.ensures.value ∙ kept c.args.s.now c.check.result c.check.ensures
