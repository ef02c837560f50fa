-- `report_taken::refuse` meets its contract.
use mathlib.Core.Path.{ap, ◌∙◌}
use Rattle.report_taken.specs.code.Taking.{stopped}
use Rattle.report_taken.proofs.refuse.Goals as goal

pub returns : goal.returns
returns c = c.stop.ensures ∙ ap (λ n. stopped n c.args.s) c.number_of.ensures
