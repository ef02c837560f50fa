-- `walk_end::choose` meets its contract.
use mathlib.Core.Path.{sym, ◌∙◌}
use Rattle.walk_progress.specs.code.Summary.{or_found, found_in}
use Rattle.walk_progress.specs.code.Turns.{if_at}
use Rattle.walk_end.proofs.choose.Goals as goal

pub returns-in-Some : goal.returns-in-Some
unfolding or_found found_in if_at
returns-in-Some c = rw (c.in-Some.is, sym c.same_end.ensures ∙ c.if-same_end.true)

pub returns-in_default : goal.returns-in_default
unfolding or_found found_in if_at
returns-in_default c = rw (c.in-Some.is, sym c.same_end.ensures ∙ c.if-same_end.false)

pub returns-in_default-2 : goal.returns-in_default-2
unfolding or_found found_in if_at
returns-in_default-2 c = rw c.in_default.is
