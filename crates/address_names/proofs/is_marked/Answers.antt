-- `address_names::is_marked` meets its contract.
use mathlib.Core.Path.{ap₂, ◌∙◌}
use native.Mathlib.Omega.{arith}
use Rattle.octets.specs.Octets.{same_text}
use Rattle.address_check.specs.Numbers.{mark_in}
use Rattle.address_names.proofs.NameLaws.{past_walks}
use Rattle.address_names.proofs.is_marked.Goals as goal

pub returns-in-0 : goal.returns-in-0
unfolding mark_in
returns-in-0 c = rw (c.in-0.is, ← c.without_dot-given.ensures) c.is_name.ensures

pub returns-in-1 : goal.returns-in-1
unfolding mark_in
returns-in-1 c = rw (c.in-1.is, ← c.without_dot-given.ensures) c.is_name-in-1.ensures

pub returns-in_default : goal.returns-in_default
returns-in_default c =
    let a = c.args in
    c.is_confirming.ensures
    ∙ ap₂ same_text c.without_dot-given.ensures
    (past_walks a.policy.now a.host.now a.place a.walk (λ e. omega arith) (λ e. omega arith))
