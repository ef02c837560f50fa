-- `address_walks::begin` meets its contract.
use mathlib.Core.Path.{ap, sym, ◌∙◌}
use Rattle.walk_known.specs.code.Kept.{kept_answers}
use Rattle.address_check.specs.code.Cursor.{policy_reached, begin_on}
use Rattle.address_check.specs.code.Pairs.{both}
use Rattle.address_walks.proofs.begin.Goals as goal

pub returns-then-same_octets : goal.returns-then-same_octets
unfolding begin_on
returns-then-same_octets c =
    let a = c.args in
    c.settle.ensures (both a.policy.now a.host.now) ∙ rw (sym c.same_octets.ensures ∙ c.if-same_octets.true)

pub returns : goal.returns
unfolding begin_on
returns c =
    let a = c.args in
    let β = kept_answers a.domains.now a.count a.kept.now in
    c.after_policy.ensures
    ∙ rw (sym c.same_octets.ensures ∙ c.if-same_octets.false)
    (ap (policy_reached β (both a.policy.now a.host.now)) c.reach-reached.ensures)
