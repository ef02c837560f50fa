-- `address_start::start` meets its contract.
use mathlib.Core.Path.{sym, ◌∙◌}
use Rattle.domain.proofs.RuleLaws.{domain_short}
use Rattle.address_check.proofs.CallLaws.{start_refused, start_accepted}
use Rattle.address_start.proofs.StartLaws.{bad_policy, bad_entry, good_start}
use Rattle.address_start.proofs.start.Goals as goal

pub returns-then-not-is_domain : goal.returns-then-not-is_domain
returns-then-not-is_domain c =
    let a = c.args in
    rw c.refused.ensures
    (start_refused a.c a.policy.now a.entry.now _
    (bad_policy a.policy.now a.entry.now c.without_dot-d.ensures (sym c.is_domain.ensures ∙ c.if-not-is_domain.true)))

pub returns-in_default : goal.returns-in_default
returns-in_default c =
    let a = c.args in
    let good = sym c.is_domain.ensures ∙ c.if-not-is_domain.false in
    rw c.refused-in_default.ensures
    (start_refused a.c a.policy.now a.entry.now _
    (bad_entry a.policy.now a.entry.now c.without_dot-d.ensures good c.in_default.ensures))

pub hold-requires : goal.hold-requires
hold-requires c =
    (domain_short _ (sym c.is_domain.ensures ∙ c.if-not-is_domain.false), c.in-Some.ensures.1)

pub returns : goal.returns
returns c =
    let a = c.args in
    let good = sym c.is_domain.ensures ∙ c.if-not-is_domain.false in
    start_accepted a.c a.policy.now a.entry.now _
    (good_start a.policy.now a.entry.now c.without_dot-d.ensures good _ c.in-Some.ensures.0)
    c.hold.result c.hold.ensures
