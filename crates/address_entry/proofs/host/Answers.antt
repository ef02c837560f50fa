-- `address_entry::host` meets its contract.
use mathlib.Core.Path.{sym, ◌∙◌}
use Rattle.domain.proofs.RuleLaws.{domain_short}
use Rattle.address_entry.proofs.EntryLaws.{not_mailto, not_marked, not_domain, is_host}
use Rattle.address_entry.proofs.host.Goals as goal

pub returns-then-not-is_mailto : goal.returns-then-not-is_mailto
returns-then-not-is_mailto c = not_mailto c.args.entry.now c.trim-trimmed.ensures (sym c.is_mailto.ensures ∙ c.if-not-is_mailto.true)

pub returns-in_default : goal.returns-in_default
returns-in_default c = not_marked c.args.entry.now c.trim-trimmed.ensures (sym c.is_mailto.ensures ∙ c.if-not-is_mailto.false) c.in_default.ensures

pub returns-then-is_domain : goal.returns-then-is_domain
returns-then-is_domain c =
    let good = sym c.is_domain.ensures ∙ c.if-is_domain.true in (
      is_host c.args.entry.now c.trim-trimmed.ensures (sym c.is_mailto.ensures ∙ c.if-not-is_mailto.false) c.in-Some.ensures c.without_dot-domain.ensures good,
      domain_short _ good,
    )

pub returns-else-is_domain : goal.returns-else-is_domain
returns-else-is_domain c =
    not_domain c.args.entry.now c.trim-trimmed.ensures (sym c.is_mailto.ensures ∙ c.if-not-is_mailto.false) c.in-Some.ensures c.without_dot-domain.ensures
    (sym c.is_domain.ensures ∙ c.if-is_domain.false)
