-- `rows_check::named` meets its contract.
use Rattle.std.proofs.Common.{sym, ◌∙◌, arith}
use Rattle.domain.proofs.RuleLaws.{domain_short}
use Rattle.rows_check.proofs.CheckLaws.{named_bad, named_good}
use Rattle.rows_check.proofs.named.Goals as goal

pub returns-then-not-is_domain : goal.returns-then-not-is_domain
returns-then-not-is_domain c =
    rw c.refusal.ensures (named_bad c.args.domain.now c.without_dot-d.ensures (sym c.is_domain.ensures ∙ c.if-not-is_domain.true))

pub overflow_cast-result : goal.overflow_cast-result
overflow_cast-result c =
    omega (arith, domain_short _ (sym c.is_domain.ensures ∙ c.if-not-is_domain.false))

pub returns : goal.returns
returns c =
    named_good c.args.domain.now c.without_dot-d.ensures (sym c.is_domain.ensures ∙ c.if-not-is_domain.false) _ c.write_lower.ensures.leaves
