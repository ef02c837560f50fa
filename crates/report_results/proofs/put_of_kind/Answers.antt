-- `report_results::put_of_kind` meets its contract.
use Rattle.report_results.proofs.ResultLaws.{is_dkim, not_dkim, is_spf, not_spf}
use Rattle.report_results.proofs.put_of_kind.Goals as goal

pub returns-then-kind-eq1 : goal.returns-then-kind-eq1
returns-then-kind-eq1 c =
    let a = c.args in
    is_dkim a.body.now a.out.now a.at c.octet_at-kind.ensures a.dkim c.if-dkim.true c.if-kind-eq1.true c.octet_at-outcome.ensures
    c.domain_in.ensures c.selector_in.ensures c.put_dkim.ensures

pub returns-else-kind-eq1 : goal.returns-else-kind-eq1
returns-else-kind-eq1 c =
    let a = c.args in
    not_dkim a.body.now a.out.now a.at c.octet_at-kind.ensures a.dkim c.if-dkim.true c.if-kind-eq1.false

pub returns-then-kind-eq0 : goal.returns-then-kind-eq0
returns-then-kind-eq0 c =
    let a = c.args in
    is_spf a.body.now a.out.now a.at c.octet_at-kind.ensures a.dkim c.if-dkim.false c.if-kind-eq0.true c.octet_at-outcome.ensures
    c.domain_in-then-kind-eq0.ensures c.put_spf.ensures

pub returns-else-kind-eq0 : goal.returns-else-kind-eq0
returns-else-kind-eq0 c =
    let a = c.args in
    not_spf a.body.now a.out.now a.at c.octet_at-kind.ensures a.dkim c.if-dkim.false c.if-kind-eq0.false
