-- `records_read::is_answer` meets its contract, test by test.
use mathlib.Core.Path.{ap, sym, ◌∙◌}
use Rattle.domain.specs.Domain.{is_domain}
use Rattle.records_read.proofs.KindLaws.{bad_status, name_past, bad_name, good_records, good_none}
use Rattle.records_read.proofs.is_answer.Goals as goal
use Rattle.records_read.proofs.is_answer.Goals.{then-status-gt2-via-then-status-gt2, then-status-gt2-via-else-status-gt2+then-body-end, then-status-gt2-via-else-status-gt2+else-body-end+then-not-is_domain}

pub returns-then-status-gt2 : goal.returns-then-status-gt2
returns-then-status-gt2 c =
    let body = c.args.body.now in
    let s = c.octet_at-status in
    let n = c.from-end in
    elim c.then-status-gt2.branch [
      | then-status-gt2-via-then-status-gt2 w ↦ bad_status body s.result s.ensures w.if-status-gt2.true
      | then-status-gt2-via-else-status-gt2+then-body-end w ↦ name_past body n.result (n.ensures ∙ c.octet_at.ensures) w.if-body-end.true
      | then-status-gt2-via-else-status-gt2+else-body-end+then-not-is_domain w ↦ bad_name body (ap is_domain (sym w.name_in.ensures) ∙ sym w.is_domain.ensures ∙ w.if-not-is_domain.true)
    ]

pub returns-then-status-eq0 : goal.returns-then-status-eq0
returns-then-status-eq0 c =
    let s = c.octet_at-status in
    let n = c.from-end in
    let named = ap is_domain (sym c.name_in.ensures) ∙ sym c.is_domain.ensures ∙ c.if-not-is_domain.false in
    rw c.if-status-eq0.true (good_records c.args.body.now s.result n.result s.ensures (n.ensures ∙ c.octet_at.ensures) c.if-body-end.false named c.if-status-eq0.true)

pub returns-else-status-eq0 : goal.returns-else-status-eq0
returns-else-status-eq0 c =
    let s = c.octet_at-status in
    let n = c.from-end in
    let named = ap is_domain (sym c.name_in.ensures) ∙ sym c.is_domain.ensures ∙ c.if-not-is_domain.false in
    good_none c.args.body.now s.result n.result s.ensures (n.ensures ∙ c.octet_at.ensures) c.if-body-end.false named c.if-status-eq0.false c.if-status-gt2.false
