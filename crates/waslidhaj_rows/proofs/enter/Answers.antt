-- `waslidhaj_rows::enter` meets its contract.
use Rattle.std.proofs.Common.{◌≡◌, sym, ◌∙◌, rules, Err}
use Rattle.rows.specs.Lists.{Lists}
use Rattle.rows_check.specs.code.Check.{refusal_in}
use Rattle.waslidhaj_rows.proofs.CallLaws.{enter_refused, enter_noted}
use Rattle.waslidhaj_rows.proofs.enter.Goals as goal

pub returns-in_err-check : goal.returns-in_err-check
unfolding refusal_in
returns-in_err-check c =
    let a = c.args in
    let lists : Lists = record { authors = a.authors.now; sets = a.sets.now } in
    let refused : c.from_residual.result ≡ Err c.in_err-check.field-0.0 = search rules in
    rw refused (enter_refused a.entry lists a.domain.now a.list a.rows.now _ (sym c.check.ensures ∙ c.in_err-check.was))

pub returns : goal.returns
returns c =
    let a = c.args in
    let lists : Lists = record { authors = a.authors.now; sets = a.sets.now } in
    enter_noted a.entry lists a.domain.now a.list a.rows.now _ (sym c.check.ensures ∙ c.in_ok-check.was) c.note.result c.note.new.rows (rw c.seen_in.ensures at c.note.ensures)
