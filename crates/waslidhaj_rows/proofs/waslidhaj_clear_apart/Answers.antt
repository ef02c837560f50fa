-- `waslidhaj_rows::waslidhaj_clear_apart` meets its contract.
use Rattle.std.proofs.Common.{sym, ◌∙◌}
use Rattle.rows_check.specs.code.Check.{refusal_in}
use Rattle.waslidhaj_rows.proofs.CallLaws.{clear_refused, clear_done}
use Rattle.waslidhaj_rows.proofs.waslidhaj_clear_apart.Goals as goal

pub returns-in-Ok : goal.returns-in-Ok
unfolding refusal_in
returns-in-Ok c =
    let a = c.args in
    rw (c.answered.ensures, c.empty.ensures) (clear_done a.list a.domain.now a.rows.now _ (sym c.named.ensures ∙ c.in-Ok.is))

pub returns-in-Err : goal.returns-in-Err
returns-in-Err c =
    let a = c.args in
    clear_refused a.list a.domain.now a.rows.now _ (sym c.named.ensures ∙ c.in-Err.is)
