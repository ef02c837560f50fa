-- `evaluation_field::field` meets its contract.
use Rattle.std.proofs.lemmas.Result.{err_from_is_err_and}
use Rattle.evaluation.specs.GivenBack.{message_now}
use Rattle.evaluation_field.proofs.FieldLaws.{field_refused, field_verdict}
use Rattle.evaluation_field.proofs.field.Goals as goal

pub returns-in_err-v : goal.returns-in_err-v
returns-in_err-v c =
    let a = c.args in
    let h = err_from_is_err_and c.from_residual.result c.from_residual.ensures.1 in
    rw (h.1, h.2) (field_refused a.e a.out.now c.in_err-v.field-0.0 (rw c.in_err-v.was at c.result.ensures.says))

pub returns : goal.returns
unfolding message_now
returns c =
    let a = c.args in
    field_verdict a.e a.out.now c.in_ok-v.v (rw c.in_ok-v.was at c.result.ensures.says) _ _ (c.write_methods.ensures a.e.domains)
