-- `evaluation_field::write_methods` meets its contract.
use native.Mathlib.Omega.{arith}
use mathlib.Core.Path.{sym, ◌∙◌}
use Rattle.evaluation_field.proofs.FieldLaws.{not_judged, none_given, field_written}
use Rattle.evaluation_field.proofs.write_methods.Goals as goal
use Rattle.evaluation_field.proofs.write_methods.Goals.{then-not-is_pass_or_fail-via-then-not-is_pass_or_fail, then-not-is_pass_or_fail-via-else-not-is_pass_or_fail+then-t-eq0}

pub returns-then-not-is_pass_or_fail : goal.returns-then-not-is_pass_or_fail
returns-then-not-is_pass_or_fail c = λ domains.
    let a = c.args in
    rw c.refuse.ensures
    (elim c.then-not-is_pass_or_fail.branch [
      | then-not-is_pass_or_fail-via-then-not-is_pass_or_fail w ↦ not_judged domains a.numbers.now a.t a.j a.out.now (sym c.is_pass_or_fail.ensures ∙ w.if-not-is_pass_or_fail.true)
      | then-not-is_pass_or_fail-via-else-not-is_pass_or_fail+then-t-eq0 w ↦ none_given domains a.numbers.now a.t a.j a.out.now w.if-t-eq0.true
    ])

pub returns : goal.returns
returns c = λ domains.
    let a = c.args in
    let judged = sym c.is_pass_or_fail.ensures ∙ c.if-not-is_pass_or_fail.false in
    field_written domains a.numbers.now a.t a.j a.out.now (omega arith) c.find_methods-m.result (c.find_methods-m.ensures domains) judged _ _ c.write_field.ensures
