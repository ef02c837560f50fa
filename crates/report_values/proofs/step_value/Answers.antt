-- `report_values::step_value` meets its contract.
use mathlib.Core.Path.{sym, ap, ◌∙◌}
use Rattle.std.specs.Prelude.{true}
use Rattle.std.specs.Option.{unwrap_or}
use Rattle.report_states.specs.Standing.{number_left}
use Rattle.report_leaves.specs.code.Leaves.{said}
use Rattle.report_values.proofs.ValueLaws.{value_said}
use Rattle.report_values.proofs.step_value.Goals as goal

pub returns : goal.returns
returns c =
    let a = c.args in
    value_said a.least a.most a.floor a.so_far a.x
    ∙ ap (said (λ v. number_left a.least a.most a.floor v true) (unwrap_or a.so_far 0)) (sym (rw (c.unwrap_or.ensures, c.is_some.ensures) at c.step_number.ensures))
