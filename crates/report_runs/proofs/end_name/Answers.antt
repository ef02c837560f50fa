-- `report_runs::end_name` meets its contract.
use mathlib.Core.Path.{refl, ap, subst, ◌∙◌}
use Prim.Native.Nat.{◌+◌}
use lib.ListN.{get_or}
use native.Mathlib.Omega.{arith}
use Rattle.std.specs.Prelude.{Ok, false}
use Rattle.report_leaves.specs.code.Leaves.{Names}
use Rattle.report_kept.specs.code.View.{write, plain}
use Rattle.report_names.specs.code.Names.{name_left_at}
use Rattle.report_taken.specs.code.Taking.{largest, counted}
use Rattle.report_runs.proofs.RunLaws.{octet_longer}
use Rattle.report_runs.proofs.end_name.Goals as goal

pub overflow_add-s : goal.overflow_add-s
unfolding largest
overflow_add-s c = let few = c.requires in record { fits = omega (arith, few) }

pub returns : goal.returns
unfolding plain write
returns c =
    let a = c.args in
    let s = a.run.state in
    let names = subst (λ l. Names s.length s.label (get_or a.rest.now a.run.used 0) (Ok l)) c.in-Ok-Ended.field-0-is c.in-Ok-Ended.ensures.0 in
    λ at_end row.
    octet_longer a.run a.rest.now row (omega (arith, c.if-rest-used.false)) (plain false (name_left_at s)) (at_end.2 _ names) at_end.0 at_end.1 c.requires refl _ row
    (c.count_on.ensures ∙ ap (counted (s.taken + 1)) c.leave_name.ensures) refl
