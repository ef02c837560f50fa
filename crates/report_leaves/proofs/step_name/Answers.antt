-- `report_leaves::step_name` meets its contract.
use mathlib.Core.Path.{sym, ◌∙◌}
use Prim.Native.Nat.{◌+◌}
use mathlib.Core.Logic.{inl, inr}
use native.Mathlib.Omega.{arith}
use Rattle.report_leaves.proofs.LeafLaws.{name_empty, name_ended, dot_first, dot_last, dot_on, name_full, label_full, name_refused, name_on, one_longer, no_more, no_room}
use Rattle.report_leaves.proofs.step_name.Goals as goal
use Rattle.report_leaves.proofs.step_name.Goals.{else-label-ne0-2-via-then-label-ne0-2+else-length-lt252, else-label-ne0-2-via-else-label-ne0-2, else-length-lt253-via-then-length-lt253+then-label-lt63+else-is_spelled, else-length-lt253-via-then-length-lt253+else-label-lt63, else-length-lt253-via-else-length-lt253}

pub returns-then-label-ne0 : goal.returns-then-label-ne0
returns-then-label-ne0 c = let a = c.args in (name_ended a.length a.label a.x c.if-x-eq60.true c.if-label-ne0.true, no_more a.length)

pub returns-else-label-ne0 : goal.returns-else-label-ne0
returns-else-label-ne0 c = let a = c.args in (name_empty a.length a.label a.x c.if-x-eq60.true c.if-label-ne0.false, no_room a.length)

pub returns-then-length-lt252 : goal.returns-then-length-lt252
returns-then-length-lt252 c =
    let a = c.args in
    (dot_on a.length a.label a.x c.if-x-eq46.true c.if-label-ne0-2.true c.if-length-lt252.true, one_longer a.length 0 (omega (arith, c.if-length-lt252.true)))

pub returns-else-label-ne0-2 : goal.returns-else-label-ne0-2
returns-else-label-ne0-2 c =
    let a = c.args in (
      elim c.else-label-ne0-2.either [
        | inl h ↦ dot_last a.length a.label a.x c.if-x-eq46.true h.1
        | inr h ↦ dot_first a.length a.label a.x c.if-x-eq46.true h
      ],
      no_room a.length,
    )

pub returns-then-is_spelled : goal.returns-then-is_spelled
returns-then-is_spelled c =
    let a = c.args in (
      name_on a.length a.label a.x c.if-x-eq60.false c.if-x-eq46.false c.if-length-lt253.true c.if-label-lt63.true (sym c.is_spelled.ensures ∙ c.if-is_spelled.true),
      one_longer a.length (a.label + 1) c.if-length-lt253.true,
    )

pub returns-else-length-lt253 : goal.returns-else-length-lt253
returns-else-length-lt253 c =
    let a = c.args in (
      elim c.else-length-lt253.branch [
        | else-length-lt253-via-then-length-lt253+then-label-lt63+else-is_spelled w ↦ name_refused a.length a.label a.x c.if-x-eq60.false c.if-x-eq46.false (sym w.is_spelled.ensures ∙ w.if-is_spelled.false)
        | else-length-lt253-via-then-length-lt253+else-label-lt63 w ↦ label_full a.length a.label a.x c.if-x-eq60.false c.if-x-eq46.false w.if-label-lt63.false
        | else-length-lt253-via-else-length-lt253 w ↦ name_full a.length a.label a.x c.if-x-eq60.false c.if-x-eq46.false w.if-length-lt253.false
      ],
      no_room a.length,
    )
