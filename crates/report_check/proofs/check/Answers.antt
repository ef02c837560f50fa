-- `report_check::check` meets its contract.
use Rattle.std.proofs.Common.{sym, ◌∙◌}
use Rattle.report_check.specs.code.Faults.{fault_by, first_fault}
use Rattle.report_check.proofs.check.Goals as goal

pub returns-then-are_passing : goal.returns-then-are_passing
unfolding first_fault fault_by
returns-then-are_passing c =
    rw (
      c.refused.ensures,
      sym c.are_passing.ensures ∙ c.if-are_passing.true,
    )

pub returns-then-not-are_passing : goal.returns-then-not-are_passing
unfolding first_fault fault_by
returns-then-not-are_passing c =
    rw (
      c.refused-then-not-are_passing.ensures,
      sym c.are_passing.ensures ∙ c.if-are_passing.false,
      sym c.are_passing-else-are_passing.ensures ∙ c.if-not-are_passing.true,
    )

pub returns-then-not-are_texts : goal.returns-then-not-are_texts
unfolding first_fault fault_by
returns-then-not-are_texts c =
    rw (
      c.refused-then-not-are_texts.ensures,
      sym c.are_passing.ensures ∙ c.if-are_passing.false,
      sym c.are_passing-else-are_passing.ensures ∙ c.if-not-are_passing.false,
      sym c.are_texts.ensures ∙ c.if-not-are_texts.true,
    )

pub returns-then-not-is_file : goal.returns-then-not-is_file
unfolding first_fault fault_by
returns-then-not-is_file c =
    rw (
      c.refused-then-not-is_file.ensures,
      sym c.are_passing.ensures ∙ c.if-are_passing.false,
      sym c.are_passing-else-are_passing.ensures ∙ c.if-not-are_passing.false,
      sym c.are_texts.ensures ∙ c.if-not-are_texts.false,
      sym c.is_file.ensures ∙ c.if-not-is_file.true,
    )

pub returns-then-not-are_passing-2 : goal.returns-then-not-are_passing-2
unfolding first_fault fault_by
returns-then-not-are_passing-2 c =
    rw (
      c.refused-then-not-are_passing-2.ensures,
      sym c.are_passing.ensures ∙ c.if-are_passing.false,
      sym c.are_passing-else-are_passing.ensures ∙ c.if-not-are_passing.false,
      sym c.are_texts.ensures ∙ c.if-not-are_texts.false,
      sym c.is_file.ensures ∙ c.if-not-is_file.false,
      sym c.are_passing-else-not-is_file.ensures ∙ c.if-not-are_passing-2.true,
    )

pub returns-else-not-are_passing-2 : goal.returns-else-not-are_passing-2
unfolding first_fault fault_by
returns-else-not-are_passing-2 c =
    rw (
      sym c.are_passing.ensures ∙ c.if-are_passing.false,
      sym c.are_passing-else-are_passing.ensures ∙ c.if-not-are_passing.false,
      sym c.are_texts.ensures ∙ c.if-not-are_texts.false,
      sym c.is_file.ensures ∙ c.if-not-is_file.false,
      sym c.are_passing-else-not-is_file.ensures ∙ c.if-not-are_passing-2.false,
    )
