-- `address_entry::is_mailto` meets its contract.
use mathlib.Core.Path.{ap, sym, ◌∙◌}
use mathlib.Core.Bool.{not, true≢false}
use Rattle.octets.specs.Octets.{octets, part_of}
use Rattle.address_entry.proofs.EntryLaws.{has_comma, not_valid, by_scheme}
use Rattle.address_entry.proofs.is_mailto.Goals as goal
use Rattle.address_entry.proofs.is_mailto.Goals.{then-not-is_one_of, else-not-is_one_of}

pub returns-then-is_valid_entry : goal.returns-then-is_valid_entry
unfolding octets part_of
returns-then-is_valid_entry c =
    let entry = c.args.entry.now in
    elim c.if-not-is_one_of.branch [
      | then-not-is_one_of w ↦
          c.same_text.ensures
          ∙ rw c.part.ensures
          (by_scheme entry (sym c.is_one_of.ensures ∙ w.if-not-is_one_of.true) (sym w.is_valid_entry.ensures ∙ sym w.value-is ∙ c.if-is_valid_entry.true))
      | else-not-is_one_of w ↦ absurd (true≢false (sym c.if-is_valid_entry.true ∙ w.value-is ∙ ap not w.if-not-is_one_of.false))
    ]

pub returns-else-is_valid_entry : goal.returns-else-is_valid_entry
returns-else-is_valid_entry c =
    let entry = c.args.entry.now in
    elim c.if-not-is_one_of.branch [
      | then-not-is_one_of w ↦ c.if-is_valid_entry.false ∙ not_valid entry (sym w.is_valid_entry.ensures ∙ sym w.value-is ∙ c.if-is_valid_entry.false)
      | else-not-is_one_of w ↦ c.if-is_valid_entry.false ∙ has_comma entry (sym c.is_one_of.ensures ∙ w.if-not-is_one_of.false)
    ]
