-- `alignment_stored::slot` meets its contract.
use Prim.Native.Nat.{ℕ, min}
use Rattle.alignment_stored.proofs.StoredLaws.{slot_past, slot_part}
use mathlib.Core.Path.{ap, ◌∙◌}
use Rattle.alignment_stored.proofs.slot.Goals as goal

pub returns-then-walk-le16 : goal.returns-then-walk-le16
returns-then-walk-le16 c =
    let a = c.args in
    c.part.ensures ∙ slot_part a.domains.now a.numbers.now a.walk c.min-size.result (c.min-size.ensures ∙ ap (λ (n : ℕ). min n 253) c.number_at.ensures)

pub returns-else-walk-le16 : goal.returns-else-walk-le16
returns-else-walk-le16 c = slot_past c.args.domains.now c.args.numbers.now c.args.walk c.if-walk-le16.false
