-- `alignment_stored::number_at` meets its contract.
use mathlib.Core.Path.{sym, ◌∙◌}
use Rattle.alignment_stored.proofs.StoredLaws.{number_past, number_short, number_there}
use Rattle.alignment_stored.proofs.number_at.Goals as goal
use Rattle.alignment_stored.proofs.number_at.Goals.{else-walk-le16-via-then-walk-le16+else-from-walk, else-walk-le16-via-else-walk-le16}

pub returns-then-from-walk : goal.returns-then-from-walk
returns-then-from-walk c = c.from.ensures ∙ sym (number_there c.args.numbers.now c.args.from c.args.walk c.if-walk-le16.true)

pub returns-else-walk-le16 : goal.returns-else-walk-le16
returns-else-walk-le16 c =
    let a = c.args in
    elim c.else-walk-le16.branch [
      | else-walk-le16-via-then-walk-le16+else-from-walk w ↦ sym (number_short a.numbers.now a.from a.walk w.if-walk-le16.true w.if-from-walk.false)
      | else-walk-le16-via-else-walk-le16 w ↦ sym (number_past a.numbers.now a.from a.walk w.if-walk-le16.false)
    ]
