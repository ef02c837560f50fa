-- `verdict_pass::is_walked` meets its contract.
use mathlib.Core.Path.{◌∙◌}
use borrow.Author.Tests.{lt-leb}
use Rattle.verdict_pass.proofs.PassingLaws.{not_organized, organized_by}
use Rattle.verdict_pass.proofs.is_walked.Goals as goal

pub returns-then-author-ge2 : goal.returns-then-author-ge2
returns-then-author-ge2 c =
    rw (← c.slot-own.ensures, ← c.settle_at.ensures) (organized_by c.settle_at.result _ c.args.author c.if-author-ge2.true c.is_none.result c.is_none.ensures)

pub returns-else-author-ge2 : goal.returns-else-author-ge2
returns-else-author-ge2 c = lt-leb 2 c.args.author c.if-author-ge2.false ∙ not_organized _ _ c.args.author c.if-author-ge2.false
