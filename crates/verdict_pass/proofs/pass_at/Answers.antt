-- `verdict_pass::pass_at` meets its contract.
use mathlib.Core.Path.{ap, ◌∙◌, sym}
use Rattle.walk_known.specs.code.Kept.{kept_answers}
use Rattle.alignment_stored.specs.code.Stored.{slot, identifier_at}
use Rattle.walk_progress.specs.code.Stops.{stored_of}
use Rattle.verdict_pass.specs.code.Passing.{passed_by, passed_in}
use Rattle.verdict_pass.proofs.PassingLaws.{not_walked, is_passed, passed_short}
use Rattle.alignment_stored.proofs.StoredLaws.{slot_size}
use Rattle.verdict_pass.proofs.pass_at.Goals as goal

pub returns-then-is_walked : goal.returns-then-is_walked
unfolding identifier_at
returns-then-is_walked c =
    let a = c.args in
    let d = c.slot-d in
    rw d.ensures at c.pass.ensures
    ∙ passed_short (slot a.domains.now a.numbers.now a.walk) _ (slot_size a.domains.now a.numbers.now a.walk)
    ∙ rw d.ensures at (ap (passed_by (slot a.domains.now a.numbers.now a.walk)) c.reach.ensures)
    ∙ is_passed (kept_answers a.domains.now a.count a.kept.now) a.s (slot a.domains.now a.numbers.now 0) (stored_of a.author) (identifier_at a.domains.now a.numbers.now a.walk) (sym c.is_walked.ensures ∙ c.if-is_walked.true)

pub returns-else-is_walked : goal.returns-else-is_walked
unfolding passed_in
returns-else-is_walked c =
    let a = c.args in
    not_walked (kept_answers a.domains.now a.count a.kept.now) a.s (slot a.domains.now a.numbers.now 0) (stored_of a.author) (identifier_at a.domains.now a.numbers.now a.walk) (sym c.is_walked.ensures ∙ c.if-is_walked.false)
