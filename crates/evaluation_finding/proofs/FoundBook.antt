-- A finding is that of the book's verdict.
use mathlib.Core.Path.{◌≡◌, refl, ap, ◌∙◌}
use Rattle.octets.specs.Refusing.{OrRefused, ok, ◌>>=◌}
use Rattle.lookup.specs.Lookup.{Standing, needs, has}
use Rattle.verdict.specs.Message.{Message}
use Rattle.verdict.specs.Verdict.{Verdict}
use Rattle.rows.specs.Rows.{finding_of}
use Rattle.evaluation.specs.code.Machine.{judged_by}
use Rattle.evaluation.specs.Promises.{Changes, opened_view}
use Rattle.evaluation.proofs.MachineLaws.{judged_as_the_book}
use Rattle.evaluation_finding.specs.code.Entering.{to_enter}
use Rattle.evaluation_finding.specs.FoundAfter.{finding_by, FindsTheBook}

entered_by : (m : Message) (u : Standing Verdict) → (judged_by m u >>= λ x. ok (finding_of x.0 x.1, x.1.domain)) ≡ finding_by m u
unfolding judged_by finding_by ◌>>=◌
entered_by m (needs n) = refl
entered_by m (has v) = refl

pub finds_the_book : FindsTheBook
unfolding FindsTheBook Changes opened_view to_enter
finds_the_book author existence support before r opens m s cs e left f h =
    h.answers
    ∙ ap (λ (j : OrRefused (Message × Verdict)). j >>= λ x. ok (finding_of x.0 x.1, x.1.domain)) (judged_as_the_book m (record { author = author; existence = existence; support = support; accepts = s }) (rw s at opens).1 left)
    ∙ entered_by _ _
