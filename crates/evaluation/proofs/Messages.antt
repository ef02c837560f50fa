-- The message that an evaluation has stored is the book's.
use Rattle.std.specs.Prelude.{Some}
use mathlib.Core.Path.{◌≡◌, ap, ◌∙◌}
use mathlib.Core.Bool.{Bool, true, false}
use Rattle.verdict.specs.Message.{Message}
use Rattle.evaluation.specs.declared.Evaluation.{Evaluation}
use Rattle.evaluation.specs.GivenBack.{message_now}
use Rattle.evaluation.specs.Promises.{Changes, opened_view}
use Rattle.evaluation.specs.StoredAfter.{SameMessage}
use Rattle.evaluation.specs.code.Machine.{Keeps, keeps_nothing, keeps_opened}
use Rattle.evaluation.specs.code.View.{handed_view, view_by, view}
use Rattle.evaluation.specs.code.Showing.{shows}
use Rattle.evaluation.proofs.MachineLaws.{left_as_the_book}

kept_message : (e : Evaluation) (started handed : Bool) (m : Message) → (view_by e started handed).message ≡ Some m → message_now e ≡ m
unfolding view_by keeps_nothing keeps_opened handed_view
kept_message e false handed m h = cc h
kept_message e true false m h = cc h
kept_message e true true m h = cc h

pub same_message : SameMessage
unfolding SameMessage Changes opened_view view shows
same_message author existence support before r opens m s cs e left =
    let w = left_as_the_book m (record { author = author; existence = existence; support = support; accepts = s }) (rw s at opens).1 left in
    kept_message e e.started e.handed _ (ap (λ (k : Keeps). k.message) w.keeps)
