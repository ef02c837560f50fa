-- `report_choices::leave_word` meets its contract.
use mathlib.Core.Path.{sym, ap, ◌∙◌, subst}
use Rattle.std.specs.Prelude.{Ok, false}
use Rattle.report_choices.proofs.ChoiceLaws.{leaves_word}
use Rattle.report_kept.specs.code.View.{arrived, plain}
use Rattle.report_choices.specs.code.Choices.{LeavesWord}
use Rattle.report_choices.proofs.leave_word.Goals as goal

pub returns : goal.returns
returns c =
    let a = c.args in
    subst (λ t. LeavesWord a.s a.k (Ok t)) (sym (c.go_on.ensures ∙ ap (plain false) (c.arrive.ensures ∙ (λ j. arrived (c.find_next.ensures j) (c.note_word.ensures j))))) (λ h l calm. leaves_word a.s h l calm a.k)
