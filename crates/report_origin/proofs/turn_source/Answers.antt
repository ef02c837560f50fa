-- `report_origin::turn_source` meets its contract.
use mathlib.Core.Path.{◌≡◌, sym, ap, ◌∙◌, subst}
use borrow.Author.Rules.{rules}
use Rattle.std.specs.Prelude.{Ok, Err, false}
use Rattle.report_source.specs.code.Sources.{Turns}
use Rattle.report_origin.proofs.OriginLaws.{source_more, source_over, source_number, source_refused}
use Rattle.report_kept.specs.code.View.{plain}
use Rattle.report_origin.specs.code.Origins.{TurnsSource}
use Rattle.report_origin.proofs.turn_source.Goals as goal

pub returns-in_err-open : goal.returns-in_err-open
returns-in_err-open c =
    let a = c.args in
    let same : c.from_residual.result ≡ Err c.in_err-open.field-0.0 = search (rules, c.from_residual.ensures) in
    subst (TurnsSource a.s a.five a.x) (sym same) (source_refused a.s a.five a.x _ c.in_err-open.ensures)

pub returns-in-More : goal.returns-in-More
returns-in-More c =
    let a = c.args in
    let says = subst (λ t. Turns a.s.kind a.s.numbers a.five a.s.digits a.s.ten a.s.sixteen a.x (Ok t)) c.in-More.is c.in_ok-open.ensures in
    subst (λ t. TurnsSource a.s a.five a.x (Ok t)) (sym (c.go_on.ensures ∙ ap (plain false) c.move_on.ensures)) (source_more a.s a.five a.x _ says)

pub returns-in-Ended : goal.returns-in-Ended
returns-in-Ended c =
    let a = c.args in
    let says = subst (λ t. Turns a.s.kind a.s.numbers a.five a.s.digits a.s.ten a.s.sixteen a.x (Ok t)) c.in-Ended.is c.in_ok-open.ensures in
    subst (λ t. TurnsSource a.s a.five a.x (Ok t)) (sym c.end_source.ensures) (source_over a.s a.five a.x says)

pub returns-in-Number : goal.returns-in-Number
returns-in-Number c =
    let a = c.args in
    let says = subst (λ t. Turns a.s.kind a.s.numbers a.five a.s.digits a.s.ten a.s.sixteen a.x (Ok t)) c.in-Number.is c.in_ok-open.ensures in
    subst (TurnsSource a.s a.five a.x) (sym c.next_source.ensures) (source_number a.s a.five a.x _ _ says)
