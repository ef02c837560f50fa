-- `sheet_turn::take_turn` meets its contract.
use Rattle.sheet_turn.proofs.ConversingLaws.{asks, ends, not_refused, ending}
use mathlib.Core.Path.{◌≡◌, refl, ◌∙◌}
use Rattle.sheet_turn.proofs.NameLaws.{front_part}
use Rattle.evaluation.specs.Promises.{Does}
use Rattle.evaluation.specs.GivenBack.{message_now, marked, step_back}
use Rattle.verdict_judgement.specs.Reading.{verdict_in}
use Rattle.asking.specs.Asking.{given, ask_name}
use Rattle.book.specs.Book.{next}
use mathlib.Core.List.{[]}
use native.Mathlib.Omega.{arith}
use Rattle.sheet_turn.proofs.take_turn.Goals as goal

pub returns-in-Ask : goal.returns-in-Ask
unfolding step_back
returns-in-Ask c = λ m turns h χ.
    let e = c.args.e in
    let name = marked c.next-stepped.result.evaluation c.in-Ask.walk c.in-Ask.place in
    let is_name : c.part.result.now ≡ name = c.part.ensures ∙ front_part _ c.name_at-size.result ∙ c.name_at-size.ensures.0 in
    let does : Does e next c.next-stepped.result.evaluation (given (ask_name name) []) = rw c.in-Ask.is at c.next-stepped.ensures.does in
    c.ask.ensures m turns h (rw is_name (asks χ name does (omega (arith, c.name_at-size.ensures))))

pub returns-in-Verdict : goal.returns-in-Verdict
unfolding verdict_in step_back
returns-in-Verdict c = λ m turns h χ.
    ending _ refl
    (ends χ (verdict_in (message_now c.next-stepped.result.evaluation) c.in-Verdict.v.judgement) c.in-Verdict.v.count
    (rw c.in-Verdict.is at c.next-stepped.ensures.does) c.append_verdict.ensures)

pub returns-in-Refused : goal.returns-in-Refused
unfolding step_back
returns-in-Refused c = λ m turns h χ.
    not_refused χ c.in-Refused.f (rw c.in-Refused.is at c.next-stepped.ensures.does)
