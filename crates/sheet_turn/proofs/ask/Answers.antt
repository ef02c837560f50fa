-- `sheet_turn::ask` meets its contract.
use Prim.Native.Nat.{ℕ}
use lib.ListN.{length-replicate}
use Rattle.sheet_turn.proofs.ConversingLaws.{goes_on, stops, going, ending}
use Rattle.evaluation.specs.GivenBack.{acceptance_back}
use Rattle.sheet_turn.specs.code.Conversing.{answers_on}
use Rattle.records_find.proofs.SheetLaws.{answer_law}
use Rattle.txt.specs.Answers.{answer_of}
use mathlib.Core.Path.{◌≡◌, refl}
use Rattle.sheet_turn.proofs.ask.Goals as goal

pub returns-in-Err : goal.returns-in-Err
unfolding answers_on acceptance_back
returns-in-Err c = λ m turns h ψ.
    let a = c.args in
    let read : answer_of c.status.result c.bytes.result.now ≡ answers_on a.records a.sheet.now a.name.now =
    rw (c.status.ensures, c.bytes.ensures, c.find-found.ensures) (answer_law a.records a.sheet.now a.name.now h) in
    ending _ refl
    (stops ψ c.append_ask-end.ensures c.status.result c.bytes.result.now _ (length-replicate {A = ℕ} 4096 0) read
    c.answer-changed.ensures _ (rw c.in-Err.is) c.append_refusal.ensures)

pub returns : goal.returns
unfolding answers_on acceptance_back
returns c = λ m turns h ψ.
    let a = c.args in
    let read : answer_of c.status.result c.bytes.result.now ≡ answers_on a.records a.sheet.now a.name.now =
    rw (c.status.ensures, c.bytes.ensures, c.find-found.ensures) (answer_law a.records a.sheet.now a.name.now h) in
    going _ refl
    (goes_on ψ c.append_ask-end.ensures c.status.result c.bytes.result.now _ (length-replicate {A = ℕ} 4096 0) read
    c.answer-changed.ensures (rw c.in_default.is))
