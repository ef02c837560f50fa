-- `report_head::put_optional` meets its contract.
use Rattle.std.proofs.Common.{◌≡◌, length, arith}
use Rattle.std.proofs.lemmas.Grind.{common_steps}
use Rattle.report_head.proofs.HeadLaws.{no_word, a_word}
use Rattle.report_head.proofs.put_optional.Goals as goal

pub returns-then-is_empty : goal.returns-then-is_empty
returns-then-is_empty c =
    let a = c.args in
    let none : length a.word.now ≡ 0 = grind (arith, common_steps) in
    no_word a.start.now a.word.now a.end.now a.out.now a.at none

pub returns : goal.returns
returns c =
    let a = c.args in
    let some : length a.word.now ≡ 0 → ⊥ = grind (arith, common_steps) in
    a_word a.start.now a.word.now a.end.now a.out.now a.at some c.put_then-middle.ensures c.put.ensures
