-- `publishing_write::put_rua` meets its contract: left out, or its words and then the text.
use Rattle.std.proofs.Common.{◌≡◌, [], ◌∷◌, length, arith}
use Rattle.std.proofs.lemmas.Bool.Decides.{nat_tests}
use Rattle.octets_pieces.proofs.PuttingLaws.{puts_nothing, puts_both}
use Rattle.policy_words.specs.code.Rows.{words_of}
use Rattle.publishing_write.proofs.TagLaws.{rua_parts, rua_none}
use Rattle.publishing_write.proofs.put_rua.Goals as goal

pub returns-then-is_empty : goal.returns-then-is_empty
returns-then-is_empty c =
    let a = c.args in
    let none : length a.rua.now ≡ 0 = grind (arith, nat_tests) in
    rw (rua_none a.rua.now none) (puts_nothing a.out.now a.at)

pub returns-else-is_empty : goal.returns-else-is_empty
returns-else-is_empty c =
    let a = c.args in
    let some : length a.rua.now ≡ 0 → ⊥ = grind (arith, nat_tests) in
    rw (rua_parts a.rua.now some) at (puts_both (words_of (23 ∷ 7 ∷ 24 ∷ [])) a.rua.now a.out.now a.at c.put_words-begin.ensures c.put.ensures)
