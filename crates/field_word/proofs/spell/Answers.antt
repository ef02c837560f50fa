-- `field_word::spell` meets its contract: by the octet that the word has there, if any.
use Rattle.std.proofs.Common.{◌≡◌, sym, ◌∙◌, arith, get_or}
use Rattle.std.proofs.lemmas.Bool.Decides.{nat_tests}
use Rattle.field_word.proofs.SpellLaws.{lowered_octet, spell_over, spell_other, spell_further, spell_whole}
use Rattle.field_word.proofs.spell.Goals as goal
use Rattle.field_word.proofs.spell.Goals.{then-word-k, else-word-k}

pub returns-then-to_ascii_lowercase-word : goal.returns-then-to_ascii_lowercase-word
returns-then-to_ascii_lowercase-word c =
    let a = c.args in
    let word = a.word.now in
    elim c.if-word-k.branch [
      | then-word-k w ↦ sym (spell_over word a.k a.x w.if-word-k.true)
      | else-word-k w ↦
          let other : w.to_ascii_lowercase.result ≡ get_or word a.k 0 → ⊥ = grind (arith, nat_tests) in
          sym (spell_other word a.k a.x (omega arith) (λ e. other (w.to_ascii_lowercase.ensures.value ∙ lowered_octet a.x ∙ e)))
    ]

pub returns-then-k-word : goal.returns-then-k-word
returns-then-k-word c =
    let a = c.args in
    let word = a.word.now in
    elim c.if-word-k.branch [
      | then-word-k w ↦ absurd (grind (arith, nat_tests))
      | else-word-k w ↦
          let same : w.to_ascii_lowercase.result ≡ get_or word a.k 0 = grind (arith, nat_tests) in
          sym (spell_further word a.k a.x (omega arith) (sym (lowered_octet a.x) ∙ sym w.to_ascii_lowercase.ensures.value ∙ same) c.if-k-word.true)
    ]

pub returns-else-k-word : goal.returns-else-k-word
returns-else-k-word c =
    let a = c.args in
    let word = a.word.now in
    elim c.if-word-k.branch [
      | then-word-k w ↦ absurd (grind (arith, nat_tests))
      | else-word-k w ↦
          let same : w.to_ascii_lowercase.result ≡ get_or word a.k 0 = grind (arith, nat_tests) in
          sym (spell_whole word a.k a.x (omega arith) (sym (lowered_octet a.x) ∙ sym w.to_ascii_lowercase.ensures.value ∙ same) c.if-k-word.false)
    ]
