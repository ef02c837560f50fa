-- `field_word::turn_in_word` meets its contract: by what the octet makes of the word.
use Rattle.std.proofs.Common.{sym, ◌∙◌, arith}
use Rattle.field_states.specs.code.States.{reader}
use Rattle.field_word.proofs.SpellLaws.{further_less, turn_misspelled, turn_further, turn_repeated, turn_whole}
use Rattle.field_word.proofs.turn_in_word.Goals as goal

pub overflow_add-result : goal.overflow_add-result
overflow_add-result c =
    let a = c.args in
    let e = further_less a.w a.k a.x (sym c.spell_word.ensures ∙ c.in-Further.is) in
    omega (arith, e)

pub returns-in-Wrong : goal.returns-in-Wrong
returns-in-Wrong c =
    let a = c.args in
    sym (turn_misspelled a.w a.k a.dkim a.spf a.x (sym c.spell_word.ensures ∙ c.in-Wrong.is))

pub returns-in-Further : goal.returns-in-Further
unfolding reader
returns-in-Further c =
    let a = c.args in
    sym (turn_further a.w a.k a.dkim a.spf a.x (sym c.spell_word.ensures ∙ c.in-Further.is))

pub returns-in-Some : goal.returns-in-Some
returns-in-Some c =
    let a = c.args in
    sym (turn_repeated a.w a.k a.dkim a.spf a.x (sym c.spell_word.ensures ∙ c.in-Whole.is) _ (sym c.repeated_size.ensures ∙ c.in-Some.is))

pub returns-in-None : goal.returns-in-None
returns-in-None c =
    let a = c.args in
    rw c.read_behind.ensures
    (sym (turn_whole a.w a.k a.dkim a.spf a.x (sym c.spell_word.ensures ∙ c.in-Whole.is) (sym c.repeated_size.ensures ∙ c.in-None.is)))
