-- `policy_words::find_word` meets its contract: no word that was passed is the text.
use mathlib.Core.Path.{sym, ◌∙◌}
use mathlib.Core.List.{flatten}
use native.Mathlib.Omega.{arith}
use Rattle.octets.specs.Octets.{octets}
use Rattle.octets_pieces.specs.code.Pieces.{starts}
use Rattle.policy_words.specs.code.Rows.{tag_names, record_words}
use Rattle.policy_words.proofs.TableLaws.{word_is, place_here, place_next, place_past}
use Rattle.policy_words.proofs.find_word.Goals as goal

pub returns-then-same_text : goal.returns-then-same_text
unfolding tag_names record_words octets flatten starts
returns-then-same_text c =
    let m = c.loop-i in
    let a = c.args in
    let here = place_here a.s.now m.i a.last (omega arith) (rw (c.find_piece.ensures ∙ word_is m.i) at (sym c.same_text.ensures ∙ c.if-same_text.true)) in
    record { place = omega (arith, m.invariant.2, here); bound = omega arith }

pub loop-i-preserved : goal.loop-i-preserved
unfolding tag_names record_words octets flatten starts
loop-i-preserved c =
    let m = c.loop-i in
    let a = c.args in
    let next = place_next a.s.now m.i a.last (omega arith) (rw (c.find_piece.ensures ∙ word_is m.i) at (sym c.same_text.ensures ∙ c.if-same_text.false)) in
    (omega arith, omega arith, omega (arith, m.invariant.2, next))

pub returns : goal.returns
returns c =
    let m = c.loop-i in
    let a = c.args in
    record { place = omega (arith, m.invariant.2, place_past a.s.now m.i a.last (omega arith)); bound = omega arith }
