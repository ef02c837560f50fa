-- `report_reader::read_part` meets its contract.
use mathlib.Core.Path.{refl}
use mathlib.Core.List.{flatten}
use Prim.Native.Nat.{◌-◌}
use native.Mathlib.Omega.{arith}
use borrow.Author.Rules.{rules}
use Rattle.octets.specs.Octets.{octets}
use Rattle.octets_pieces.specs.code.Pieces.{starts}
use Rattle.report_states.specs.Standing.{literal_text, words}
use Rattle.report_words.specs.code.Table.{texts, literals, word_nodes}
use Rattle.report_runs.proofs.HeldLaws.{held_first}
use Rattle.report_reader.proofs.ReaderLaws.{some_within, some_more, held_more, reads_row, reads_whole}
use Rattle.report_reader.proofs.read_part.Goals as goal

pub loop-i-init : goal.loop-i-init
unfolding texts literals word_nodes literal_text words octets flatten starts
loop-i-init c = let a = c.args in (search rules, refl, refl, (refl, refl), held_first a.s a.part.now a.row.now)

pub overflow_add-i : goal.overflow_add-i
overflow_add-i c =
    let m = c.loop-i in
    let a = c.args in
    let turn = c.take_some-some.ensures in
    let same = c.skip-rest.ensures in
    let most = some_within a.s a.part.now a.row.now m.state m.row m.i m.invariant.4 (omega arith) _ _ _ _ _ same turn m.invariant.3 in
    let long = c.well_formed.1.0.0 in
    record { fits = omega (arith, most, long) }

pub returns-then-some : goal.returns-then-some
returns-then-some c =
    let m = c.loop-i in
    let a = c.args in
    let turn = c.take_some-some.ensures in
    let same = c.skip-rest.ensures in
    reads_row a.s a.part.now a.row.now m.state m.row m.i m.invariant.4 (omega arith) _ _ _ _ _ same turn m.invariant.3 c.if-some.true

pub loop-i-smaller : goal.loop-i-smaller
loop-i-smaller c =
    let m = c.loop-i in
    let a = c.args in
    let turn = c.take_some-some.ensures in
    let same = c.skip-rest.ensures in
    let more = some_more a.s a.part.now a.row.now m.state m.row m.i m.invariant.4 (omega arith) _ _ _ _ _ same turn m.invariant.3 in
    omega (arith, more)

pub loop-i-preserved : goal.loop-i-preserved
loop-i-preserved c =
    let m = c.loop-i in
    let a = c.args in
    let turn = c.take_some-some.ensures in
    let same = c.skip-rest.ensures in
    let most = some_within a.s a.part.now a.row.now m.state m.row m.i m.invariant.4 (omega arith) _ _ _ _ _ same turn m.invariant.3 in
    (most, refl, search rules, m.invariant.3, held_more a.s a.part.now a.row.now m.state m.row m.i m.invariant.4 (omega arith) _ _ _ _ _ same turn m.invariant.3 c.if-some.false)

pub returns : goal.returns
returns c =
    let a = c.args in
    let m = c.loop-i in
    reads_whole a.s a.part.now a.row.now m.state m.row m.i m.invariant.4 _ refl (omega arith)
