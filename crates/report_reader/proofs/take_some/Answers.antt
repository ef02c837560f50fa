-- `report_reader::take_some` meets its contract.
use native.Mathlib.Omega.{arith}
use Rattle.report_reader.proofs.ReaderLaws.{some_run, some_octet}
use Rattle.report_reader.proofs.take_some.Goals as goal

pub returns-then-used-ne0 : goal.returns-then-used-ne0
returns-then-used-ne0 c =
    let a = c.args in
    some_run a.texts.now a.begins.now a.s a.rest.now a.row.now _ _ c.advance-run.ensures (λ any. omega (arith, c.if-used-ne0.true))

pub returns-then-rest-used : goal.returns-then-rest-used
returns-then-rest-used c =
    let a = c.args in
    some_run a.texts.now a.begins.now a.s a.rest.now a.row.now _ _ c.advance-run.ensures (λ any. omega (arith, any, c.if-rest-used.true))

pub returns : goal.returns
returns c =
    let a = c.args in
    some_octet a.texts.now a.begins.now a.s a.rest.now a.row.now _ _ c.advance-run.ensures (omega (arith, c.if-rest-used.false)) _ _ c.take_octet-turn.ensures
