-- `txt_read::is_text` meets its contract. The loop's invariant: RDATA can be read where what is left of it can.
use mathlib.Core.Path.{ap, sym, ◌∙◌}
use native.Mathlib.Omega.{arith}
use borrow.Author.Rules.{rules}
use borrow.Author.Tests.{eqb-true, eqb-false}
use Rattle.txt_read.specs.code.Steps.{is_there}
use Rattle.txt_read.proofs.StringLaws.{no_text, no_strings, text_joined, past_the_end, one_passed}
use Rattle.txt_read.proofs.is_text.Goals as goal

pub returns-then-is_empty : goal.returns-then-is_empty
returns-then-is_empty c = rw (no_text c.args.rdata.now (eqb-true _ _ (sym c.is_empty.ensures ∙ c.if-is_empty.true)))

pub loop-rest-init : goal.loop-rest-init
loop-rest-init c = (search rules, ap is_there (text_joined c.args.rdata.now (eqb-false _ _ (sym c.is_empty.ensures ∙ c.if-is_empty.false))))

pub returns-then-rest-next : goal.returns-then-rest-next
returns-then-rest-next c =
    let m = c.loop-rest in
    sym (m.invariant.1 ∙ past_the_end m.rest.now c.from-next.result c.from-next.ensures (omega arith) (omega arith))

pub loop-rest-preserved : goal.loop-rest-preserved
loop-rest-preserved c =
    let m = c.loop-rest in
    (search rules, m.invariant.1 ∙ one_passed m.rest.now c.from-next.result c.from-next.ensures (omega arith) (omega arith))

pub returns : goal.returns
returns c =
    let m = c.loop-rest in
    sym (m.invariant.1 ∙ rw (no_strings m.rest.now (omega arith)))
