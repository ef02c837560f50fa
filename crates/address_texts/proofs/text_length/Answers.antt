-- `address_texts::text_length` meets its contract: what was counted and what is left are as long as the whole.
use mathlib.Core.Path.{ap}
use native.Mathlib.Omega.{arith}
use lib.ListN.{length}
use Rattle.txt.specs.Answers.{joined}
use Rattle.txt_read.specs.code.Steps.{or_empty}
use Rattle.txt_read.proofs.StringLaws.{no_strings, past_the_end}
use Rattle.address_texts.proofs.TextLaws.{next_size, not_there}
use Rattle.address_texts.proofs.text_length.Goals as goal

pub loop-rest-init : goal.loop-rest-init
loop-rest-init c = (omega arith, λ h. (h, omega arith))

pub returns-then-rest-next : goal.returns-then-rest-next
returns-then-rest-next c =
    let m = c.loop-rest in
    let k = c.from-k in
    (λ h. absurd (not_there (joined 0 m.rest.now) (past_the_end m.rest.now k.result k.ensures (omega arith) (omega arith)) (m.invariant.1 h).0), omega arith)

pub loop-rest-preserved : goal.loop-rest-preserved
loop-rest-preserved c =
    let m = c.loop-rest in
    let k = c.from-k in (
      omega arith,
      λ h.
          let (there, size) = next_size m.rest.now k.result k.ensures (omega arith) (omega arith) (m.invariant.1 h).0 in
          (there, omega (arith, size, (m.invariant.1 h).1)),
    )

pub returns : goal.returns
returns c =
    let m = c.loop-rest in
    (λ h. omega (arith, (m.invariant.1 h).1, ap (λ o. length (or_empty o)) (no_strings m.rest.now (omega arith))), omega arith)
