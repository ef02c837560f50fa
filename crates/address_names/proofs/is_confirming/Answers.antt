-- `address_names::is_confirming` meets its contract.
use mathlib.Core.Path.{sym, ◌∙◌}
use native.Mathlib.Omega.{arith}
use Rattle.octets.specs.Octets.{octets}
use Rattle.address_names.proofs.NameLaws.{too_short, in_parts}
use Rattle.address_names.proofs.is_confirming.Goals as goal
use Rattle.address_names.proofs.is_confirming.Goals.{then-name-size-via-then-name-size, then-name-size-via-else-name-size+then-name-size-lt16}

pub returns-then-name-size : goal.returns-then-name-size
returns-then-name-size c =
    let a = c.args in
    too_short a.name.now a.policy.now a.host.now (elim c.then-name-size.branch [
      | then-name-size-via-then-name-size w ↦ omega arith
      | then-name-size-via-else-name-size+then-name-size-lt16 w ↦ omega arith
    ])

pub returns-then-not-same_text : goal.returns-then-not-same_text
unfolding octets
returns-then-not-same_text c =
    let a = c.args in
    sym
    (in_parts a.name.now a.policy.now a.host.now (omega arith)
    ∙ rw (← c.part.ensures, ← c.same_text.ensures, c.if-not-same_text.true))

pub returns-then-not-same_text-2 : goal.returns-then-not-same_text-2
unfolding octets
returns-then-not-same_text-2 c =
    let a = c.args in
    sym
    (in_parts a.name.now a.policy.now a.host.now (omega arith)
    ∙ rw (
      ← c.part.ensures,
      ← c.same_text.ensures,
      c.if-not-same_text.false,
      ← c.part-2.ensures,
      ← c.same_text-2.ensures,
      c.if-not-same_text-2.true,
    ))

pub returns : goal.returns
unfolding octets
returns c =
    let a = c.args in
    sym
    (in_parts a.name.now a.policy.now a.host.now (omega arith)
    ∙ rw (
      ← c.part.ensures,
      ← c.same_text.ensures,
      c.if-not-same_text.false,
      ← c.part-2.ensures,
      ← c.same_text-2.ensures,
      c.if-not-same_text-2.false,
      ← c.part-3.ensures,
      ← c.same_text-3.ensures,
    ))
