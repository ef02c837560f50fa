-- `sheet_run::converse` meets its contract.
use borrow.Author.Rules.{rules}
use mathlib.Core.Path.{refl}
use Rattle.sheet_turn.proofs.ConversingLaws.{turns_most}
use Prim.Native.Nat.{◌-◌}
use native.Mathlib.Omega.{arith}
use Rattle.sheet_run.proofs.converse.Goals as goal

pub loop-turns-init : goal.loop-turns-init
loop-turns-init c = ((λ m h χ. χ), refl, omega arith)

pub returns-then-turn : goal.returns-then-turn
returns-then-turn c = λ m h χ.
    let loop = c.loop-turns in
    (c.take_turn-turn.ensures m loop.turns h (loop.invariant.0 m h χ)).ended c.if-turn.true

pub loop-turns-preserved : goal.loop-turns-preserved
loop-turns-preserved c =
    let loop = c.loop-turns in (
      (λ m h χ. (c.take_turn-turn.ensures m loop.turns h (loop.invariant.0 m h χ)).onward c.if-turn.false),
      search rules,
      omega (arith, c.loop-turns-test.true),
    )

pub returns : goal.returns
returns c = λ m h χ. absurd (omega (arith, c.loop-turns-test.false, turns_most _ _ _ _ _ _ (c.loop-turns.invariant.0 m h χ)))
