use Prim.Native.Nat.{◌-◌}
use native.Mathlib.Omega.{arith}
use Rattle.report_steps.specs.code.Steps.{refusal_number}
use Rattle.report_reader.proofs.ReaderLaws.{ends_stuck, ends_well, ends_early}
use Rattle.report_reader.proofs.end.Goals as goal

-- src/lib.rt:82:9
pub returns-then-s-ne0 : goal.returns-then-s-ne0
returns-then-s-ne0 c = ends_stuck c.args.s c.if-s-ne0.true

-- src/lib.rt:85:9
pub returns-then-s-ge-LAST : goal.returns-then-s-ge-LAST
returns-then-s-ge-LAST c = ends_well c.args.s c.if-s-ne0.false c.if-s-ge-LAST.true

-- src/lib.rt:78:1
pub returns : goal.returns
unfolding refusal_number
returns c = ends_early c.args.s _ c.refuse.ensures c.if-s-ne0.false (omega (arith, c.if-s-ge-LAST.false))
