use Prim.Native.Nat.{◌-◌}
use Rattle.report_parts.proofs.TellLaws.{tells_row, tells_nothing, tells_refusal}
use Rattle.report_parts.proofs.tell.Goals as goal

-- src/lib.rt:43:9
pub returns-then-gives : goal.returns-then-gives
returns-then-gives c = let a = c.args in tells_row a.gives a.s c.if-gives.true

-- src/lib.rt:51:9
pub returns-then-s-eq0 : goal.returns-then-s-eq0
returns-then-s-eq0 c = let a = c.args in tells_nothing a.gives a.s c.if-gives.false c.if-s-eq0.true

-- src/lib.rt:39:1
pub returns : goal.returns
returns c = let a = c.args in tells_refusal a.gives a.s c.if-gives.false c.if-s-eq0.false
