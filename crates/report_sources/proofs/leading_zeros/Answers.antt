-- `report_sources::leading_zeros` meets its contract.
use native.Mathlib.Omega.{arith}
use Rattle.report_sources.proofs.SourceLaws.{all_digits, three_digits, two_digits, one_digit}
use Rattle.report_sources.proofs.leading_zeros.Goals as goal

pub returns-then-high-gt15 : goal.returns-then-high-gt15
returns-then-high-gt15 c =
    let a = c.args in
    all_digits a.high a.low (omega arith) c.if-high-gt15.true (omega arith)

pub returns-then-high-gt0 : goal.returns-then-high-gt0
returns-then-high-gt0 c =
    let a = c.args in
    three_digits a.high a.low (omega arith) c.if-high-gt0.true c.if-high-gt15.false

pub returns-then-low-gt15 : goal.returns-then-low-gt15
returns-then-low-gt15 c =
    let a = c.args in
    two_digits a.high a.low (omega arith) c.if-high-gt0.false c.if-low-gt15.true

pub returns-else-low-gt15 : goal.returns-else-low-gt15
returns-else-low-gt15 c =
    let a = c.args in
    one_digit a.high a.low (omega arith) c.if-high-gt0.false c.if-low-gt15.false
