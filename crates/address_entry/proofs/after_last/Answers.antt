-- `address_entry::after_last` meets its contract. The loop's invariant: no mark stands from place `i` on.
use mathlib.Core.Path.{◌≡◌}
use Prim.Native.Nat.{◌+◌, ◌-◌}
use native.Mathlib.Omega.{arith}
use Rattle.octets.proofs.LentLaws.{rest_of}
use Rattle.address_entry.proofs.EntryLaws.{last_mark, no_mark, end_mark}
use Rattle.address_entry.proofs.after_last.Goals as goal

pub loop-i-init : goal.loop-i-init
loop-i-init c = (omega arith, end_mark c.args.mark c.args.s.now)

pub returns-then-s-i : goal.returns-then-s-i
returns-then-s-i c =
    let a = c.args in
    let m = c.loop-i in
    let next : m.i - 1 + 1 ≡ m.i = omega arith in
    rw (next, rest_of) (last_mark a.mark a.s.now m.i (omega arith) (omega arith) m.invariant.1 c.if-s-i.true)

pub loop-i-preserved : goal.loop-i-preserved
loop-i-preserved c =
    let a = c.args in
    let m = c.loop-i in
    (omega arith, no_mark a.mark a.s.now m.i (omega arith) (omega arith) m.invariant.1 c.if-s-i.false)

pub returns : goal.returns
returns c =
    let first : c.loop-i.i ≡ 0 = omega arith in
    rw first at c.loop-i.invariant.1
