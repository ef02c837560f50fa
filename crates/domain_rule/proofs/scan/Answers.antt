-- `domain_rule::scan` meets its contract. The loop's invariant: if nothing is wrong so far, the labels from `i` on are whole but for the first.
use mathlib.Core.Path.{◌≡◌, refl, ap, ◌∙◌}
use Prim.Native.Nat.{◌<◌, ◌≤◌, ◌+◌, ◌-◌}
use native.Mathlib.Omega.{arith}
use lib.ListN.{drop, get_or}
use lib.Seq.{drop-length}
use Rattle.domain_rule.specs.code.Scanning.{class_code}
use Rattle.domain_rule.proofs.PlainLaws.{plain_end, plain_next, plain_whole, drop_before, class_small}
use Rattle.domain_rule.proofs.scan.Goals as goal

pub loop-i-init : goal.loop-i-init
loop-i-init c =
    let s = c.args.s.now in
    (omega arith, omega arith, omega arith, omega arith, λ e. rw (drop-length s) (plain_end 1 refl))

pub loop-i-preserved : goal.loop-i-preserved
loop-i-preserved c =
    let m = c.loop-i in
    let s = c.args.s.now in
    let octet : c.from.result < 256 = omega (arith, c.from.ensures, c.type_inv.s (m.i - 1)) in
    let classed : c.from-class.result ≡ class_code (get_or s (m.i - 1) 0) =
    c.from-class.ensures ∙ c.requires.0 c.from.result octet ∙ ap class_code c.from.ensures
    in
    let small : c.from-class.result ≤ 2 = rw classed (class_small _) in (
      omega arith,
      small,
      omega arith,
      omega arith,
      λ e.
          let rest = m.invariant.4 (omega arith) in
          rw (drop_before s m.i (omega arith) (omega arith)) (plain_next (drop m.i s) m.after (m.dots + 1) rest _ _ _ classed (omega arith) (omega arith)),
    )

pub returns-then-wrong-after-eq0 : goal.returns-then-wrong-after-eq0
returns-then-wrong-after-eq0 c = λ n e.
    let m = c.loop-i in
    let start : m.i ≡ 0 = omega arith in
    let found : record { 0 = m.dots + 1 } ≡ n = cc in
    rw (← found) (plain_whole c.args.s.now m.after (m.dots + 1) (rw start at (m.invariant.4 (omega arith))) (omega arith))
