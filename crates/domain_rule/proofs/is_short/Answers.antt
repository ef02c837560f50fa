-- `domain_rule::is_short` meets its contract. The loop's invariant: if no run was long so far, the labels from `i` on are short, the first of `run` octets.
use mathlib.Core.Path.{◌≡◌, refl}
use native.Mathlib.Omega.{arith}
use borrow.Author.Tests.{eq-eqb, ne_eqb, eqb-true}
use lib.ListN.{drop}
use lib.Seq.{drop-length}
use Rattle.domain_rule.proofs.PlainLaws.{short_end, short_dot, short_other, short_whole, short_text, drop_before}
use Rattle.domain_rule.proofs.is_short.Goals as goal
use Rattle.domain_rule.proofs.is_short.Goals.{then-s-i-eq46, else-s-i-eq46}

pub returns-then-s-le63 : goal.returns-then-s-le63
returns-then-s-le63 c = λ e. short_text c.args.s.now c.if-s-le63.true

pub loop-i-init : goal.loop-i-init
loop-i-init c =
    let s = c.args.s.now in
    (omega arith, omega arith, omega arith, λ e. (omega arith, rw (drop-length s) (short_end 0 refl)))

pub loop-i-preserved : goal.loop-i-preserved
loop-i-preserved c =
    let m = c.loop-i in
    let s = c.args.s.now in
    let size = c.requires in
    elim c.if-s-i-eq46.branch [
      | then-s-i-eq46 w ↦ rw w.run-is (
        omega arith,
        omega arith,
        omega arith,
        λ e.
            let p = m.invariant.3 (omega arith) in
            (omega arith, rw (drop_before s m.i (omega arith) (omega arith)) (short_dot (drop m.i s) m.run p.1 p.0 _ (eq-eqb _ _ w.if-s-i-eq46.true))),
      )
      | else-s-i-eq46 w ↦ rw w.run-is (
        omega arith,
        omega arith,
        omega (arith, size),
        λ e.
            let p = m.invariant.3 (omega arith) in
            (omega arith, rw (drop_before s m.i (omega arith) (omega arith)) (short_other (drop m.i s) m.run p.1 _ (ne_eqb _ _ w.if-s-i-eq46.false))),
      )
    ]

pub returns : goal.returns
returns c = λ e.
    let m = c.loop-i in
    let s = c.args.s.now in
    let start : m.i ≡ 0 = omega arith in
    let p = m.invariant.3 (eqb-true _ _ e) in
    short_whole s m.run (rw start at p.1) p.0
