-- `domain_labels::find_starts` meets its contract. The loop's invariant: the octets from `i` on are passed, one a round, and their labels counted and placed.
use mathlib.Core.Path.{◌≡◌, ap, sym, ◌∙◌}
use Prim.Native.Nat.{◌+◌, ◌-◌}
use native.Mathlib.Omega.{arith}
use lib.ListN.{length, drop}
use Rattle.domain.specs.Domain.{label_count}
use Rattle.domain.proofs.DomainLaws.{count_at_dot, count_at_other, count_at_end}
use Rattle.domain_labels.proofs.StartLaws.{none_found, found_late, found_one, all_found}
use Rattle.domain_labels.proofs.find_starts.Goals as goal
use Rattle.domain_labels.proofs.find_starts.Goals.{then-s-i-eq46, then-labels-le8, else-labels-le8, else-s-i-eq46}

pub loop-i-init : goal.loop-i-init
loop-i-init c =
    let s = c.args.s.now in
    (omega arith, omega arith, omega arith, sym (count_at_end s (length s) (omega arith)), none_found s)

pub loop-i-preserved : goal.loop-i-preserved
loop-i-preserved c =
    let s = c.args.s.now in
    let m = c.loop-i in
    let f = m.invariant.4 in
    elim c.if-s-i-eq46.branch [
      | then-s-i-eq46 w ↦
          let dot = w.if-s-i-eq46.true in
          let before : m.i - 1 + 1 ≡ m.i = omega arith in
          rw (w.begins-is, w.labels-is) (
            omega arith,
            omega arith,
            omega arith,
            omega (arith, count_at_dot s (m.i - 1) m.i (omega arith) (omega arith) dot),
            elim w.if-labels-le8.branch [
              | then-labels-le8 v ↦ rw (v.begins-is, before) (found_one s m.begins m.labels f m.i (omega arith) (omega arith) dot m.invariant.3 (omega arith) v.if-labels-le8.true)
              | else-labels-le8 v ↦ rw v.begins-is (found_late s m.begins m.labels f (omega (arith, v.if-labels-le8.false)))
            ],
          )
      | else-s-i-eq46 w ↦
          rw (w.begins-is, w.labels-is) (omega arith, omega arith, omega arith, omega (arith, count_at_other s (m.i - 1) m.i (omega arith) (omega arith) w.if-s-i-eq46.false), f)
    ]

pub returns : goal.returns
returns c =
    let s = c.args.s.now in
    let m = c.loop-i in
    let start : m.i ≡ 0 = omega arith in
    all_found s _ m.invariant.4 (m.invariant.3 ∙ ap (λ i. label_count (drop i s)) start) (omega arith)
