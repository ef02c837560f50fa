-- `domain_rule::check_labels` meets its contract. The loop's invariant: what is said of all labels is said of those from `begin` on.
use mathlib.Core.Path.{◌≡◌, sym, ◌∙◌}
use Prim.Native.Nat.{◌+◌, ◌-◌, ◌≤◌, ◌<◌}
use native.Mathlib.Omega.{arith}
use lib.ListN.{length, take, drop, length-drop, length-take}
use Rattle.std.specs.Prelude.{None}
use Rattle.domain.specs.Domain.{labels, first_bad}
use Rattle.octets.proofs.LentLaws.{rest_of}
use Rattle.domain.proofs.RuleLaws.{dot_count, dot_good, end_count, end_good}
use Rattle.domain_rule.proofs.CheckLaws.{bad_label, bad_length, good_domain, sized, cut, bad_here, label_within}
use Rattle.domain_rule.proofs.check_labels.Goals as goal
use Rattle.domain_rule.proofs.check_labels.Goals.{Then-size-rest, Else-size-rest}

-- where another label follows
followed : (v : Else-size-rest) → v.loop-rest.begin + v.find_octet-size.result < length v.args.s.now
followed v =
    let s = v.args.s.now in
    let begin = v.loop-rest.begin in
    let left : length (take (length s - begin) (drop begin s)) ≡ length s - begin = rw (rest_of s begin) (length-drop begin s) in
    omega (arith, label_within s begin v.find_octet-size.result (sized s _ _ v.find_octet-size.ensures) (omega arith), v.if-size-rest.false, left)

-- where none does
module _ (v : Then-size-rest) where
  last : length v.args.s.now ≤ v.loop-rest.begin + v.find_octet-size.result
  last =
      let s = v.args.s.now in
      let begin = v.loop-rest.begin in
      let left : length (take (length s - begin) (drop begin s)) ≡ length s - begin = rw (rest_of s begin) (length-drop begin s) in
      omega (arith, v.if-size-rest.true, left)

  all_good : first_bad 0 (labels v.args.s.now) ≡ None
  all_good =
      let s = v.args.s.now in
      let m = v.loop-rest in
      let good = cut s _ _ (sym v.is_label.ensures ∙ v.if-not-is_label.false) in
      let counted : length s - m.begin ≡ v.find_octet-size.result = omega (arith, label_within s m.begin v.find_octet-size.result (sized s _ _ v.find_octet-size.ensures) (omega arith), last) in
      m.invariant.3 ∙ end_good s m.begin v.find_octet-size.result (sized s _ _ v.find_octet-size.ensures) last (rw counted good)

pub slice_bounds-is_label-end : goal.slice_bounds-is_label-end
slice_bounds-is_label-end c =
    let s = c.args.s.now in
    let m = c.loop-rest in
    rw (rest_of s m.begin) (omega (arith, label_within s m.begin c.find_octet-size.result (sized s _ _ c.find_octet-size.ensures) (omega arith), length-take c.find_octet-size.result (drop m.begin s), length-drop m.begin s))

pub returns-then-not-is_label : goal.returns-then-not-is_label
returns-then-not-is_label c =
    let s = c.args.s.now in
    let m = c.loop-rest in
    let bad = cut s _ _ (sym c.is_label.ensures ∙ c.if-not-is_label.true) in
    bad_label s m.begin (m.invariant.3 ∙ bad_here s m.begin c.find_octet-size.result (sized s _ _ c.find_octet-size.ensures) bad)

pub overflow_add-begin : goal.overflow_add-begin
overflow_add-begin c = omega (arith, followed c)

pub overflow_add-begin-in-loop-rest : goal.overflow_add-begin-in-loop-rest
overflow_add-begin-in-loop-rest c = omega (arith, followed c)

pub loop-rest-smaller : goal.loop-rest-smaller
loop-rest-smaller c = omega (arith, followed c)

pub loop-rest-preserved : goal.loop-rest-preserved
loop-rest-preserved c =
    let s = c.args.s.now in
    let m = c.loop-rest in
    let size = c.find_octet-size.result in
    let first = sized s _ _ c.find_octet-size.ensures in
    let good = cut s _ _ (sym c.is_label.ensures ∙ c.if-not-is_label.false) in
    let counted : m.begin + size - m.begin ≡ size = omega arith in
    let next : m.begin + (size + 1) ≡ m.begin + size + 1 = omega arith in
    rw next (
      omega (arith, followed c),
      omega arith,
      omega (arith, dot_count s m.begin size first (followed c)),
      m.invariant.3 ∙ dot_good s m.begin size first (followed c) (rw counted good),
    )

pub returns-then-s-le253 : goal.returns-then-s-le253
returns-then-s-le253 c =
    let s = c.args.s.now in
    let m = c.loop-rest in
    let v = (goal.at.returns-then-s-le253 c).Then-size-rest in
    good_domain s (all_good v) c.if-s-le253.true _ (omega (arith, end_count s m.begin c.find_octet-size.result (sized s _ _ v.find_octet-size.ensures) (last v)))

pub returns-else-s-le253 : goal.returns-else-s-le253
returns-else-s-le253 c = bad_length c.args.s.now (all_good (goal.at.returns-else-s-le253 c).Then-size-rest) c.if-s-le253.false
