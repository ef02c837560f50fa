-- `text_front::trim_end` meets its contract: every octet that was passed, from the end, is a blank.
use Rattle.std.proofs.Common.{◌≡◌, ℕ, ◌∙◌, ap, sym, arith, take}
use native.Mathlib.Numerals.{unary_clauses}
use Rattle.octets.proofs.PartLaws.{cut, kept, none_kept}
use Rattle.text_front.proofs.trim_end.Goals as goal
use Rattle.text_front.proofs.trim_end.Goals.{then-loop-end-test+else-is_blank, else-loop-end-test}

pub loop-end-preserved : goal.loop-end-preserved
loop-end-preserved c =
    let m = c.loop-end in
    (omega arith, m.invariant.1 ∙ cut c.args.s.now m.end (omega arith) (omega arith) (sym c.is_blank.ensures ∙ c.if-is_blank.true))

pub returns : goal.returns
returns c =
    let s = c.args.s.now in
    let m = c.loop-end in
    elim c.loop-end-test.branch [
      | then-loop-end-test+else-is_blank w ↦
          sym (m.invariant.1 ∙ (simp unary_clauses at (kept s m.end (omega arith) (omega arith) (sym w.is_blank.ensures ∙ w.if-is_blank.false))))
      | else-loop-end-test w ↦
          let none : m.end ≡ 0 = omega arith in
          sym (m.invariant.1 ∙ none_kept s m.end (omega arith) ∙ ap (λ (n : ℕ). take n s) (sym none))
    ]
