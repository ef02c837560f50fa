-- `verdict_compare::compare` meets its contract. The loop's invariant: comparing from the first walk on, with what was stored, is comparing from `walk` on, with what is stored.
use mathlib.Core.Path.{◌≡◌, refl, ap, ◌∙◌, sym, subst}
use Prim.Native.Nat.{ℕ, ◌+◌, min}
use native.Mathlib.Omega.{arith}
use mathlib.Core.List.{List}
use lib.ListN.{get_or}
use lib.Seq.{get_or-set_other}
use Rattle.alignment_stored.specs.code.Stored.{slot, identifier_at}
use Rattle.walk_known.specs.code.Kept.{kept_answers}
use Rattle.walk_progress.specs.code.Stops.{stored_of}
use Rattle.verdict_judgement.specs.declared.Terms.{Terms}
use Rattle.verdict_cursor.specs.code.Standing.{stored_at, NoneFrom, given_count}
use Rattle.verdict_cursor.proofs.PassedLaws.{none_set}
use Rattle.verdict_pass.specs.code.Passing.{passed_at, passed_in}
use Rattle.verdict_compare.proofs.ComparingLaws.{comparing, after_walk, judged, judged_only, passed_on, compared_next, stopped, stopped_only}
use Rattle.verdict_compare.proofs.compare.Goals as goal
use Rattle.verdict_compare.proofs.compare.Goals.{After-pass_at, After-min-walk}

-- comparing after this walk's identifier
after : (v : After-pass_at) →
    let m = v.loop-walk in
    let a = v.args in
    let β = kept_answers a.domains.now a.count a.kept.now in
    (t : Terms) → v.min-last.result ≡ given_count a.domains.now a.numbers.now t
    → comparing a.domains.now a.numbers.now t β a.ruling a.stored.now (v.min-walk.result + 1)
    ≡ after_walk a.domains.now a.numbers.now t β a.ruling m.stored m.walk (passed_in (slot a.domains.now a.numbers.now m.walk) v.pass_at.result)
unfolding stored_at
after v = λ t e.
    let m = v.loop-walk in
    let a = v.args in
    let β = kept_answers a.domains.now a.count a.kept.now in
    let on = after_walk a.domains.now a.numbers.now t β a.ruling m.stored m.walk in
    m.invariant.5 t e
    ∙ compared_next a.domains.now a.numbers.now t β a.ruling m.stored m.walk m.invariant.1 (omega (arith, e))
    ∙ ap (λ (n : ℕ). on (passed_at β a.ruling.settings (slot a.domains.now a.numbers.now 0) (stored_of n) (identifier_at a.domains.now a.numbers.now m.walk))) (sym m.invariant.3)
    ∙ ap on (sym v.pass_at.ensures)

-- where comparing begins
begins-at : (v : After-min-walk) →
    let a = v.args in
    min a.passed (given_count a.domains.now a.numbers.now a.t) + 1 ≡ v.min-walk.result + 1
unfolding given_count
begins-at v = omega (arith, v.min-last.ensures, v.min-walk.ensures)

pub overflow_add-walk-end : goal.overflow_add-walk-end
overflow_add-walk-end c = omega (arith, c.min-last.ensures, c.min-walk.ensures)

pub loop-walk-init : goal.loop-walk-init
loop-walk-init c = (omega (arith, c.min-last.ensures), omega arith, omega (arith, c.min-walk.ensures), refl, λ z. z, λ t e. refl)

pub returns-in-Stops : goal.returns-in-Stops
unfolding given_count
returns-in-Stops c =
    let m = c.loop-walk in
    let last = c.min-last.ensures in
    let a = c.args in
    let β = kept_answers a.domains.now a.count a.kept.now in
    rw (begins-at (goal.at.returns-in-Stops c).After-min-walk, c.identifier.ensures)
    (record {
      place = stopped a.domains.now a.numbers.now a.t β a.ruling m.stored m.walk m.invariant.1 (omega (arith, last)) c.in-Stops.stop
          ∙ sym (rw c.in-Stops.is at (after (goal.at.returns-in-Stops c).After-pass_at a.t last));
      only = λ z. stopped_only a.domains.now a.numbers.now a.t β a.ruling m.stored m.walk m.invariant.1 (omega (arith, last)) c.in-Stops.stop (m.invariant.4 z);
    })

pub store-requires : goal.store-requires
store-requires c = omega (arith, c.store-arg-1.given.0.1)

pub loop-walk-preserved : goal.loop-walk-preserved
loop-walk-preserved c =
    let m = c.loop-walk in
    let a = c.args in
    let β = kept_answers a.domains.now a.count a.kept.now in (
      m.invariant.0,
      omega arith,
      omega arith,
      m.invariant.3 ∙ sym (ap (λ (l : List ℕ). get_or l 0 0) c.store.ensures ∙ get_or-set_other m.stored m.walk 0 c.in-Passes.number 0 (λ f. omega (arith, m.invariant.1))),
      λ z. subst (NoneFrom (m.walk + 1)) (sym c.store.ensures) (none_set m.stored m.walk c.in-Passes.number (m.invariant.4 z)),
      λ t e.
          rw c.in-Passes.is at (after (goal.at.loop-walk-preserved c).After-pass_at t e)
          ∙ sym (passed_on a.domains.now a.numbers.now t β a.ruling m.stored m.walk m.invariant.1 (omega (arith, c.store-arg-1.given.0.1)) c.in-Passes.number)
          ∙ ap (λ (l : List ℕ). comparing a.domains.now a.numbers.now t β a.ruling l (m.walk + 1)) (sym c.store.ensures),
    )

pub returns : goal.returns
unfolding given_count
returns c =
    let m = c.loop-walk in
    let last = c.min-last.ensures in
    let a = c.args in
    let β = kept_answers a.domains.now a.count a.kept.now in
    rw (begins-at (goal.at.returns c).After-min-walk, c.judged.ensures)
    (record {
      place = judged a.domains.now a.numbers.now a.t β a.ruling m.stored m.walk (omega (arith, last)) (omega (arith, m.invariant.2, last)) ∙ sym (m.invariant.5 a.t last);
      only = λ z. judged_only a.domains.now a.numbers.now a.t β a.ruling m.stored m.walk (omega (arith, last)) (omega (arith, m.invariant.2, last)) (m.invariant.4 z);
    })
