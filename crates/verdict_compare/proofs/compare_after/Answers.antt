-- `verdict_compare::compare_after` meets its contract.
use mathlib.Core.Path.{◌≡◌, refl, ap, sym, ◌∙◌, subst}
use mathlib.Core.List.{List}
use Prim.Native.Nat.{ℕ, ◌+◌, ◌<◌}
use native.Mathlib.Omega.{arith}
use Rattle.alignment_stored.specs.code.Stored.{slot}
use Rattle.walk_known.specs.code.Kept.{kept_answers}
use Rattle.walk_progress.specs.code.Stops.{reached_in}
use Rattle.verdict_cursor.specs.code.Standing.{NoneFrom, given_count}
use Rattle.verdict_cursor.proofs.PassedLaws.{none_set}
use Rattle.verdict_pass.specs.code.Passing.{passed_by, passed_in}
use Rattle.verdict_pass.proofs.PassingLaws.{passed_short}
use Rattle.alignment_stored.proofs.StoredLaws.{slot_size}
use Rattle.verdict_compare.proofs.ComparingLaws.{comparing, after_walk, compares_same, compares_after, passed_on, stopped, stopped_only}
use Rattle.verdict_compare.proofs.compare_after.Goals as goal
use Rattle.verdict_compare.proofs.compare_after.Goals.{After-pass, Else-min-walk, then-walk-lt1-via-then-walk-lt1, then-walk-lt1-via-else-walk-lt1+then-min-walk}

-- this walk's identifier
own : (v : After-pass) →
    let a = v.args in
    let d = slot a.domains.now a.numbers.now a.walk in
    passed_in d v.pass.result ≡ passed_by d (reached_in d a.w)
own v =
    let a = v.args in
    rw v.slot.ensures at v.pass.ensures
    ∙ passed_short (slot a.domains.now a.numbers.now a.walk) _ (slot_size a.domains.now a.numbers.now a.walk)

-- an identifier has it
first : (v : Else-min-walk) → v.args.walk < 1 → ⊥
first v h = omega (arith, v.if-walk-lt1.false)

last : (v : Else-min-walk) →
    let a = v.args in
    given_count a.domains.now a.numbers.now a.t < a.walk → ⊥
unfolding given_count
last v h = omega (arith, h, v.if-min-walk.false, v.min.ensures)

pub returns-then-walk-lt1 : goal.returns-then-walk-lt1
unfolding given_count
returns-then-walk-lt1 c =
    elim c.then-walk-lt1.branch [
      | then-walk-lt1-via-then-walk-lt1 w ↦ record {
        given = λ h k. absurd (omega (arith, w.if-walk-lt1.true));
        none = λ h. (c.judged.ensures, refl);
        past = λ h. (c.judged.ensures, refl);
      }
      | then-walk-lt1-via-else-walk-lt1+then-min-walk w ↦ record {
        given = λ h k. absurd (omega (arith, k, w.if-min-walk.true, w.min.ensures));
        none = λ h. (c.judged.ensures, refl);
        past = λ h. (c.judged.ensures, refl);
      }
    ]

pub store-requires : goal.store-requires
unfolding given_count
store-requires c =
    omega (arith, c.store-arg-1.given.0.1, c.if-min-walk.false, c.min.ensures)

pub returns-in-Stops : goal.returns-in-Stops
returns-in-Stops c =
    let a = c.args in
    let β = kept_answers a.domains.now a.count a.kept.now in
    record {
      given = λ h k. compares_after a.domains.now a.numbers.now a.t β a.ruling a.stored.now a.walk a.w _ _
          (rw c.identifier.ensures
          (record {
            place = stopped a.domains.now a.numbers.now a.t β a.ruling a.stored.now a.walk h k c.in-Stops.stop
                ∙ ap (after_walk a.domains.now a.numbers.now a.t β a.ruling a.stored.now a.walk) (rw c.in-Stops.is at (own (goal.at.returns-in-Stops c).After-pass));
            only = λ z. stopped_only a.domains.now a.numbers.now a.t β a.ruling a.stored.now a.walk h k c.in-Stops.stop z;
          }));
      none = λ h. absurd (first (goal.at.returns-in-Stops c).Else-min-walk h);
      past = λ h. absurd (last (goal.at.returns-in-Stops c).Else-min-walk h);
    }

pub returns-in-Passes : goal.returns-in-Passes
returns-in-Passes c =
    let a = c.args in
    let β = kept_answers a.domains.now a.count a.kept.now in
    record {
      given = λ h k.
          let on = compares_same a.domains.now a.numbers.now a.t β a.ruling _ _ _ {v = a.walk + 1} c.compare.ensures (omega (arith, k)) in
          compares_after a.domains.now a.numbers.now a.t β a.ruling a.stored.now a.walk a.w _ _
          (record {
            place = on.place
                ∙ ap (λ (l : List ℕ). comparing a.domains.now a.numbers.now a.t β a.ruling l (a.walk + 1)) c.store.ensures
                ∙ passed_on a.domains.now a.numbers.now a.t β a.ruling a.stored.now a.walk h (omega (arith, c.store-arg-1.given.0.1, c.if-min-walk.false, c.min.ensures)) c.in-Passes.number
                ∙ ap (after_walk a.domains.now a.numbers.now a.t β a.ruling a.stored.now a.walk) (rw c.in-Passes.is at (own (goal.at.returns-in-Passes c).After-pass));
            only = λ z. on.only (subst (NoneFrom (a.walk + 1)) (sym c.store.ensures) (none_set a.stored.now a.walk c.in-Passes.number z));
          });
      none = λ h. absurd (first (goal.at.returns-in-Passes c).Else-min-walk h);
      past = λ h. absurd (last (goal.at.returns-in-Passes c).Else-min-walk h);
    }
