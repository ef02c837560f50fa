-- Laws of programs that take so many octets and no more.
use Rattle.std.specs.Prelude.{Option, None, Some}
use mathlib.Core.Path.{◌≡◌, refl, sym, ap, ◌∙◌, subst}
use mathlib.Core.List.{List, [], ◌∷◌}
use mathlib.Core.Bool.{Bool, true, false, false≢true}
use Prim.Native.Nat.{ℕ, zero, suc, ◌+◌, ◌-◌, ◌≤◌}
use native.Mathlib.Omega.{arith}
use lib.ListN.{length}
use Rattle.octets.specs.Octets.{Octets}
use Rattle.octets.specs.Refusing.{OrRefused, ok, not_ok, refusal}
use Rattle.octets.specs.declared.Refusal.{Refusal}
use Rattle.parsing.specs.Reads.{Reads, done, give, next, ◌>>=◌, Left, open_at, stuck, Reader, Fed, handing, stands, run, feed, ended, closed}
use Rattle.parsing.proofs.ReadsLaws.{run_on, run_stuck}
use Rattle.parsing_steps.specs.Stepping.{Step, on, refused, step_of, run_after, takes}
use Rattle.parsing_steps.proofs.StepLaws.{run_step}
use Rattle.parsing_limit.specs.Limits.{at_most, limited_left, limited, is_ready, Within}

-- a step, and so many octets behind it
unfoldable pub step_most : {R A : Type 0} → ℕ → Step R A → Step R A
step_most n (on t) = on (at_most n t)
step_most n (refused m) = refused m

module _ {R A : Type 0} where
  -- ------------------------------------------------------------------ programs that hand out nothing first

  pub ready_takes : (t : Reads R A) → takes t ≡ true → is_ready t ≡ true
  unfolding takes is_ready
  ready_takes (done a) e = refl
  ready_takes (give r t) e = e
  ready_takes (next refuses k) e = refl

  pub ready_most : (n : ℕ) (t : Reads R A) → is_ready (at_most n t) ≡ is_ready t
  unfolding at_most is_ready
  ready_most n (done a) = refl
  ready_most n (give r t) = refl
  ready_most zero (next refuses k) = refl
  ready_most (suc n) (next refuses k) = refl

  pub run_nothing : (at : ℕ) (t : Reads R A) → is_ready t ≡ true → run at t [] ≡ stands at (open_at t)
  unfolding run is_ready
  run_nothing at (done a) e = refl
  run_nothing at (give r t) e = absurd (false≢true e)
  run_nothing at (next refuses k) e = refl

  pub run_first : (at x : ℕ) (t : Reads R A) (s : Octets) → is_ready t ≡ true → run at t (x ∷ s) ≡ run_after at (step_of t x) s
  unfolding run is_ready step_of run_after takes
  run_first at x (done a) s e = refl
  run_first at x (give r t) s e = absurd (false≢true e)
  run_first at x (next refuses k) s e = run_step (next refuses k) at x s refl

  -- ------------------------------------------------------------------ one octet

  pub most_step : (n x : ℕ) (t : Reads R A) → step_of (at_most (suc n) t) x ≡ step_most n (step_of t x)
  unfolding at_most step_of step_most
  most_step n x (done a) = refl
  most_step n x (give r t) = most_step n x t
  most_step n x (next refuses k) = go (refuses x)
    where
      go : (o : Option ℕ) → (elim o as (λ _. Step R A) [ None ↦ on (at_most n (k x)) | Some m ↦ refused m ])
          ≡ step_most {R = R} {A = A} n (elim o as (λ _. Step R A) [ None ↦ on (k x) | Some m ↦ refused m ])
      go None = refl
      go (Some m) = refl

  pub full_step : (x : ℕ) (t : Reads R A) → step_of (at_most 0 t) x ≡ refused 20
  unfolding at_most step_of
  full_step x (done a) = refl
  full_step x (give r t) = full_step x t
  full_step x (next refuses k) = refl

  -- ------------------------------------------------------------------ a program that is within, and a reader's end

  unfoldable pub limited_fed : ℕ → Fed R A → Fed R A
  limited_fed most f = record { rows = f.rows; reader = limited most f.reader }

  pub run_most : (n at most : ℕ) (t : Reads R A) (s : Octets) → most ≡ n + at → Within n t → run at (at_most n t) s ≡ limited_fed most (run at t s)
  unfolding at_most run limited_fed limited limited_left handing Within
  run_most n at most (give r t) s e w = ap (handing r) (run_most n at most t s e w)
  run_most n at most (done a) [] e w = refl
  run_most n at most (done a) (x ∷ s) e w = refl
  run_most zero at most (next refuses k) s e w = absurd w
  run_most (suc n) at most (next refuses k) [] e w = let same : most - at ≡ suc n = omega (arith, e) in sym (ap (λ m. stands at (open_at (at_most m (next refuses k)))) same)
  run_most (suc n) at most (next refuses k) (x ∷ s) e w = go (refuses x) refl (λ q. run_most n (suc at) most (k x) s (omega (arith, e)) (w x q))
    where
      go : (o : Option ℕ) → refuses x ≡ o → (refuses x ≡ None → run (suc at) (at_most n (k x)) s ≡ limited_fed most (run (suc at) (k x) s))
          → run at (next refuses (λ y. at_most n (k y))) (x ∷ s) ≡ limited_fed most (run at (next refuses k) (x ∷ s))
      go None q h = run_on at refuses (λ y. at_most n (k y)) x s q ∙ h q ∙ ap (limited_fed most) (sym (run_on at refuses k x s q))
      go (Some m) q h = run_stuck at refuses (λ y. at_most n (k y)) x s m q ∙ ap (limited_fed most) (sym (run_stuck at refuses k x s m q))

  pub ended_limited : (most : ℕ) (r : Reader R A) → ended (limited most r) ≡ ended r
  unfolding ended limited limited_left at_most
  ended_limited most r = go (most - r.taken) r.left
    where
      go : (n : ℕ) (l : Left R A) → ended (record { taken = r.taken; left = limited_left n l }) ≡ ended (record { taken = r.taken; left = l })
      go n (stuck q) = refl
      go n (open_at (done a)) = refl
      go n (open_at (give s t)) = refl
      go zero (open_at (next f k)) = refl
      go (suc n) (open_at (next f k)) = refl
