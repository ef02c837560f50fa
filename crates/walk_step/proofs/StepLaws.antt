-- Laws of a walk over its last targets, by where the code places them.
use mathlib.Core.Path.{◌≡◌, refl, ap, sym, ◌∙◌, fun_ext}
use mathlib.Core.List.{List, ◌∷◌}
use mathlib.Core.Bool.{Bool, true, false}
use Prim.Native.Nat.{ℕ, zero, suc, ◌-◌, ◌≤◌, ◌<◌, min}
use native.Mathlib.Omega.{arith}
use lib.ListN.{length, drop}
use Rattle.std.specs.Prelude.{if◌then◌else◌, Some, Option, None}
use Rattle.lookup.specs.Lookup.{Answers, find}
use Rattle.domain.specs.declared.Octet.{Octet}
use Rattle.domain.specs.Domain.{Domain, targets, can_ask, asked_name}
use Rattle.domain.specs.declared.Starts.{Starts}
use Rattle.domain_labels.specs.declared.Target.{Target}
use Rattle.domain_labels.specs.code.Places.{target_of, target_by, Finds}
use Rattle.domain.specs.OnePass.{Passes}
use Rattle.domain_labels.proofs.StartLaws.{finds_target, targets_counted}
use Rattle.txt.specs.declared.Reply.{Reply}
use Rattle.walk.specs.Walk.{Found}
use Rattle.walk_known.specs.code.Kept.{looked_at}
use Rattle.walk_progress.specs.declared.Applicable.{Applicable}
use Rattle.walk_progress.specs.declared.Reach.{Reach}
use Rattle.walk_progress.specs.code.Summary.{found_in}
use Rattle.walk_progress.specs.code.Turns.{last_summary, one_more}
use Rattle.walk_progress.specs.code.Reaching.{over, reach}
use Rattle.walk_progress.specs.code.Stops.{targets_left, ReachesFrom}
use Rattle.walk_progress.proofs.StopLaws.{left_least, left_none, left_next, target_wider, reach_end, reach_missing, reach_known, reach_skipped}
use Rattle.walk_step.specs.code.Steps.{by_looked, reach_at, reach_placed, ReachesPlaced}

module _ (β : Answers Reply) (d : Domain) where
  -- with none left, and with one more
  module _ (begins : List Octet) (last : Option Found) where
    pub placed_end : (n : ℕ) → n ≤ 0 → reach_placed β d begins last n ≡ over (Some (last_summary d last))
    unfolding reach_placed
    placed_end zero h = refl
    placed_end (suc n) h = absurd (omega arith)

    pub placed_next : (n : ℕ) → 0 < n → reach_placed β d begins last n ≡ reach_at β d (target_by begins n) last (n - 1) (λ l. reach_placed β d begins l (n - 1))
    unfolding reach_placed
    placed_next zero z = absurd (omega arith)
    placed_next (suc n) z = let one : suc n - 1 ≡ n = omega arith in rw one

  -- ---------------------------------------------------------------- where a pass over the domain found them

  reach_looked : (last : Option Found) (t : Domain) (n : ℕ)
      → reach β d last (t ∷ targets_left d n) ≡ by_looked d last t (one_more d t) n (λ l. reach β d l (targets_left d n)) (looked_at β t)
  unfolding looked_at by_looked
  reach_looked last t n = go (can_ask t) refl (find β (asked_name t)) refl
    where
      go : (b : Bool) → can_ask t ≡ b → (o : Option Reply) → find β (asked_name t) ≡ o
          → reach β d last (t ∷ targets_left d n)
          ≡ by_looked d last t (one_more d t) n (λ l. reach β d l (targets_left d n)) (if can_ask t then find β (asked_name t) else Some Reply.NoRecord)
      go true a None e = rw (reach_missing β d last t (targets_left d n) a e, a, e)
      go true a (Some r) e = rw (reach_known β d last t (targets_left d n) a r e, a, e)
      go false a o e = rw (reach_skipped β d last t (targets_left d n) a, a)

  -- one target
  at_found : (last : Option Found) (n : ℕ) → suc n ≤ length (targets d) → (at : Target) → Finds d (target_of (suc n) d) at
      → reach_at β d at last n (λ l. reach β d l (targets_left d n)) ≡ reach β d last (targets_left d (suc n))
  unfolding reach_at
  at_found last n h at finds =
      let one : suc n - 1 ≡ n = omega arith in
      rw (target_wider d (suc n) (omega arith) h at finds) (sym (reach_looked last (drop at.begin.0 d) n))
      ∙ ap (reach β d last) (sym (rw one at (left_next d (suc n) (omega arith) h at finds)))

  module _ (s : Starts) (pass : Passes d s) where
    pub placed_reach : (n : ℕ) → n ≤ length (targets d) → (last : Option Found) → reach_placed β d s.begins last n ≡ reach β d last (targets_left d n)
    unfolding reach_placed
    placed_reach zero h last = sym (ap (reach β d last) (left_none d 0 (omega arith)) ∙ reach_end β d last)
    placed_reach (suc n) h last =
        ap (reach_at β d (target_by s.begins (suc n)) last n) (fun_ext λ l. placed_reach n (omega arith) l)
        ∙ at_found last n h (target_by s.begins (suc n)) (finds_target d (suc n) (omega arith) h s pass)

    -- so the walk goes as far as it can
    pub reaches_from : (last : Option Applicable) (n : ℕ) (r : Reach) → ReachesPlaced β d s last n r → ReachesFrom β d last n r
    reaches_from last n r e =
        let all : min 8 s.labels.0 ≡ length (targets d) = targets_counted d s pass _ refl in
        e
        ∙ placed_reach (min n (min 8 s.labels.0)) (omega arith) (found_in d last)
        ∙ ap (reach β d (found_in d last)) (sym (left_least d n (min n (min 8 s.labels.0)) (ap (min n) all)))
