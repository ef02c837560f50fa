-- What the proofs of a walk's functions cite: the targets left, one target, one turn, and the number stored.
use Rattle.std.specs.Prelude.{Option, None, Some}
use mathlib.Core.Path.{◌≡◌, refl, sym}
use mathlib.Core.List.{List, [], ◌∷◌}
use mathlib.Core.Bool.{true, false}
use Prim.Native.Nat.{ℕ, suc, ◌+◌, ◌-◌, ◌≤◌, ◌<◌, min}
use native.Mathlib.Omega.{arith}
use lib.ListN.{length, drop, length-drop, drop_of_length-le}
use lib.Seq.{drop-cons}
use borrow.Author.Tests.{ne_eqb}
use Rattle.lookup.specs.Lookup.{Answers, find}
use Rattle.domain.specs.Domain.{Domain, label_count, begin_of, targets, can_ask, asked_name}
use Rattle.domain.proofs.DomainLaws.{last_labels_end}
use Rattle.domain.proofs.WalkLaws.{walk_targets}
use Rattle.domain_labels.specs.code.Places.{target_of, Finds}
use Rattle.domain_labels.specs.declared.Target.{Target}
use Rattle.txt.specs.declared.Reply.{Reply}
use Rattle.walk.specs.Walk.{Found}
use Rattle.walk_progress.specs.code.Stored.{still_open}
use Rattle.walk_progress.specs.declared.Organization.{Organization}
use Rattle.walk_progress.specs.code.Summary.{summary_in}
use Rattle.walk_progress.specs.code.Turns.{last_summary, one_more}
use Rattle.walk_progress.specs.code.Progress.{ended, stored_in}
use Rattle.walk_progress.specs.code.Reaching.{pause, pauses, over, reach_by, reach, later_targets}
use Rattle.walk_progress.specs.code.Stops.{targets_left, stored_of}

-- ------------------------------------------------------------------ the targets left

module _ (d : Domain) where
  pub left_whole : (n : ℕ) → n ≡ length (targets d) → targets_left d n ≡ targets d
  unfolding targets_left
  left_whole n e = let none : length (targets d) - n ≡ 0 = omega arith in rw none

  -- those after the domain itself
  pub left_later : (n : ℕ) → n + 1 ≡ length (targets d) → targets_left d n ≡ later_targets d
  unfolding targets_left later_targets
  left_later n e = let one : length (targets d) - n ≡ 1 = omega arith in rw one

  -- no more than there are
  pub left_least : (n k : ℕ) → k ≡ min n (length (targets d)) → targets_left d n ≡ targets_left d k
  unfolding targets_left
  left_least n k e = let place : length (targets d) - n ≡ length (targets d) - k = omega arith in rw place

  pub left_none : (n : ℕ) → n ≤ 0 → targets_left d n ≡ []
  unfolding targets_left
  left_none n h = drop_of_length-le (targets d) {i = length (targets d) - n} (omega arith)

  -- the next one, where the pass over the domain finds it
  module _ (n : ℕ) (z : 0 < n) (h : n ≤ length (targets d)) (at : Target) (p : Finds d (target_of n d) at) where
    pub target_here : drop at.begin.0 d ≡ target_of n d
    unfolding target_of
    target_here = rw (p.here, ← (walk_targets d).ends (length (targets d) - n))

    pub target_wider : drop at.wider.0 d ≡ one_more d (drop at.begin.0 d)
    unfolding one_more
    target_wider = rw (target_here, p.wider) (sym (last_labels_end (label_count (target_of n d) + 1) d))

    pub left_next : targets_left d n ≡ drop at.begin.0 d ∷ targets_left d (n - 1)
    unfolding targets_left target_of
    left_next =
        let place : length (targets d) - (n - 1) ≡ suc (length (targets d) - n) = omega arith in
        rw (place, target_here, drop-cons (targets d) (length (targets d) - n) [] (omega arith))

-- ------------------------------------------------------------------ one target

module _ (β : Answers Reply) (d : Domain) (last : Option Found) where
  pub reach_end : reach β d last [] ≡ over (Some (last_summary d last))
  unfolding reach
  reach_end = refl

  module _ (t : Domain) (ts : List Domain) where
    pub reach_missing : can_ask t ≡ true → find β (asked_name t) ≡ None → reach β d last (t ∷ ts) ≡ pauses (pause last t (one_more d t) ts)
    unfolding reach
    reach_missing a e = rw (a, reach, e)

    pub reach_known : can_ask t ≡ true → (r : Reply) → find β (asked_name t) ≡ Some r → reach β d last (t ∷ ts) ≡ reach_by d last t (one_more d t) (λ l. reach β d l ts) r
    unfolding reach
    reach_known a r e = rw (a, reach, e)

    pub reach_skipped : can_ask t ≡ false → reach β d last (t ∷ ts) ≡ reach_by d last t (one_more d t) (λ l. reach β d l ts) Reply.NoRecord
    unfolding reach reach_by
    reach_skipped a = rw (a, reach)

-- ------------------------------------------------------------------ the number stored

pub stores_open : stored_of 0 ≡ still_open
unfolding stored_of
stores_open = refl

pub stores_failed : (d : Domain) → stored_of 1 ≡ stored_in d (ended None)
unfolding stored_of stored_in
stores_failed d = refl

pub stores_place : (d : Domain) (o : Organization) (n : ℕ) → n ≡ 2 + min o.begin.0 (length d) → stored_of n ≡ stored_in d (ended (Some (summary_in d o)))
unfolding stored_of stored_in summary_in begin_of
stores_place d o n e =
    let place : n - 2 ≡ length d - length (drop o.begin.0 d) = omega (arith, length-drop o.begin.0 d) in
    rw (ne_eqb n 0 (λ f. omega arith), ne_eqb n 1 (λ f. omega arith), place)
