-- The targets of a walk get shorter, whatever the labels of the start.
use mathlib.Core.Path.{◌≡◌, refl, ap, sym, ◌∙◌}
use mathlib.Core.List.{List, [], ◌∷◌, map}
use mathlib.Core.Bool.{Bool, true, false}
use Prim.Native.Nat.{ℕ, zero, suc, ◌+◌, ◌-◌, ◌≤◌, ◌<◌}
use native.Mathlib.Decide.{dec_lt}
use native.Mathlib.Omega.{arith}
use lib.Dec.{eqb, ltb}
use lib.ListN.{length, drop}
use lib.Seq.{drop-drop}
use borrow.Author.Tests.{ltb-true, eqb-true, eqb-false}
use Rattle.std.specs.Prelude.{if◌then◌else◌}
use Rattle.domain.specs.Domain.{Domain, label_count, last_labels, begin_of, down_from, targets}
use Rattle.domain.proofs.DomainLaws.{label_count_positive, count_at_dot, count_at_other, last_labels_end, last_all, last_count}
use Rattle.walk_progress.specs.code.Turns.{one_more}

-- ------------------------------------------------------------------ labels counted

-- an octet more is at most one label more
label_more : (x : ℕ) (d : Domain) → (label_count d ≤ label_count (x ∷ d)) × (label_count (x ∷ d) ≤ suc (label_count d))
label_more x d = go (eqb x 46) refl
  where
    go : (t : Bool) → eqb x 46 ≡ t → (label_count d ≤ label_count (x ∷ d)) × (label_count (x ∷ d) ≤ suc (label_count d))
    go true e = omega (arith, count_at_dot (x ∷ d) 0 1 refl (omega arith) (eqb-true x 46 e))
    go false e = omega (arith, count_at_other (x ∷ d) 0 1 refl (omega arith) (eqb-false x 46 e))

-- an end has no more labels
labels_fewer : (k : ℕ) (d : Domain) → label_count (drop k d) ≤ label_count d
labels_fewer zero d = omega arith
labels_fewer (suc k) [] = omega arith
labels_fewer (suc k) (x ∷ d) = omega (arith, labels_fewer k d, label_more x d)

-- ------------------------------------------------------------------ the last labels of a domain

module _ (d : Domain) where
  -- of two ends, the one that is not longer has no more labels
  labels_within : (m p : ℕ) → length (last_labels p d) ≤ length (last_labels m d) → label_count (last_labels p d) ≤ label_count (last_labels m d)
  unfolding begin_of
  labels_within m p h =
      let from : ℕ = begin_of (last_labels m d) d in
      let to : ℕ = begin_of (last_labels p d) d in
      let place : from + (to - from) ≡ to = omega arith in
      let end : drop (to - from) (last_labels m d) ≡ last_labels p d = ap (drop (to - from)) (last_labels_end m d) ∙ drop-drop (to - from) from d ∙ ap (λ (n : ℕ). drop n d) place ∙ sym (last_labels_end p d) in
      rw (← end) (labels_fewer (to - from) (last_labels m d))

  -- fewer labels are fewer octets
  last_shorter : (m p : ℕ) → 0 < m → m < p → p ≤ label_count d → length (last_labels m d) < length (last_labels p d)
  last_shorter m p z h k = go (dec_lt (length (last_labels m d)) (length (last_labels p d)))
    where
      go : Dec (length (last_labels m d) < length (last_labels p d)) → length (last_labels m d) < length (last_labels p d)
      go (yes g) = g
      go (no g) = absurd (omega (arith, labels_within m p (omega arith), last_count m d z (omega arith), last_count p d (omega arith) k))

  last_not_longer : (m p : ℕ) → 0 < m → m ≤ p → p ≤ label_count d → length (last_labels m d) ≤ length (last_labels p d)
  last_not_longer m p z h k = go (dec_lt m p)
    where
      go : Dec (m < p) → length (last_labels m d) ≤ length (last_labels p d)
      go (yes g) = omega (arith, last_shorter m p z g k)
      go (no g) = let e : m ≡ p = omega arith in rw e (omega arith)

-- ------------------------------------------------------------------ the targets of a walk

module _ (start : Domain) where
  -- each target is shorter than the one before, and one more label makes it no longer than that one
  unfoldable pub Falls : ℕ → List Domain → Type 0
  Falls n [] = Unit
  Falls n (d ∷ ds) = (length d < n) × (length (one_more start d) ≤ n) × Falls (length d) ds

  pub falls_more : (m n : ℕ) (ds : List Domain) → m ≤ n → Falls m ds → Falls n ds
  unfolding Falls
  falls_more m n [] h w = tt
  falls_more m n (d ∷ ds) h w = (omega arith, omega arith, w.2)

  labels_fall : (m p : ℕ) → m < p → p ≤ label_count start → Falls (length (last_labels p start)) (map (λ n. last_labels n start) (down_from m))
  unfolding Falls down_from one_more
  labels_fall zero p h k = tt
  labels_fall (suc m) p h k = (
    last_shorter start (suc m) p (omega arith) h k,
    rw (last_count (suc m) start (omega arith) (omega arith)) (last_not_longer start (suc m + 1) p (omega arith) (omega arith) k),
    labels_fall m (suc m) (omega arith) (omega arith),
  )

  -- the second target has fewer labels than the start
  fewer : (if ltb 8 (label_count start) then 7 else label_count start - 1) < label_count start
  fewer = go (ltb 8 (label_count start)) refl
    where
      go : (t : Bool) → ltb 8 (label_count start) ≡ t → (if t then 7 else label_count start - 1) < label_count start
      go true e = omega (arith, ltb-true 8 (label_count start) e)
      go false e = omega (arith, label_count_positive start)

  pub targets_fall : Falls (suc (length start)) (targets start)
  unfolding Falls targets one_more
  targets_fall =
      let whole = last_all start (label_count start) (omega arith) in
      (omega arith, rw (last_all start (label_count start + 1) (omega arith)) (omega arith), rw whole at (labels_fall _ (label_count start) fewer (omega arith)))
