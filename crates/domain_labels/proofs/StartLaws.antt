-- Laws of the one pass over a domain, from its end.
use mathlib.Core.Path.{◌≡◌, refl, ap, sym, ◌∙◌}
use mathlib.Core.List.{List, []}
use Prim.Native.Nat.{ℕ, suc, ◌+◌, ◌-◌, ◌≤◌, ◌<◌, min}
use native.Mathlib.Decide.{dec_lt}
use native.Mathlib.Omega.{arith}
use lib.ListN.{length, drop, get_or, set, replicate, length-set, get_or-replicate}
use lib.Seq.{get_or-set_same, get_or-set_other}
use borrow.Author.Tests.{le-leb, lt-leb}
use Rattle.domain.specs.Domain.{Domain, label_count, last_labels, begin_of, targets}
use Rattle.domain_labels.specs.code.Places.{target_of, target_placed, target_by, Finds}
use Rattle.domain.specs.OnePass.{place_at, Passes}
use Rattle.domain.specs.declared.Octet.{Octet}
use Rattle.domain.specs.declared.Starts.{Starts}
use Rattle.domain.proofs.DomainLaws.{last_all, begins, begin_all, begin_dot, last_count, target_count, target_first, target_next}

-- the places found where this many labels are seen, the first of them not yet whole
pub record Found (d : Domain) (begins : List Octet) (labels : ℕ) : Type 0 where
  pub size : length begins ≡ 8
  pub whole : (n : ℕ) → n < 8 → suc n < labels → place_at begins n ≡ begin_of (last_labels (suc n) d) d
  pub open_still : (n : ℕ) → n < 8 → labels ≤ suc n → place_at begins n ≡ 0

pub none_found : (d : Domain) → Found d (replicate 8 (record { 0 = 0 })) 1
unfolding place_at
none_found d = record {
  size = refl;
  whole = λ n h k. absurd (omega arith);
  open_still = λ n h k. ap (λ (o : Octet). o.0) (get_or-replicate 8 n _ _ h);
}

module _ (d : Domain) (begins : List Octet) (labels : ℕ) (f : Found d begins labels) where
  -- one more label, past the eighth
  pub found_late : 8 < labels → Found d begins (labels + 1)
  found_late g = record {
    size = f.size;
    whole = λ n h k. f.whole n h (omega arith);
    open_still = λ n h k. absurd (omega arith);
  }

  -- one more label, whose dot stands before a place
  module _ (i : ℕ) (z : 0 < i) (w : i ≤ length d) (o : get_or d (i - 1) 0 ≡ 46) (e : labels ≡ label_count (drop i d)) (p : 0 < labels) (g : labels ≤ 8) where
    here : place_at (set begins (labels - 1) (record { 0 = i })) (labels - 1) ≡ i
    unfolding place_at
    here = ap (λ (x : Octet). x.0) (get_or-set_same begins (labels - 1) (record { 0 = i }) (record { 0 = 0 }) (omega (arith, f.size)))

    elsewhere : (n : ℕ) → (n ≡ labels - 1 → ⊥) → place_at (set begins (labels - 1) (record { 0 = i })) n ≡ place_at begins n
    unfolding place_at
    elsewhere n h = ap (λ (x : Octet). x.0) (get_or-set_other begins (labels - 1) n (record { 0 = i }) (record { 0 = 0 }) h)

    pub found_one : Found d (set begins (labels - 1) (record { 0 = i })) (labels + 1)
    found_one = record {
      size = length-set begins (labels - 1) (record { 0 = i }) ∙ f.size;
      whole = λ n h k. by_place n h k (dec_lt (suc n) labels);
      open_still = λ n h k. elsewhere n (λ x. omega arith) ∙ f.open_still n h (omega arith);
    }
      where
        by_place : (n : ℕ) → n < 8 → suc n < labels + 1 → Dec (suc n < labels) → place_at (set begins (labels - 1) (record { 0 = i })) n ≡ begin_of (last_labels (suc n) d) d
        by_place n h k (yes y) = elsewhere n (λ x. omega arith) ∙ f.whole n h y
        by_place n h k (no y) =
            let q : n ≡ labels - 1 = omega arith in
            ap (place_at (set begins (labels - 1) (record { 0 = i }))) q ∙ here ∙ begin_dot d (suc n) i z w o (omega arith)

-- at the start of the domain
pub all_found : (d : Domain) (t : Starts) → Found d t.begins t.labels.0 → t.labels.0 ≡ label_count d → t.rounds ≡ length d → Passes d t
all_found d t f e r = record {
  each = λ n h. by_place n h (dec_lt (suc n) t.labels.0);
  counts = e;
  once_over = r;
}
  where
    by_place : (n : ℕ) → n < 8 → Dec (suc n < t.labels.0) → place_at t.begins n ≡ begin_of (last_labels (suc n) d) d
    by_place n h (yes y) = f.whole n h y
    by_place n h (no y) = f.open_still n h (omega arith) ∙ begin_all d (suc n) (omega arith)

-- ------------------------------------------------------------------ the targets of a walk

-- by the places found
module _ (begins : List Octet) (n : ℕ) where
  pub by_none : n ≡ 0 → record { begin = record { 0 = 0 }; wider = record { 0 = 0 } } ≡ target_by begins n
  unfolding target_by target_placed
  by_none e = rw e

  pub by_all : 8 ≤ n → record { begin = record { 0 = 0 }; wider = record { 0 = 0 } } ≡ target_by begins n
  unfolding target_by target_placed
  by_all h = rw (le-leb 1 n (omega arith), lt-leb n 7 (omega arith))

  pub by_places : 0 < n → n < 8 → record { begin = get_or begins (n - 1) (record { 0 = 0 }); wider = get_or begins n (record { 0 = 0 }) } ≡ target_by begins n
  unfolding target_by target_placed
  by_places z h = rw (le-leb 1 n z, le-leb n 7 (omega arith))

module _ (d : Domain) (n : ℕ) (z : 0 < n) (h : n ≤ length (targets d)) where
  -- with fewer than eight labels left, a target is the last labels
  target_labels : n < 8 → target_of n d ≡ last_labels n d
  unfolding target_of
  target_labels e = go (dec_lt n (length (targets d)))
    where
      go : Dec (n < length (targets d)) → get_or (targets d) (length (targets d) - n) [] ≡ last_labels n d
      go (yes y) =
          let k : length (targets d) - (length (targets d) - n) ≡ n = omega arith in
          target_next d (length (targets d) - n) (omega arith) ∙ ap (λ (m : ℕ). last_labels m d) k
      go (no y) =
          let k : length (targets d) - n ≡ 0 = omega arith in
          ap (λ (m : ℕ). get_or (targets d) m []) k ∙ target_first d ∙ sym (last_all d n (omega (arith, target_count d)))

  -- with eight, it is the whole domain
  target_whole : 8 ≤ n → target_of n d ≡ d
  unfolding target_of
  target_whole e =
      let k : length (targets d) - n ≡ 0 = omega (arith, target_count d) in
      ap (λ (m : ℕ). get_or (targets d) m []) k ∙ target_first d

  -- the target found is that of the walk
  pub finds_target : (t : Starts) → Passes d t → Finds d (target_of n d) (target_by t.begins n)
  unfolding place_at
  finds_target t p = go (dec_lt n 8)
    where
      go : Dec (n < 8) → Finds d (target_of n d) (target_by t.begins n)
      go (yes e) = rw (target_labels e, ← by_places t.begins n z e) (record {
        here = let m : suc (n - 1) ≡ n = omega arith in p.each (n - 1) (omega arith) ∙ ap (λ (m : ℕ). begin_of (last_labels m d) d) m;
        wider = let m : suc n ≡ label_count (last_labels n d) + 1 = omega (arith, last_count n d z (omega (arith, target_count d))) in p.each n e ∙ ap (λ (m : ℕ). begin_of (last_labels m d) d) m;
      })
      go (no e) = rw (target_whole (omega arith), ← by_all t.begins n (omega arith)) (record {
        here = begins d d 0 (omega arith) refl;
        wider = begin_all d (label_count d + 1) (omega arith);
      })

pub targets_counted : (d : Domain) (t : Starts) → Passes d t → (n : ℕ) → n ≡ min 8 t.labels.0 → n ≡ length (targets d)
targets_counted d t p n e = omega (arith, target_count d, p.counts)
