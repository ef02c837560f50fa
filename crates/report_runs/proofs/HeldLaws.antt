-- Laws of what octets of a part have left.
use mathlib.Core.Path.{◌≡◌, refl, sym, ap, ◌∙◌}
use mathlib.Core.List.{List, [], ◌∷◌, ◌++◌}
use mathlib.Core.Bool.{Bool, true, false}
use Prim.Native.Nat.{ℕ, zero, suc, ◌+◌, ◌≤◌, ◌<◌}
use native.Mathlib.Omega.{arith}
use lib.ListN.{length, take, drop, get_or}
use Rattle.octets.specs.Octets.{Octets}
use Rattle.parsing.specs.Reads.{Reader, Fed, feed}
use Rattle.parsing.proofs.ReadsLaws.{after_rows, then_feed, feed_append}
use Rattle.report_form.specs.ReportForm.{Said}
use Rattle.report_kept.specs.declared.ReaderState.{ReaderState}
use Rattle.report_taken.specs.declared.Taken.{Taken}
use Rattle.report_taken.specs.code.Taking.{view, rows_by, Takes}
use Rattle.report_taken.proofs.TakeLaws.{feed_nothing}
use Rattle.report_runs.specs.code.Runs.{Held}

take_none : (k : ℕ) → [] ≡ take {A = ℕ} k []
take_none zero = refl
take_none (suc k) = refl

take_on : (s : Octets) (i k : ℕ) → take (i + k) s ≡ take i s ++ take k (drop i s)
take_on s zero k = let none : 0 + k ≡ k = omega arith in ap (λ n. take n s) none
take_on [] (suc i) k = sym (take_none (suc i + k)) ∙ take_none k
take_on (y ∷ s) (suc i) k = let one : suc i + k ≡ suc (i + k) = omega arith in ap (λ n. take n (y ∷ s)) one ∙ ap (λ l. y ∷ l) (take_on s i k)

take_one : (s : Octets) (i : ℕ) → i < length s → take 1 (drop i s) ≡ get_or s i 0 ∷ []
take_one [] i h = absurd (omega (arith, h))
take_one (y ∷ s) zero h = refl
take_one (y ∷ s) (suc i) h = take_one s i (omega (arith, h))

-- octets, and more behind them
pub fed_on : (v u w : Reader Said (Unit {0})) (part : Octets) (i k : ℕ) (rs : List Said) → feed v (take i part) ≡ record { rows = []; reader = u }
    → feed u (take k (drop i part)) ≡ record { rows = rs; reader = w } → feed v (take (i + k) part) ≡ record { rows = rs; reader = w }
unfolding then_feed after_rows
fed_on v u w part i k rs e f =
    ap (feed v) (take_on part i k)
    ∙ feed_append v (take i part) (take k (drop i part))
    ∙ ap (λ g. then_feed g (take k (drop i part))) e
    ∙ ap (after_rows []) f

pub held_first : (s : ReaderState) (part row : Octets) → Held s part row s row 0
held_first s part row l = (l, feed_nothing s row)

module _ (s : ReaderState) (part row : Octets) (t : ReaderState) (now : Octets) (i : ℕ) (held : Held s part row t now i) where
  -- a run more
  pub held_on : (u : ReaderState) (after : Octets) (k : ℕ) → Held t (drop i part) now u after k → Held s part row u after (i + k)
  held_on u after k more l =
      let (long, so_far) = held l in
      let (after_long, fed) = more long in
      (after_long, fed_on (view s row) (view t now) (view u after) part i k [] so_far fed)

  -- an octet more
  module _ (within : i < length part) (r : Taken) (after : Octets) (taken : Takes t (get_or part i 0) now r after) where
    pub fed_octet : length row ≡ 8432 → (length after ≡ 8432) × (feed (view s row) (take (i + 1) part) ≡ record { rows = rows_by r.gives r.state after; reader = view r.state after })
    fed_octet l =
        let (long, so_far) = held l in
        let (after_long, fed) = taken long in
        (after_long, fed_on (view s row) (view t now) (view r.state after) part i 1 (rows_by r.gives r.state after) so_far (ap (feed (view t now)) (take_one part i within) ∙ fed))

    pub held_octet : r.gives ≡ false → Held s part row r.state after (i + 1)
    unfolding rows_by
    held_octet e l =
        let (long, fed) = fed_octet l in
        (long, fed ∙ ap (λ b. record { rows = rows_by b r.state after; reader = view r.state after }) e)
