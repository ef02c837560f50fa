-- Laws of a reader's beginning, its parts and its end.
use mathlib.Core.Path.{◌≡◌, refl, sym, ap, ◌∙◌, subst}
use mathlib.Core.List.{List, [], ◌∷◌, ◌++◌, flatten}
use mathlib.Core.Bool.{Bool, true, false, false≢true}
use Prim.Native.Nat.{ℕ, zero, suc, ◌+◌, ◌-◌, ◌≤◌, ◌<◌}
use native.Mathlib.Omega.{arith}
use lib.Dec.{eqb}
use lib.ListN.{length, take, drop, get_or, length-drop}
use borrow.Author.Tests.{eq-eqb, ne_eqb}
use Rattle.std.specs.Prelude.{if◌then◌else◌}
use Rattle.octets.specs.Octets.{Octets, between}
use Rattle.octets.specs.Refusing.{ok, not_ok, refusal}
use Rattle.parsing.specs.Reads.{Reads, done, give, next, open_at, stuck, Reader, Fed, feed, ended, closed}
use Rattle.parsing_steps.specs.Stepping.{takes}
use Rattle.parsing_limit.specs.Limits.{at_most, limited_left, limited}
use Rattle.report_form.specs.ReportForm.{Said}
use Rattle.report_form.specs.code.ReportReading.{reading_report, new_reader}
use Rattle.report_states.specs.Standing.{nodes, node_of, from, from_literal}
use Rattle.report_states.proofs.ChainLaws.{report_chain}
use Rattle.report_kept.specs.declared.ReaderState.{ReaderState}
use Rattle.report_kept.specs.code.View.{known_of, within_identifier, is_broken, left_in, arrived}
use Rattle.report_kept.proofs.ArriveLaws.{lands}
use Rattle.report_taken.specs.declared.Taken.{Taken}
use Rattle.report_taken.specs.code.Taking.{largest, left_of, counting, view, rows_by, Takes, stopped}
use Rattle.report_taken.proofs.ReadyLaws.{takes_left, left_last}
use Rattle.report_taken.proofs.TakeLaws.{view_open, view_stuck, feed_nothing}
use Rattle.report_runs.specs.declared.Run.{Run}
use Rattle.report_runs.specs.code.Runs.{Held, IsTable, AdvancesBy}
use Rattle.report_runs.proofs.HeldLaws.{fed_on, fed_octet}
use Rattle.report_reader.specs.declared.Progress.{Progress}
use Rattle.report_reader.specs.code.Reading.{TakesSome, ReadsOn, ReadsPart, Begins, end_of, Ends, fresh}

-- ------------------------------------------------------------------ a part, octet by octet

pub take_all : (s : Octets) (i : ℕ) → length s ≤ i → take i s ≡ s
take_all [] zero h = refl
take_all [] (suc i) h = refl
take_all (y ∷ s) zero h = absurd (omega (arith, h))
take_all (y ∷ s) (suc i) h = ap (λ l. y ∷ l) (take_all s i (omega (arith, h)))

-- a run, and an octet behind it
module _ (all : Octets) (begins : List ℕ) (s : ReaderState) (rest row : Octets) (r : Run) (now : Octets) (on : AdvancesBy all begins s rest row r now) where
  pub some_run : (0 < length rest → 0 < r.used) → TakesSome all begins s rest row (record { gives = false; used = r.used; state = r.state }) now
  unfolding rows_by
  some_run some table = ((on table).0, some, (on table).1)

  pub some_octet : r.used < length rest → (t : Taken) (after : Octets) → Takes r.state (get_or rest r.used 0) now t after
      → TakesSome all begins s rest row (record { gives = t.gives; used = r.used + 1; state = t.state }) after
  some_octet within t after taken table = (omega (arith, within), (λ some. omega arith), fed_octet s rest row r.state now r.used (on table).1 within t after taken)

module _ (s : ReaderState) (part row : Octets) (t : ReaderState) (now : Octets) (i : ℕ) (held : Held s part row t now i) where
  -- more octets of the part
  module _ (within : i < length part) (all : Octets) (begins : List ℕ) (rest : Octets) (r : Progress) (after : Octets) (same : rest ≡ drop i part)
      (takes : TakesSome all begins t rest now r after) (table : IsTable all begins)
    where
      left_of_it : length rest ≡ length part - i
      left_of_it = ap length same ∙ length-drop i part

      pub some_within : i + r.used ≤ length part
      some_within = let few = (takes table).0 in let long = left_of_it in omega (arith, few, long, within)

      pub some_more : i < i + r.used
      some_more = let some = (takes table).1 (let long = left_of_it in omega (arith, long, within)) in omega (arith, some)

      fed_more : length row ≡ 8432
          → (length after ≡ 8432) × (feed (view s row) (take (i + r.used) part) ≡ record { rows = rows_by r.gives r.state after; reader = view r.state after })
      fed_more l =
          let (long, so_far) = held l in
          let (after_long, fed) = (takes table).2 long in
          (after_long, fed_on (view s row) (view t now) (view r.state after) part i r.used (rows_by r.gives r.state after) so_far (ap (λ (u : Octets). feed (view t now) (take r.used u)) (sym same) ∙ fed))

      pub held_more : r.gives ≡ false → Held s part row r.state after (i + r.used)
      unfolding rows_by
      held_more e l =
          let (long, fed) = fed_more l in
          (long, fed ∙ ap (λ b. record { rows = rows_by b r.state after; reader = view r.state after }) e)

      pub reads_row : r.gives ≡ true → ReadsPart s part row (record { gives = true; used = i + r.used; state = r.state }) after
      reads_row e l =
          let (long, fed) = fed_more l in
          record {
            long = long;
            within = some_within;
            fed = fed ∙ ap (λ b. record { rows = rows_by b r.state after; reader = view r.state after }) e;
            whole = λ q. absurd (false≢true (sym q));
          }

  pub reads_whole : (n : ℕ) → n ≡ length part → i ≡ n → ReadsPart s part row (record { gives = false; used = n; state = t }) now
  unfolding rows_by
  reads_whole n e f l =
      let (long, fed) = held l in
      record { long = long; within = omega (arith, e); fed = ap (λ k. feed (view s row) (take k part)) (sym f) ∙ fed; whole = λ q. e }

-- ------------------------------------------------------------------ the beginning

module _ (row : Octets) where
  fresh_left : left_in fresh row ≡ reading_report
  unfolding fresh arrived node_of nodes from from_literal is_broken within_identifier between known_of
  fresh_left = lands 0 fresh row refl (λ q. omega (arith, q)) ∙ sym (report_chain (known_of fresh row) refl)

  pub begins : view fresh row ≡ limited largest new_reader
  unfolding view counting left_of fresh new_reader
  begins = ap (λ t. limited largest (record { taken = 0; left = open_at t })) fresh_left

-- ------------------------------------------------------------------ the end

module _ (s : ReaderState) where
  pub ends_stuck : (s.refused ≡ 0 → ⊥) → Ends s s
  unfolding ended closed end_of
  ends_stuck h row =
      let e = view_stuck s row h in (
        ap ended e ∙ sym (ap (λ b. if b then ok tt else not_ok (refusal s.refused s.taken)) (ne_eqb s.refused 0 h)),
        ap closed e ∙ sym e,
      )

  pub ends_well : s.refused ≡ 0 → 65 ≤ s.node → Ends s s
  unfolding ended closed end_of at_most
  ends_well z h row =
      let e = view_open s row z ∙ ap (λ t. record { taken = s.taken; left = open_at (at_most (largest - s.taken) t) }) (left_last s row h) in (
        ap ended e ∙ sym (ap (λ b. if b then ok tt else not_ok (refusal s.refused s.taken)) (eq-eqb s.refused 0 z)),
        ap closed e ∙ sym e,
      )

  open_early : (n k : ℕ) (t : Reads Said (Unit {0})) → takes t ≡ true → ended (record { taken = k; left = open_at (at_most n t) }) ≡ not_ok (refusal 22 k)
  unfolding takes ended at_most
  open_early n k (done a) q = absurd (false≢true q)
  open_early n k (give r t) q = absurd (false≢true q)
  open_early zero k (next f g) q = refl
  open_early (suc n) k (next f g) q = refl

  closed_early : (n k : ℕ) (t : Reads Said (Unit {0})) → takes t ≡ true
      → closed (record { taken = k; left = open_at (at_most n t) }) ≡ record { taken = k; left = stuck (refusal 22 k) }
  unfolding takes ended closed at_most
  closed_early n k (done a) q = absurd (false≢true q)
  closed_early n k (give r t) q = absurd (false≢true q)
  closed_early zero k (next f g) q = refl
  closed_early (suc n) k (next f g) q = refl

  told_early : end_of (stopped 22 s) ≡ not_ok (refusal 22 s.taken)
  unfolding end_of stopped
  told_early = refl

  stuck_early : (row : Octets) → view (stopped 22 s) row ≡ record { taken = s.taken; left = stuck (refusal 22 s.taken) }
  unfolding view limited counting left_of limited_left stopped
  stuck_early row = refl

  early : s.refused ≡ 0 → s.node < 65 → Ends s (stopped 22 s)
  early z h row = (
    ap ended (view_open s row z) ∙ open_early (largest - s.taken) s.taken (left_in s row) (takes_left s row h) ∙ sym told_early,
    ap closed (view_open s row z) ∙ closed_early (largest - s.taken) s.taken (left_in s row) (takes_left s row h) ∙ sym (stuck_early row),
  )

  pub ends_early : (r : ReaderState) → r ≡ stopped 22 s → s.refused ≡ 0 → s.node < 65 → Ends s r
  ends_early r q z h = subst (Ends s) (sym q) (early z h)
