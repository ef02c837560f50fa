-- Laws of rows and sets as they are judged, one after the other.
use mathlib.Core.Path.{◌≡◌, refl, sym, ◌∙◌}
use mathlib.Core.List.{[], ◌∷◌}
use mathlib.Core.Bool.{Bool, true, false, ◌&&◌, not}
use Prim.Native.Nat.{ℕ, zero, suc, ◌-◌, ◌≤◌, ◌<◌}
use native.Mathlib.Omega.{arith}
use lib.ListN.{length, drop}
use borrow.Author.Tests.{eq-eqb, ne_eqb, not-true, not-false}
use Rattle.octets.specs.Octets.{Octets, all, is_nothing}
use Rattle.octets.specs.Framing.{after_record}
use Rattle.rows.specs.declared.Row.{Row}
use Rattle.rows.specs.Lists.{Lists, Reported, reported, body_or_empty, first_body, set_most, set_in, named_by}
use Rattle.rows.specs.Rows.{is_free}
use Rattle.rows_named.proofs.NamingLaws.{set_step}
use Rattle.report.specs.Report.{good_line}
use Rattle.rows_gather.specs.code.Gathered.{number_from, row_of, rows_of}
use Rattle.report_rows.specs.code.Lines.{line_of}
use Rattle.report_judge.specs.declared.Test.{Test}
use Rattle.report_judge.specs.code.Judging.{is_named, counted_passes, passes_test}

-- ------------------------------------------------------------------ a set

set_all : (f : Reported → Bool) (x : ℕ) (t : Octets) → all f (set_in (x ∷ t)) ≡ (f (reported (body_or_empty (first_body (x ∷ t)))) && all f (set_in (after_record (x ∷ t))))
unfolding all
set_all f x t = rw (set_step x t)

module _ (f : Reported → Bool) where
  pub set_stops : (t : Octets) {body : Octets} {good : Bool} → 0 < length t → body ≡ body_or_empty (first_body t) → good ≡ f (reported body) → not good ≡ true → false ≡ all f (set_in t)
  set_stops [] h e g n = absurd (omega (arith, h))
  set_stops (x ∷ t) {body} {good} h e g n = sym (set_all f x t ∙ rw (← e, sym g ∙ not-true good n))

  pub set_on : (t : Octets) {body rest : Octets} {good : Bool} → 0 < length t → body ≡ body_or_empty (first_body t) → good ≡ f (reported body) → not good ≡ false → rest ≡ after_record t → all f (set_in t) ≡ all f (set_in rest)
  set_on [] h e g n r = absurd (omega (arith, h))
  set_on (x ∷ t) {body} {rest} {good} h e g n r = set_all f x t ∙ rw (← e, sym g ∙ not-false good n, r)

  pub set_ends : (t : Octets) → length t ≤ 0 → true ≡ all f (set_in t)
  unfolding all set_in set_most
  set_ends [] h = refl
  set_ends (x ∷ t) h = absurd (omega (arith, h))

-- ------------------------------------------------------------------ a row

module _ (l : Lists) (row : Octets) where
  module _ (test : Test) {count : ℕ} (c : count ≡ number_from (drop 28 row)) where
    pub row_free : count ≡ 0 → true ≡ passes_test test l (row_of row)
    unfolding passes_test is_free row_of
    row_free e = rw (eq-eqb (number_from (drop 28 row)) 0 (sym c ∙ e))

    module _ (n : count ≡ 0 → ⊥) where
      counts : is_free (row_of row) ≡ false
      unfolding is_free row_of
      counts = ne_eqb (number_from (drop 28 row)) 0 (λ z. n (c ∙ z))

      pub row_counts : test ≡ Test.Free → false ≡ passes_test test l (row_of row)
      unfolding passes_test counted_passes
      row_counts e = rw (e, counts)

      pub row_named : test ≡ Test.Named → {a s : ℕ} {r : Bool} → a ≡ number_from (drop 20 row) → s ≡ number_from (drop 24 row) → r ≡ not (is_nothing (named_by l a s)) → r ≡ passes_test test l (row_of row)
      unfolding passes_test counted_passes is_named row_of
      row_named e f g h = h ∙ rw (e, counts, f, g)

      pub row_line : test ≡ Test.Ruled → {r : Bool} → r ≡ good_line (line_of l (row_of row)) → r ≡ passes_test test l (row_of row)
      unfolding passes_test counted_passes
      row_line e h = h ∙ rw (e, counts)

-- ------------------------------------------------------------------ rows

module _ (f : Row → Bool) (n : ℕ) (t : Octets) where
  pub rows_stop : {good : Bool} → 0 < n → good ≡ f (row_of t) → not good ≡ true → false ≡ all f (rows_of n t)
  unfolding all rows_of
  rows_stop {good} h e g = go n h
    where
      go : (n : ℕ) → 0 < n → false ≡ all f (rows_of n t)
      go zero h = absurd (omega (arith, h))
      go (suc n) h = rw (sym e ∙ not-true good g)

  pub rows_on : {good : Bool} {rest : Octets} → 0 < n → good ≡ f (row_of t) → not good ≡ false → rest ≡ drop 32 t → all f (rows_of n t) ≡ all f (rows_of (n - 1) rest)
  unfolding all rows_of
  rows_on {good} {rest} h e g r = go n h
    where
      go : (n : ℕ) → 0 < n → all f (rows_of n t) ≡ all f (rows_of (n - 1) rest)
      go zero h = absurd (omega (arith, h))
      go (suc n) h = let one : suc n - 1 ≡ n = omega arith in rw (sym e ∙ not-false good g, one, r)

  pub rows_end : n ≤ 0 → true ≡ all f (rows_of n t)
  unfolding all rows_of
  rows_end h = go n h
    where
      go : (n : ℕ) → n ≤ 0 → true ≡ all f (rows_of n t)
      go zero h = refl
      go (suc n) h = absurd (omega (arith, h))
