-- Which of 20 and 21 a refusal has.
use mathlib.Core.Path.{◌≡◌, refl, subst}
use mathlib.Core.List.{List, [], ◌∷◌, ◌++◌}
use mathlib.Core.Logic.{◌⊎◌, inl, inr}
use mathlib.Core.Bool.{true, ◌&&◌, not}
use Prim.Native.Nat.{ℕ, suc, ◌+◌, ◌-◌, ◌*◌, ◌^◌, ◌≤◌}
use native.Mathlib.Omega.{arith}
use lib.Dec.{leb}
use lib.ListN.{length, take, get_or}
use borrow.Author.Tests.{le-leb, leb-true}
use Rattle.octets.specs.Octets.{Octets, is_empty, all, same, lower}
use Rattle.octets.specs.declared.Refusal.{Refusal}
use Rattle.domain.specs.Domain.{Domain, is_domain}
use Rattle.reporting.specs.FileName.{good_id}
use Rattle.report.specs.Report.{Reporter, Line, good_texts}
use Rattle.parsing.specs.Reads.{stuck, run, feed}
use Rattle.report_form.specs.ReportForm.{Widths, widths, good_entry, good_lines, good_front, Writing, good, Begins}
use Rattle.report_form.specs.code.ReportReading.{apart, new_reader}
use Rattle.report_form.specs.ReportClaims.{EndBelow, BeginsWider}
use Rattle.parsing.proofs.ReadsClaimed.{reading}
use Rattle.report_form.proofs.TextBack.{both_true}
use Rattle.report_form.proofs.LiveLaws.{live_apart}
use Rattle.report_form.proofs.NumbersLaws.{sane_report}
use Rattle.report_form.proofs.EndLaws.{Below, end_stuck}
use Rattle.report_form.proofs.WiderLaws.{wider_apart, Which, wider_which}
use Rattle.report_form.proofs.LineLaws.{row_parts, row_good, entry_parts}
use Rattle.report_form.proofs.FormClaimed.{begun_begins, begins_begun}

-- ------------------------------------------------------------------ what is good is good with wider numbers

module _ (ws wide : Widths) (counts : ws.counts ≤ wide.counts) (times : ws.times ≤ wide.times) where
  wide_entry : (l : Line) → good_entry ws l ≡ true → good_entry wide l ≡ true
  unfolding good_entry
  wide_entry l e =
      let (a, b, c) = entry_parts ws l e in
      let (f, g, h) = row_parts ws l.row a in
      rw (row_good wide l.row f g (omega (arith, h, counts)), b, c)

  wide_entries : (ls : List Line) → all (good_entry ws) ls ≡ true → all (good_entry wide) ls ≡ true
  unfolding all
  wide_entries [] e = refl
  wide_entries (l ∷ ls) e = let (a, b) = both_true (good_entry ws l) (all (good_entry ws) ls) e in rw (wide_entry l a) (wide_entries ls b)

  wide_lines : (ls : List Line) → good_lines ws ls ≡ true → good_lines wide ls ≡ true
  unfolding good_lines
  wide_lines ls e = let (a, b) = both_true (not (is_empty ls) && leb (length ls) 256) (all (good_entry ws) ls) e in rw (a, wide_entries ls b)

  wide_front : (d : Domain) (by : Reporter) → good_front ws d by ≡ true → good_front wide d by ≡ true
  unfolding good_front
  wide_front d by e =
      let (f, end) = both_true (is_domain d && same (lower d) d && good_texts by.organization by.email by.contact && good_id by.id && leb by.begin ws.times) (leb by.end ws.times) e in
      let (g, begin) = both_true (is_domain d && same (lower d) d && good_texts by.organization by.email by.contact && good_id by.id) (leb by.begin ws.times) f in
      rw (
        g,
        le-leb by.begin wide.times (omega (arith, leb-true by.begin ws.times begin, times)),
        le-leb by.end wide.times (omega (arith, leb-true by.end ws.times end, times)),
      )

  wide_good : (w : Writing) → good ws w ≡ true → good wide w ≡ true
  unfolding good
  wide_good w e =
      let (a, b) = both_true (good_front ws w.domain w.reporter) (good_lines ws w.lines) e in
      rw (wide_front w.domain w.reporter a, wide_lines w.lines b)

  wide_begins : (s : Octets) → Begins ws s → Begins wide s
  wide_begins s b = (b.0, (b.1.0, wide_good b.1.0 b.1.1, b.1.2))

-- ------------------------------------------------------------------ which

-- wide enough for a digit more, and at least as wide as some widths
abbrev wider : Widths → Widths
wider ws = record { times = ws.times + ((2 ^ 64 - 1) * 10 + 9); counts = ws.counts + ((2 ^ 32 - 1) * 10 + 9) }

apart_which : (s : Octets) (q : Refusal) (ws : Widths) → (run 0 (apart widths) s).reader.left ≡ stuck q → Which (apart (wider ws)) s q.number q.place
unfolding apart
apart_which s q ws e =
    let (p, i, c) = wider_which (apart widths) (apart (wider ws)) 0 s q (wider_apart widths (wider ws) (omega arith) (omega arith)) (live_apart (wider ws) (omega arith) (omega arith)) (sane_report (λ n. (n ≡ 20) ⊎ (n ≡ 21)) (inl refl) (inr refl) widths (λ b e. true)) e in
    let same : p ≡ q.place = omega (arith, i) in
    subst (λ z. Which (apart (wider ws)) s q.number z) same c

pub number : (s : Octets) (q : Refusal) → (feed new_reader s).reader.left ≡ stuck q
    → ((q.number ≡ 20) × ((BeginsWider (take (suc q.place) s) → ⊥) ⊎ EndBelow s q.place)) ⊎ ((q.number ≡ 21) × (Begins widths (take (suc q.place) s) → ⊥) × BeginsWider (take (suc q.place) s))
unfolding feed new_reader Which
number s q e = go (end_stuck s q e)
  where
    go : ((run 0 (apart widths) s).reader.left ≡ stuck q) ⊎ ((q.number ≡ 20) × (p : ℕ) × (q.place ≡ 0 + p) × (get_or s p 0 ≡ 60) × Below ([] ++ take p s))
        → ((q.number ≡ 20) × ((BeginsWider (take (suc q.place) s) → ⊥) ⊎ EndBelow s q.place)) ⊎ ((q.number ≡ 21) × (Begins widths (take (suc q.place) s) → ⊥) × BeginsWider (take (suc q.place) s))
    go (inr (n, p, i, c, b)) =
        let same : p ≡ q.place = omega (arith, i) in
        let end : EndBelow s p = record { front = b.front; begin = b.begin; end = b.end; written = b.written; below = b.below; there = c } in
        inl (n, inr (subst (EndBelow s) same end))
    go (inl f) = by (apart_which s q widths f)
      where
        by : Which (apart (wider widths)) s q.number q.place → ((q.number ≡ 20) × ((BeginsWider (take (suc q.place) s) → ⊥) ⊎ EndBelow s q.place)) ⊎ ((q.number ≡ 21) × (Begins widths (take (suc q.place) s) → ⊥) × BeginsWider (take (suc q.place) s))
        by (inr (n, b)) = inr (n, (λ c. ((reading (apart widths) s).place (live_apart widths (omega arith) (omega arith)) q f).2 (begins_begun widths (take (suc q.place) s) c)), (wider widths, begun_begins (wider widths) (take (suc q.place) s) b))
        by (inl (n, b)) = inl (n, inl (λ h. never n h.0 h.1 (apart_which s q h.0 f)))
          where
            never : q.number ≡ 20 → (ws : Widths) → Begins ws (take (suc q.place) s) → Which (apart (wider ws)) s q.number q.place → ⊥
            never n ws h (inl (m, c)) = c (begins_begun (wider ws) (take (suc q.place) s) (wide_begins ws (wider ws) (omega arith) (omega arith) (take (suc q.place) s) h))
            never n ws h (inr (m, c)) = absurd (omega (arith, n, m))
