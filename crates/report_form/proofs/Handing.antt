-- When rows are handed out: each with the last octet of its record.
use mathlib.Core.Path.{◌≡◌, refl, sym, ap, ◌∙◌, subst}
use mathlib.Core.List.{List, [], ◌∷◌, ◌++◌, map, flatten, append_assoc}
use mathlib.Core.Bool.{Bool, true, false, false≢true}
use Prim.Native.Nat.{ℕ, zero, suc, ◌+◌, ◌-◌, ◌≤◌}
use native.Mathlib.Omega.{arith}
use lib.Dec.{leb}
use lib.ListN.{length, take, length-append}
use borrow.Author.Tests.{leb-true, leb-false}
use Rattle.std.specs.Prelude.{if◌then◌else◌}
use Rattle.octets.specs.Octets.{octets, is_empty, all}
use Rattle.report.specs.Report.{Line, record_element}
use Rattle.parsing.specs.Reads.{Reads, give, ◌>>=◌, run, feed}
use Rattle.parsing.proofs.SilentLaws.{Silent, silent_both, silent_bind, row_later, row_now, whole_quiet}
use Rattle.report_form.specs.ReportForm.{Widths, widths, Said, said, good_entry, Writing, text_of, good}
use Rattle.report_form.specs.code.ReportReading.{reading_row as row, records_from, report_by, reading_report as report, new_reader}
use Rattle.report_form.specs.ReportClaims.{front_of, ended_by, handed_by}
use Rattle.report_form.proofs.WordsTold.{more_text}
use Rattle.report_form.proofs.RowTold.{Told, GoodTold, told_said, row_text, record_piece, record_text, row_into, records_text, AllTold, head, branch, records_suc, head_into, record_open, records_into}
use Rattle.report_form.proofs.TextBack.{both_true}
use Rattle.report_form.proofs.LineLaws.{told_of, line_written, line_said}
use Rattle.report_form.proofs.ReportTold.{Head, GoodHead, report_piece, front_piece, front_is}
use Rattle.report_form.proofs.FrontLaws.{silent_front, below_quiet}
use Rattle.report_form.proofs.WritingLaws.{head_of, writing_text, front_text, lines_good, lines_length, Parts, good_parts, front_good}

unfoldable listed : {A : Type 0} → Bool → List A → List A
listed true xs = xs
listed false xs = []

ended_as : (n at : ℕ) (l : Line) (ls : List Line) (c : Bool) → leb (at + length (record_element l)) n ≡ c → map said (ended_by n at (l ∷ ls)) ≡ map said (listed c (l ∷ ended_by n (at + length (record_element l)) ls))
unfolding ended_by listed
ended_as n at l ls true e = rw (e, ended_by)
ended_as n at l ls false e = rw (e, ended_by)

module _ (ws : Widths) where
  -- ------------------------------------------------------------------ a record

  silent_row : (x : Told ws) (u : Reads Said (Unit {0})) → GoodTold ws x → Silent (row ws >>= (λ r. give r u)) (row_text ws x) (give (told_said ws x) u)
  silent_row x u g = silent_bind (row ws) (λ r. give r u) (row_text ws x) (told_said ws x) (row_into ws x g)

  silent_first : (judged : ℕ → ℕ → Bool) (h : Head ws) (x : Told ws) → GoodHead ws judged h → GoodTold ws x → Silent (report_by ws judged) (front_piece ws h ++ record_piece ws x) (give (told_said ws x) (records_from ws 255))
  silent_first judged h x g gx =
      subst (λ s. Silent (report_by ws judged) s (give (told_said ws x) (records_from ws 255)))
      (ap (λ z. z ++ row_text ws x) (front_is ws h) ∙ append_assoc (front_piece ws h) (octets "<record>") (row_text ws x) ∙ ap (λ z. front_piece ws h ++ z) (record_text ws x))
      (silent_both _ _ _ _ _ (silent_front ws judged h g) (silent_row x (records_from ws 255) gx))

  silent_next : (n : ℕ) (x : Told ws) → GoodTold ws x → Silent (records_from ws (suc n)) (record_piece ws x) (give (told_said ws x) (records_from ws n))
  unfolding branch more_text
  silent_next n x g =
      subst (λ s. Silent (records_from ws (suc n)) s (give (told_said ws x) (records_from ws n))) (ap (λ z. z ++ row_text ws x) (record_open ws) ∙ record_text ws x)
      (subst (λ t. Silent t ((octets "<" ++ octets "record>") ++ row_text ws x) (give (told_said ws x) (records_from ws n))) (sym (records_suc ws n))
      (silent_both _ _ _ _ _ (silent_bind (head ws) (branch ws n) (octets "<" ++ octets "record>") true (head_into ws true)) (silent_row x (records_from ws n) g)))

  -- ------------------------------------------------------------------ all of them

  -- those whose records end by a place
  unfoldable pub by : (place at : ℕ) → List (Told ws) → List (Told ws)
  by n at [] = []
  by n at (x ∷ xs) = elim (leb (at + length (record_piece ws x)) n) [ true ↦ x ∷ by n (at + length (record_piece ws x)) xs | false ↦ [] ]

  by_later : (n at : ℕ) (x : Told ws) (xs : List (Told ws)) → leb (at + length (record_piece ws x)) n ≡ false → by n at (x ∷ xs) ≡ []
  unfolding by
  by_later n at x xs e = rw (e, by)

  by_now : (n at : ℕ) (x : Told ws) (xs : List (Told ws)) → leb (at + length (record_piece ws x)) n ≡ true → by n at (x ∷ xs) ≡ x ∷ by n (at + length (record_piece ws x)) xs
  unfolding by
  by_now n at x xs e = rw (e, by)

  records_more : (x : Told ws) (xs : List (Told ws)) → records_text ws (x ∷ xs) ≡ record_piece ws x ++ records_text ws xs
  unfolding records_text flatten
  records_more x xs = append_assoc (record_piece ws x) (flatten (map (record_piece ws) xs)) (octets "</feedback>")

  rows_by : (m : ℕ) (xs : List (Told ws)) → AllTold ws xs → length xs ≤ m → (n at k : ℕ) → at ≤ n → (run k (records_from ws m) (take (n - at) (records_text ws xs))).rows ≡ map (told_said ws) (by n at xs)
  unfolding AllTold by
  rows_by m [] g l n at k h = whole_quiet (records_from ws m) (records_text ws []) tt (records_into ws m [] tt (omega arith)) k (n - at)
  rows_by zero (x ∷ xs) g l n at k h = absurd (omega (arith, l))
  rows_by (suc m) (x ∷ xs) g l n at k h = ap (λ s. (run k (records_from ws (suc m)) (take (n - at) s)).rows) (records_more x xs) ∙ go (leb (at + length (record_piece ws x)) n) refl (λ i j f. rows_by m xs g.1 (omega (arith, l)) n i j f)
    where
      go : (b : Bool) → leb (at + length (record_piece ws x)) n ≡ b → ((i j : ℕ) → i ≤ n → (run j (records_from ws m) (take (n - i) (records_text ws xs))).rows ≡ map (told_said ws) (by n i xs)) → (run k (records_from ws (suc m)) (take (n - at) (record_piece ws x ++ records_text ws xs))).rows ≡ map (told_said ws) (by n at (x ∷ xs))
      go false e more =
          let f = leb-false (at + length (record_piece ws x)) n e in
          row_later (records_from ws (suc m)) (records_from ws m) (told_said ws x) (record_piece ws x) (records_text ws xs) (silent_next m x g.0) k (n - at) (omega (arith, f, h)) ∙ ap (map (told_said ws)) (sym (by_later n at x xs e))
      go true e more =
          let f = leb-true (at + length (record_piece ws x)) n e in
          let same : n - at - length (record_piece ws x) ≡ n - (at + length (record_piece ws x)) = omega (arith, f, h) in
          row_now (records_from ws (suc m)) (records_from ws m) (told_said ws x) (record_piece ws x) (records_text ws xs) (silent_next m x g.0) k (n - at) (omega (arith, f, h))
          ∙ ap (λ z. told_said ws x ∷ (run (k + length (record_piece ws x)) (records_from ws m) (take z (records_text ws xs))).rows) same
          ∙ ap (λ z. told_said ws x ∷ z) (more (at + length (record_piece ws x)) (k + length (record_piece ws x)) f)
          ∙ ap (map (told_said ws)) (sym (by_now n at x xs e))

  pub told_by : (judged : ℕ → ℕ → Bool) (h : Head ws) (x : Told ws) (xs : List (Told ws)) → GoodHead ws judged h → GoodTold ws x → AllTold ws xs → length xs ≤ 255 → (n : ℕ)
      → (run 0 (report_by ws judged) (take n ((front_piece ws h ++ record_piece ws x) ++ records_text ws xs))).rows ≡ map (told_said ws) (by n (length (front_piece ws h)) (x ∷ xs))
  unfolding AllTold
  told_by judged h x xs g gx gs l n = go (leb (length (front_piece ws h) + length (record_piece ws x)) n) refl
    where
      long : length (front_piece ws h ++ record_piece ws x) ≡ length (front_piece ws h) + length (record_piece ws x)
      long = length-append (front_piece ws h) (record_piece ws x)

      go : (b : Bool) → leb (length (front_piece ws h) + length (record_piece ws x)) n ≡ b
          → (run 0 (report_by ws judged) (take n ((front_piece ws h ++ record_piece ws x) ++ records_text ws xs))).rows ≡ map (told_said ws) (by n (length (front_piece ws h)) (x ∷ xs))
      go false e =
          let f = leb-false (length (front_piece ws h) + length (record_piece ws x)) n e in
          row_later (report_by ws judged) (records_from ws 255) (told_said ws x) (front_piece ws h ++ record_piece ws x) (records_text ws xs) (silent_first judged h x g gx) 0 n (omega (arith, f, long)) ∙ ap (map (told_said ws)) (sym (by_later n (length (front_piece ws h)) x xs e))
      go true e =
          let f = leb-true (length (front_piece ws h) + length (record_piece ws x)) n e in
          row_now (report_by ws judged) (records_from ws 255) (told_said ws x) (front_piece ws h ++ record_piece ws x) (records_text ws xs) (silent_first judged h x g gx) 0 n (omega (arith, f, long))
          ∙ ap (λ z. told_said ws x ∷ (run (0 + length (front_piece ws h ++ record_piece ws x)) (records_from ws 255) (take (n - z) (records_text ws xs))).rows) long
          ∙ ap (λ z. told_said ws x ∷ z) (rows_by 255 xs gs l n (length (front_piece ws h) + length (record_piece ws x)) (0 + length (front_piece ws h ++ record_piece ws x)) f)
          ∙ ap (map (told_said ws)) (sym (by_now n (length (front_piece ws h)) x xs e))

  -- ------------------------------------------------------------------ by lines

  lines_by : (ls : List Line) → all (good_entry ws) ls ≡ true → (n at : ℕ) → map said (ended_by n at ls) ≡ map (told_said ws) (by n at (map (told_of ws) ls))
  unfolding all ended_by by listed
  lines_by [] e n at = refl
  lines_by (l ∷ ls) e n at =
      let (a, b) = both_true (good_entry ws l) (all (good_entry ws) ls) e in
      go (leb (at + length (record_element l)) n) refl a (λ i. lines_by ls b n i)
    where
      go : (c : Bool) → leb (at + length (record_element l)) n ≡ c → good_entry ws l ≡ true → ((i : ℕ) → map said (ended_by n i ls) ≡ map (told_said ws) (by n i (map (told_of ws) ls)))
          → map said (ended_by n at (l ∷ ls)) ≡ map (told_said ws) (by n at (told_of ws l ∷ map (told_of ws) ls))
      go c f a more = ended_as n at l ls c f ∙ pick c ∙ sym (ap (map (told_said ws)) (by_as c (ap (λ k. leb (at + k) n) (sym size) ∙ f)))
        where
          size : length (record_element l) ≡ length (record_piece ws (told_of ws l))
          size = ap length (line_written ws l a)

          by_as : (c : Bool) → leb (at + length (record_piece ws (told_of ws l))) n ≡ c → by n at (told_of ws l ∷ map (told_of ws) ls) ≡ listed c (told_of ws l ∷ by n (at + length (record_piece ws (told_of ws l))) (map (told_of ws) ls))
          by_as true g = by_now n at (told_of ws l) (map (told_of ws) ls) g
          by_as false g = by_later n at (told_of ws l) (map (told_of ws) ls) g

          pick : (c : Bool) → map said (listed c (l ∷ ended_by n (at + length (record_element l)) ls)) ≡ map (told_said ws) (listed c (told_of ws l ∷ by n (at + length (record_piece ws (told_of ws l))) (map (told_of ws) ls)))
          pick false = refl
          pick true = (λ j. line_said ws l a j ∷ more (at + length (record_element l)) j) ∙ ap (λ k. told_said ws (told_of ws l) ∷ map (told_said ws) (by n (at + k) (map (told_of ws) ls))) size

  -- ------------------------------------------------------------------ of a writing

  pieces_as : (h : Head ws) (x : Told ws) (xs : List (Told ws)) → report_piece ws h (x ∷ xs) ≡ (front_piece ws h ++ record_piece ws x) ++ records_text ws xs
  unfolding report_piece records_text flatten
  pieces_as h x xs =
      let front = front_piece ws h in
      let rest = flatten (map (record_piece ws) xs) in
      ap (λ z. z ++ octets "</feedback>") (sym (append_assoc front (record_piece ws x) rest)) ∙ append_assoc (front ++ record_piece ws x) rest (octets "</feedback>")

  pub writing_by : (judged : ℕ → ℕ → Bool) (w : Writing) → good ws w ≡ true → judged w.reporter.begin w.reporter.end ≡ true → (n : ℕ)
      → (run 0 (report_by ws judged) (take n (text_of w))).rows ≡ map said (ended_by n (length (front_of w)) w.lines)
  unfolding AllTold
  writing_by judged w g o n = go w.lines refl
    where
      p : Parts ws w
      p = good_parts ws w g

      go : (ls : List Line) → w.lines ≡ ls → (run 0 (report_by ws judged) (take n (text_of w))).rows ≡ map said (ended_by n (length (front_of w)) w.lines)
      go [] e = absurd (false≢true (sym p.some ∙ ap is_empty e))
      go (l ∷ ls) e =
          let told : map (told_of ws) w.lines ≡ told_of ws l ∷ map (told_of ws) ls = ap (map (told_of ws)) e in
          let goods : AllTold ws (told_of ws l ∷ map (told_of ws) ls) = subst (AllTold ws) told (lines_good ws w.lines p.entries) in
          let few : length (map (told_of ws) ls) ≤ 255 = omega (arith, p.few, ap length e, lines_length ws ls) in
          let text : text_of w ≡ (front_piece ws (head_of ws w) ++ record_piece ws (told_of ws l)) ++ records_text ws (map (told_of ws) ls)
          = writing_text ws w p.entries ∙ ap (report_piece ws (head_of ws w)) told ∙ pieces_as (head_of ws w) (told_of ws l) (map (told_of ws) ls) in
          ap (λ s. (run 0 (report_by ws judged) (take n s)).rows) text
          ∙ told_by judged (head_of ws w) (told_of ws l) (map (told_of ws) ls) (front_good ws judged w p.front o) goods.0 goods.1 few n
          ∙ (λ j. map (told_said ws) (by n (length (sym (front_text ws w) j)) (sym told j)))
          ∙ sym (lines_by w.lines p.entries n (length (front_of w)))

-- "Each row is handed out when its record ends"
pub handed_out : (w : Writing) → good widths w ≡ true → (n : ℕ) → (feed new_reader (take n (text_of w))).rows ≡ map said (handed_by n w)
unfolding feed new_reader report handed_by
handed_out w g n = go (leb w.reporter.begin w.reporter.end) refl
  where
    go : (b : Bool) → leb w.reporter.begin w.reporter.end ≡ b → (run 0 report (take n (text_of w))).rows ≡ map said (if b then ended_by n (length (front_of w)) w.lines else [])
    go true e = writing_by widths leb w g e n
    go false e = below_quiet w g (leb-false w.reporter.begin w.reporter.end e) n
