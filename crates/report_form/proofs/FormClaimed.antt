-- What the program reads whole is the form, with its rows.
use mathlib.Core.Path.{◌≡◌, refl, sym, ap, ◌∙◌, subst}
use mathlib.Core.List.{List, [], ◌∷◌, ◌++◌, map}
use mathlib.Core.Logic.{◌⊎◌, inl, inr}
use mathlib.Core.Bool.{Bool, true, false≢true}
use Prim.Native.Nat.{ℕ, suc, ◌≤◌}
use native.Mathlib.Omega.{arith}
use lib.Dec.{leb}
use lib.ListN.{length, take}
use borrow.Author.Tests.{leb-true, le-leb}
use Rattle.octets.specs.Octets.{Octets, is_empty}
use Rattle.octets.specs.Refusing.{ok, not_ok, refusal}
use Rattle.octets.specs.declared.Refusal.{Refusal}
use Rattle.report.specs.Report.{Line}
use Rattle.parsing.specs.Reads.{Reads, done, give, next, open_at, stuck, Reader, run, feed, ended}
use Rattle.parsing.specs.code.Whole.{Whole, Begun}
use Rattle.report_form.specs.ReportForm.{Widths, widths, Said, said, Writing, text_of, good, Form, Begins}
use Rattle.report_form.specs.code.ReportReading.{report_by, apart, reading_report as report, new_reader, read_report}
use Rattle.report_form.specs.ReportClaims.{EndBelow}
use Rattle.parsing.proofs.ReadsClaimed.{reading, End, at_done, at_stuck, at_open, end_of, ended_done, live_open, run_whole}
use Rattle.parsing.proofs.RefusingLaws.{ok≢not-ok, refused_injective}
use Rattle.report_form.proofs.LiveLaws.{live_apart}
use Rattle.report_form.proofs.ApartLaws.{Stricter, stricter_report}
use Rattle.report_form.proofs.NumbersLaws.{sane_report, stuck_number, open_injective, strict_open}
use Rattle.report_form.proofs.EndLaws.{end_place}
use Rattle.report_form.proofs.RowTold.{told_said, AllTold}
use Rattle.report_form.proofs.ReportTold.{report_piece, report_into, report_back}
use Rattle.report_form.proofs.LineLaws.{told_of}
use Rattle.report_form.proofs.WritingLaws.{head_of, writing_text, lines_said, lines_good, lines_length, Parts, good_parts, front_good, writing_of, again_text, again_said, again_good}

module _ (ws : Widths) where
  module _ (judged : ℕ → ℕ → Bool) where
    pub whole_writing : (w : Writing) → (good ws) w ≡ true → judged w.reporter.begin w.reporter.end ≡ true → Whole ((report_by ws) judged) (text_of w) (map said w.lines) tt
    unfolding AllTold
    whole_writing w g o = go w.lines refl
      where
        p : (Parts ws) w
        p = (good_parts ws) w g

        go : (ls : List Line) → w.lines ≡ ls → Whole ((report_by ws) judged) (text_of w) (map said w.lines) tt
        go [] e = absurd (false≢true (sym p.some ∙ ap is_empty e))
        go (l ∷ ls) e =
            let told : map (told_of ws) w.lines ≡ (told_of ws) l ∷ map (told_of ws) ls = ap (map (told_of ws)) e in
            let goods : (AllTold ws) ((told_of ws) l ∷ map (told_of ws) ls) = subst (AllTold ws) told ((lines_good ws) w.lines p.entries) in
            let few : length (map (told_of ws) ls) ≤ 255 = omega (arith, p.few, ap length e, (lines_length ws) ls) in
            let into = (report_into ws) judged ((head_of ws) w) ((told_of ws) l) (map (told_of ws) ls) ((front_good ws) judged w p.front o) goods.0 goods.1 few in
            subst (λ q. Whole ((report_by ws) judged) (text_of w) q tt) (ap (map (told_said ws)) (sym told) ∙ sym ((lines_said ws) w.lines p.entries))
            (subst (λ s. Whole ((report_by ws) judged) s (map (told_said ws) ((told_of ws) l ∷ map (told_of ws) ls)) tt) (ap ((report_piece ws) ((head_of ws) w)) (sym told) ∙ sym ((writing_text ws) w p.entries)) into)

    pub writing_whole : (s : Octets) (rows : List Said) → Whole ((report_by ws) judged) s rows tt
        → (w : Writing) × ((good ws) w ≡ true) × (judged w.reporter.begin w.reporter.end ≡ true) × (text_of w ≡ s) × (map said w.lines ≡ rows)
    unfolding writing_of AllTold
    writing_whole s rows v =
        let r = (report_back ws) judged s rows tt v in
        let xs = r.first ∷ r.others in (
          (writing_of ws) r.head xs,
          (again_good ws) judged r.head r.first r.others r.good_head r.good_first r.good_others r.few,
          r.good_head.in_order,
          (again_text ws) r.head xs (r.good_first, r.good_others) ∙ sym r.is,
          (again_said ws) r.head xs (r.good_first, r.good_others) ∙ sym r.said,
        )

  -- begin and end judged apart, the program reads the form
  pub form_whole : (s : Octets) → (Form ws) s → (rows : List Said) × Whole (apart ws) s rows tt
  unfolding apart
  form_whole s f = (map said f.0.lines, subst (λ z. Whole (apart ws) z (map said f.0.lines) tt) f.2 (whole_writing (λ b e. true) f.0 f.1 refl))

  pub whole_form : (s : Octets) (rows : List Said) → Whole (apart ws) s rows tt → (Form ws) s
  unfolding apart
  whole_form s rows w = let (v, g, o, t, r) = writing_whole (λ b e. true) s rows w in (v, g, t)

  pub begun_begins : (s : Octets) → Begun (apart ws) s → (Begins ws) s
  begun_begins s b = (b.0, whole_form (s ++ b.0) b.1 b.3)

  pub begins_begun : (s : Octets) → (Begins ws) s → Begun (apart ws) s
  begins_begun s b = let (rows, w) = form_whole (s ++ b.0) b.1 in (b.0, rows, tt, w)

-- ------------------------------------------------------------------ so of the report

whole_read : (s : Octets) (rows : List Said) → Whole report s rows tt → read_report s ≡ (rows, ok tt)
unfolding read_report
whole_read s rows w = let (a, b) = (reading report s).whole rows tt w in λ j. (a j, b j)

read_whole : (s : Octets) (rows : List Said) → read_report s ≡ (rows, ok tt) → Whole report s rows tt
unfolding read_report
read_whole s rows e = subst (λ q. Whole report s q tt) (ap (λ z. z.0) e) ((reading report s).accepted tt (ap (λ z. z.1) e))

-- "Reading a written report gives the rows written, in order"
pub reads_back : (w : Writing) → (good widths) w ≡ true → w.reporter.begin ≤ w.reporter.end → read_report (text_of w) ≡ (map said w.lines, ok tt)
unfolding report
reads_back w g l = whole_read (text_of w) (map said w.lines) ((whole_writing widths) leb w g (le-leb w.reporter.begin w.reporter.end l))

-- and no other text is accepted
pub accepted : (s : Octets) (rows : List Said) → read_report s ≡ (rows, ok tt)
    → (w : Writing) × ((good widths) w ≡ true) × (w.reporter.begin ≤ w.reporter.end) × (text_of w ≡ s) × (map said w.lines ≡ rows)
unfolding report
accepted s rows e =
    let (w, g, o, t, r) = (writing_whole widths) leb s rows (read_whole s rows e) in
    (w, g, leb-true w.reporter.begin w.reporter.end o, t, r)

-- ------------------------------------------------------------------ a text that ends early

module _ where
  stricter_done : (t : Reads Said (Unit {0})) → Stricter t (done tt) → t ≡ done tt
  unfolding Stricter
  stricter_done (done a) h = ap done h
  stricter_done (give r t) h = absurd h
  stricter_done (next f k) h = absurd h

  not_22 : (n : ℕ) → (n ≡ 20) ⊎ (n ≡ 21) → n ≡ 22 → ⊥
  not_22 n (inl e) f = absurd (omega (arith, e, f))
  not_22 n (inr e) f = absurd (omega (arith, e, f))

  -- "22 the text ends early, given at its length, only when the end is declared"
  pub early : (s : Octets) (rows : List Said) (p : ℕ) → read_report s ≡ (rows, not_ok (refusal 22 p)) → (p ≡ length s) × (Begins widths) s × ((Form widths) s → ⊥)
  unfolding read_report report apart
  early s rows p e = go (end_of final)
    where
      final : Reader Said (Unit {0})
      final = (run 0 report s).reader

      ends : ended final ≡ not_ok (refusal 22 p)
      ends = ap (λ z. z.1) e

      go : End final → (p ≡ length s) × (Begins widths) s × ((Form widths) s → ⊥)
      go (at_done a f g) = absurd (ok≢not-ok (sym g ∙ ends))
      go (at_stuck q f g) = absurd (not_22 q.number (stuck_number report 0 s q (sane_report (λ n. (n ≡ 20) ⊎ (n ≡ 21)) (inl refl) (inr refl) widths leb) f) (ap (λ z. z.number) (refused_injective (sym g ∙ ends))))
      go (at_open t f g) =
          let c = strict_open report (apart widths) 0 s t stricter_report f in
          let (i, b) = live_open (apart widths) 0 s c.left (live_apart widths (omega arith) (omega arith)) c.still_open in (
            sym (ap (λ z. z.place) (refused_injective (sym g ∙ ends))) ∙ c.place ∙ omega arith,
            (begun_begins widths) s b,
            λ form.
                let (qs, w) = (form_whole widths) s form in
                let (j, k) = run_whole (apart widths) 0 s qs tt w in
                let same : c.left ≡ done tt = open_injective (sym c.still_open ∙ k) in
                let is_done : t ≡ done tt = stricter_done t (subst (Stricter t) same c.related) in
                ok≢not-ok (sym (ended_done final tt (f ∙ ap open_at is_done)) ∙ ends),
          )

-- ------------------------------------------------------------------ the place of a refusal

-- "A refusal's place is the first octet, counted from the start, that no such text can have there"; "an end below begin at the `<` after it"
pub place : (s : Octets) (q : Refusal) → (feed new_reader s).reader.left ≡ stuck q → (Begins widths) (take q.place s) × (((Begins widths) (take (suc q.place) s) → ⊥) ⊎ EndBelow s q.place)
unfolding feed new_reader
place s q e =
    let (i, b, t) = end_place s q e in (
      (begun_begins widths) (take q.place s) b,
      elim t [
        | inl n ↦ inl (λ c. n ((begins_begun widths) (take (suc q.place) s) c))
        | inr n ↦ inr (record { front = n.1.front; begin = n.1.begin; end = n.1.end; written = n.1.written; below = n.1.below; there = n.0 })
      ],
    )
