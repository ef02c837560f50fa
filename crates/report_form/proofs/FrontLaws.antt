-- What is read before the records: up to the end, and on from there, or refused there where the end is below begin.
use mathlib.Core.Path.{◌≡◌, refl, sym, ap, ◌∙◌, subst}
use mathlib.Core.List.{[], ◌∷◌, ◌++◌, map, flatten, append_assoc, append-eq-nil_iff}
use mathlib.Core.Bool.{Bool, true, false}
use Prim.Native.Nat.{ℕ, suc, ◌+◌, ◌<◌}
use Prim.Native.String.{String}
use native.Mathlib.Omega.{arith}
use lib.Dec.{leb}
use lib.ListN.{length, take, drop, length-append, take-append-drop}
use lib.Seq.{take-append_seam}
use borrow.Author.Tests.{lt-leb}
use Rattle.octets.specs.Octets.{Octets, octets}
use Rattle.octets.specs.Decimal.{decimal}
use Rattle.octets.specs.Refusing.{refusal}
use Rattle.report.specs.Report.{published, policy_published, record_element, report_text}
use Rattle.report.proofs.Regrouping.{leaf, ◌·◌, whole, along, regroup, lit, val}
use Rattle.parsing.specs.Reads.{Reads, give, ◌>>=◌, stuck, run, feed}
use Rattle.parsing.specs.code.Whole.{Whole}
use Rattle.parsing.proofs.ReadsLaws.{after_rows, then_feed, run_append}
use Rattle.parsing.proofs.SilentLaws.{Silent, silent_none, silent_both, silent_bind, silent_then}
use Rattle.report_form.specs.ReportForm.{Widths, widths, Said, Writing, text_of, good}
use Rattle.report_form.specs.code.ReportReading.{reading_literal as literal, reading_number as number, reading_row as row, records_from, report_by, reading_report as report, new_reader}
use Rattle.report_form.specs.ReportClaims.{opening_of, end_place}
use Rattle.report_form.proofs.Telling.{tells_literal}
use Rattle.report_form.proofs.TextBack.{tells_text, tells_id}
use Rattle.report_form.proofs.NumberLaws.{refused_at, refused_number}
use Rattle.report_form.proofs.NameBack.{tells_name}
use Rattle.report_form.proofs.WordsTold.{tells_policy, tells_mode, tells_testing}
use Rattle.report_form.proofs.HeadTold.{tells_extra_or_id, tells_policies}
use Rattle.report_form.proofs.ReportTold.{Head, GoodHead, report_computes, tells_time, raw_begin, raw_end, raw, raw_joined, opening_is}
use Rattle.report_form.proofs.WritingLaws.{head_of, opening_text, good_parts, front_good}

module _ (ws : Widths) where
  lit_whole : (s : String) → Whole {R = Said} (literal s) (octets s) [] tt
  unfolding tells_literal
  lit_whole s = (tells_literal s).into tt tt

  -- the program up to the end, and behind it
  record Front (judged : ℕ → ℕ → Bool) (h : Head ws) : Type 0 where
    after : ℕ → Reads Said (Unit {0})
    to_end : Silent (report_by ws judged) (whole (raw_begin ws h (leaf []))) (number 0 ws.times (judged h.begin) >>= after)
    from_end : Silent (after h.end) (whole (raw_end ws h (leaf []))) (row ws >>= (λ r. give r (records_from ws 255)))

  front : (judged order : ℕ → ℕ → Bool) (h : Head ws) → GoodHead ws order h → Front judged h
  unfolding report_by report_computes whole lit val
  front judged order h g = record {
    after = _;
    to_end =
        silent_both _ _ _ _ _ (silent_then _ _ _ tt (lit_whole _))
        (silent_both _ _ _ _ _ (silent_then _ _ _ tt (tells_text.into h.organization g.good_organization))
        (silent_both _ _ _ _ _ (silent_then _ _ _ tt (lit_whole "/org_name><email>"))
        (silent_both _ _ _ _ _ (silent_then _ _ _ tt (tells_text.into h.email g.good_email))
        (silent_both _ _ _ _ _ (silent_then _ _ _ tt (lit_whole "/email><"))
        (silent_both _ _ _ _ _ (silent_then _ _ _ tt (tells_extra_or_id.into h.contact g.good_contact))
        (silent_both _ _ _ _ _ (silent_then _ _ _ tt (tells_id.into h.id g.good_id))
        (silent_both _ _ _ _ _ (silent_then _ _ _ tt (lit_whole "/report_id><date_range><begin>"))
        (silent_both _ _ _ _ _ (silent_bind _ _ _ h.begin ((tells_time ws (λ n. true)).into h.begin (omega arith, g.begin_width, refl)))
        (silent_both _ _ _ _ _ (silent_then _ _ _ tt (lit_whole "/begin><end>")) (silent_none _))))))))));
    from_end =
        silent_both _ _ _ _ _ (silent_then _ _ _ tt (lit_whole "/end></date_range></report_metadata><policy_published><domain>"))
        (silent_both _ _ _ _ _ (silent_bind _ _ _ h.domain (tells_name.into h.domain g.good_domain))
        (silent_both _ _ _ _ _ (silent_then _ _ _ tt (lit_whole "/domain><p>"))
        (silent_both _ _ _ _ _ (silent_bind _ _ _ h.p (tells_policy.into h.p tt))
        (silent_both _ _ _ _ _ (silent_then _ _ _ tt (lit_whole "</p><"))
        (silent_both _ _ _ _ _ (silent_then _ _ _ tt (tells_policies.into h.both tt))
        (silent_both _ _ _ _ _ (silent_bind _ _ _ h.adkim (tells_mode.into h.adkim tt))
        (silent_both _ _ _ _ _ (silent_then _ _ _ tt (lit_whole "</adkim><aspf>"))
        (silent_both _ _ _ _ _ (silent_bind _ _ _ h.aspf (tells_mode.into h.aspf tt))
        (silent_both _ _ _ _ _ (silent_then _ _ _ tt (lit_whole "</aspf><testing>"))
        (silent_both _ _ _ _ _ (silent_bind _ _ _ h.testing (tells_testing.into h.testing tt))
        (silent_both _ _ _ _ _ (silent_then _ _ _ tt (lit_whole "</testing></policy_published><record>")) (silent_none _))))))))))));
  }

  end_read : (judged : ℕ → ℕ → Bool) (h : Head ws) (f : ℕ → Reads Said (Unit {0})) → GoodHead ws judged h
      → Silent (number 0 ws.times (judged h.begin) >>= f) (whole (val (decimal h.end))) (f h.end)
  unfolding report_computes whole val
  end_read judged h f g = silent_bind _ _ _ h.end ((tells_time ws (judged h.begin)).into h.end (omega arith, g.end_width, g.in_order))

  pub silent_front : (judged : ℕ → ℕ → Bool) (h : Head ws) → GoodHead ws judged h → Silent (report_by ws judged) (whole (raw ws h (leaf []))) (row ws >>= (λ r. give r (records_from ws 255)))
  unfolding whole
  silent_front judged h g =
      let f = front judged judged h g in
      subst (λ s. Silent (report_by ws judged) s (row ws >>= (λ r. give r (records_from ws 255)))) (raw_joined ws h (leaf []))
      (silent_both _ _ _ _ _ f.to_end (silent_both _ _ _ _ _ (end_read judged h f.after g) f.from_end))

  -- ------------------------------------------------------------------ an end below begin

  -- up to its last digit
  abbrev through_end : Head ws → Octets
  through_end h = whole (raw_begin ws h (leaf [])) ++ decimal h.end

  end_refused : (judged order : ℕ → ℕ → Bool) (h : Head ws) → GoodHead ws order h → judged h.begin h.end ≡ false → (v : Octets)
      → run 0 (report_by ws judged) (through_end h ++ (60 ∷ v)) ≡ refused_at (length (through_end h))
  end_refused judged order h g e v =
      let f = front judged order h g in
      let before = whole (raw_begin ws h (leaf [])) in
      ap (run 0 (report_by ws judged)) (append_assoc before (decimal h.end) (60 ∷ v)) ∙ f.to_end.passes 0 (decimal h.end ++ (60 ∷ v))
      ∙ refused_number 0 ws.times (judged h.begin) (omega arith) f.after h.end (omega arith) g.end_width e (0 + length before) v
      ∙ ap refused_at (omega (arith, length-append before (decimal h.end)))

-- a text of the form, cut behind the `<` after its end, and what is read of every text that begins so
record Cut (w : Writing) : Type 0 where
  before : Octets
  behind : Octets
  is : text_of w ≡ (before ++ (60 ∷ [])) ++ behind
  long : length before ≡ end_place w.reporter
  refused : (v : Octets) → run 0 report (before ++ (60 ∷ v)) ≡ refused_at (length before)

cut : (w : Writing) → good widths w ≡ true → w.reporter.end < w.reporter.begin → Cut w
unfolding text_of report_text opening_of end_place report head_of whole along lit octets
cut w g l =
    let h = head_of widths w in
    let before = through_end widths h in
    let published_text = policy_published w.domain (published w.settings) in
    let records = flatten (map record_element w.lines) in
    let opening : opening_of w.reporter ≡ before ++ octets "</end></date_range></report_metadata>" = opening_text widths w ∙ sym (opening_is widths h) in
    record {
      before = before;
      behind = whole (lit "/end></date_range></report_metadata>" · leaf published_text · leaf records · lit "</feedback>");
      is =
          ap (λ s. s ++ published_text ++ records ++ octets "</feedback>") opening
          ∙ regroup (leaf before · lit "</end></date_range></report_metadata>" · leaf published_text · leaf records · lit "</feedback>")
          (leaf before · leaf (60 ∷ []) · (lit "/end></date_range></report_metadata>" · leaf published_text · leaf records · lit "</feedback>"))
          refl;
      long = omega (arith, ap length opening, length-append before (octets "</end></date_range></report_metadata>"));
      refused = end_refused widths leb (λ b e. true) h (front_good widths (λ b e. true) w (good_parts widths w g).front refl) (lt-leb w.reporter.begin w.reporter.end l);
    }

-- "an end below begin at the `<` after it"
pub end_below : (w : Writing) → good widths w ≡ true → w.reporter.end < w.reporter.begin
    → (s : Octets) → take (suc (end_place w.reporter)) s ≡ take (suc (end_place w.reporter)) (text_of w) → (feed new_reader s).reader.left ≡ stuck (refusal 20 (end_place w.reporter))
unfolding feed new_reader
end_below w g l s e =
    let c = cut w g l in
    let n = suc (end_place w.reporter) in
    let size : n ≡ length (c.before ++ (60 ∷ [])) = omega (arith, c.long, length-append c.before (60 ∷ [])) in
    let front : take n s ≡ c.before ++ (60 ∷ []) = e ∙ ap (take n) c.is ∙ ap (λ k. take k ((c.before ++ (60 ∷ [])) ++ c.behind)) size ∙ take-append_seam (c.before ++ (60 ∷ [])) c.behind in
    let text : s ≡ c.before ++ (60 ∷ drop n s) = sym (take-append-drop n s) ∙ ap (λ z. z ++ drop n s) front ∙ append_assoc c.before (60 ∷ []) (drop n s) in
    ap (λ z. (run 0 report z).reader.left) text ∙ ap (λ z. z.reader.left) (c.refused (drop n s)) ∙ ap (λ k. stuck (refusal 20 k)) c.long

-- and such a text hands out no row, wherever it is cut
pub below_quiet : (w : Writing) → good widths w ≡ true → w.reporter.end < w.reporter.begin → (n : ℕ) → (run 0 report (take n (text_of w))).rows ≡ []
unfolding then_feed after_rows
below_quiet w g l n =
    let c = cut w g l in
    let text : take n (text_of w) ++ drop n (text_of w) ≡ c.before ++ (60 ∷ c.behind) = take-append-drop n (text_of w) ∙ c.is ∙ append_assoc c.before (60 ∷ []) c.behind in
    (append-eq-nil_iff.0 (sym (ap (λ z. z.rows) (run_append report 0 (take n (text_of w)) (drop n (text_of w)))) ∙ ap (λ z. (run 0 report z).rows) text ∙ ap (λ z. z.rows) (c.refused c.behind))).0
