-- Laws of the refusals of a report.
use Rattle.std.specs.Prelude.{Option, None, Some, Result, Ok, Err}
use mathlib.Core.Path.{◌≡◌, refl, sym, ap, ◌∙◌}
use mathlib.Core.List.{List, [], ◌∷◌, map}
use mathlib.Core.Bool.{Bool, true, false, ◌&&◌, not, true≢false}
use Prim.Native.Nat.{ℕ}
use native.Mathlib.Omega.{arith}
use lib.Dec.{eqb}
use lib.ListN.{length}
use borrow.Author.Tests.{ne_eqb, not-false}
use Rattle.octets.specs.Octets.{Octets, is_empty, is_nothing, all, lower}
use Rattle.octets.specs.declared.Refusal.{Refusal}
use Rattle.octets.specs.Refusing.{◌>>=◌, OrRefused, ok, not_ok, refuse_if, or_refuse}
use Rattle.octets.specs.Framing.{body_of, is_whole}
use Rattle.domain.specs.Domain.{Domain, without_dot}
use Rattle.policy.specs.declared.Settings.{Settings}
use Rattle.alignment.specs.Alignments.{Identifier}
use Rattle.book.specs.Start.{identifiers_from}
use Rattle.rows.specs.declared.Row.{Row}
use Rattle.rows.specs.Lists.{Lists, Reported, Named, first_body, set_in, with_good_domain, good_set, set_of, both_named, named_by}
use Rattle.rows.specs.Rows.{is_free, on_list}
use Rattle.rows_named.specs.code.Naming.{records_after}
use Rattle.rows_named.proofs.NamingLaws.{at_place, no_author, no_set}
use Rattle.report.specs.Report.{Reporter, Line, report_text, counted_rows, add_line, lines, good_texts, good_line, good_file, report}
use Rattle.report.proofs.SizeLaws.{both_hold}
use Rattle.report_rows.specs.code.Lines.{author_at, set_at, names_at, line_of}
use Rattle.report_judge.specs.declared.Test.{Test}
use Rattle.report_judge.specs.code.Judging.{is_named, counted_passes, passes_test}
use Rattle.report_check.specs.code.Faults.{fault_by, first_fault}

-- ------------------------------------------------------------------ tests of all rows, and of those that count

-- a set that passes is itself
both : (d : Octets) (is : List Reported) → not (is_nothing (both_named (Some d) (good_set is))) ≡ true → both_named (Some d) (good_set is) ≡ Some (record { author = without_dot d; identifiers = is })
unfolding good_set both_named is_nothing
both d is e = go (identifiers_from 0 false (map with_good_domain is)) refl
  where
    go : (x : OrRefused (List Identifier)) → identifiers_from 0 false (map with_good_domain is) ≡ x → both_named (Some d) (good_set is) ≡ Some (record { author = without_dot d; identifiers = is })
    go (ok y) f = rw (f, good_set)
    go (not_ok q) f = absurd (true≢false (sym (rw (f, good_set) at e)))

module _ (l : Lists) where
  counted_pass : (n : Test) (rs : List Row) → all (passes_test n l) rs ≡ all (counted_passes n l) (counted_rows rs)
  unfolding all counted_rows passes_test
  counted_pass n [] = refl
  counted_pass n (r ∷ rs) = go (counted_pass n rs) (is_free r) refl
    where
      go : all (passes_test n l) rs ≡ all (counted_passes n l) (counted_rows rs) → (b : Bool) → is_free r ≡ b → all (passes_test n l) (r ∷ rs) ≡ all (counted_passes n l) (counted_rows (r ∷ rs))
      go ih true e = rw (e, counted_rows) ih
      go ih false e = rw (e, counted_rows) (ap (λ b. counted_passes n l r && b) ih)

  pub none_counted : (rs : List Row) → all (passes_test Test.Free l) rs ≡ is_empty (counted_rows rs)
  unfolding all counted_passes
  none_counted rs = counted_pass Test.Free rs ∙ go (counted_rows rs)
    where
      go : (rs : List Row) → all (counted_passes Test.Free l) rs ≡ is_empty rs
      go [] = refl
      go (r ∷ rs) = refl

  pub all_named : (rs : List Row) → all (passes_test Test.Named l) rs ≡ all (is_named l) (counted_rows rs)
  unfolding all counted_passes
  all_named rs = counted_pass Test.Named rs ∙ go (counted_rows rs)
    where
      go : (rs : List Row) → all (counted_passes Test.Named l) rs ≡ all (is_named l) rs
      go [] = refl
      go (r ∷ rs) = ap (λ b. is_named l r && b) (go rs)

  pub all_good : (rs : List Row) → all (passes_test Test.Ruled l) rs ≡ all good_line (map (line_of l) (counted_rows rs))
  unfolding all counted_passes
  all_good rs = counted_pass Test.Ruled rs ∙ go (counted_rows rs)
    where
      go : (rs : List Row) → all (counted_passes Test.Ruled l) rs ≡ all good_line (map (line_of l) rs)
      go [] = refl
      go (r ∷ rs) = ap (λ b. good_line (line_of l r) && b) (go rs)

  named_is : (a s : ℕ) → is_whole (records_after a l.authors) ≡ true → is_whole (records_after s l.sets) ≡ true
      → named_by l a s ≡ both_named (Some (body_of (records_after a l.authors))) (good_set (set_in (body_of (records_after s l.sets))))
  unfolding named_by set_of first_body
  named_is a s e f = rw (at_place a l.authors, at_place s l.sets, e, f)

  -- what is named, where 28 is not due
  named_just : (a s : ℕ) → not (is_nothing (named_by l a s)) ≡ true → named_by l a s ≡ Some (names_at l a s)
  unfolding names_at author_at set_at
  named_just a s e = go (is_whole (records_after a l.authors)) refl (is_whole (records_after s l.sets)) refl
    where
      go : (b : Bool) → is_whole (records_after a l.authors) ≡ b → (c : Bool) → is_whole (records_after s l.sets) ≡ c → named_by l a s ≡ Some (names_at l a s)
      go false f c g = absurd (true≢false (sym e ∙ sym (no_author l.authors l.sets a s f)))
      go true f false g = absurd (true≢false (sym e ∙ sym (no_set l.authors l.sets a s f g)))
      go true f true g = named_is a s f g ∙ both (body_of (records_after a l.authors)) (set_in (body_of (records_after s l.sets))) (rw (named_is a s f g) at e)

  add_named : (r : Row) (o : Option Named) (ls : Option (List Line)) → is_nothing o ≡ true → add_line r o ls ≡ None
  unfolding add_line is_nothing
  add_named r None ls e = refl
  add_named r (Some n) ls e = absurd (true≢false (sym e))

  add_none : (r : Row) (o : Option Named) → add_line r o None ≡ None
  unfolding add_line
  add_none r None = refl
  add_none r (Some n) = refl

  lines_named : (rs : List Row) → all (is_named l) rs ≡ true → lines l rs ≡ Some (map (line_of l) rs)
  unfolding lines all add_line line_of is_named
  lines_named [] e = refl
  lines_named (r ∷ rs) e =
      let (f, g) = both_hold (is_named l r) (all (is_named l) rs) e in
      rw (named_just r.seen.author r.seen.set f, lines_named rs g)

  lines_none : (rs : List Row) → all (is_named l) rs ≡ false → lines l rs ≡ None
  unfolding lines all is_named
  lines_none [] e = absurd (true≢false e)
  lines_none (r ∷ rs) e = go (is_named l r) refl (lines_none rs)
    where
      go : (b : Bool) → is_named l r ≡ b → (all (is_named l) rs ≡ false → lines l rs ≡ None) → lines l (r ∷ rs) ≡ None
      go true f ih = rw (ih (rw f at e)) (add_none r (named_by l r.seen.author r.seen.set))
      go false f ih = add_named r (named_by l r.seen.author r.seen.set) (lines l rs) (not-false (is_nothing (named_by l r.seen.author r.seen.set)) f)

-- ------------------------------------------------------------------ the report, by the number of its fault

module _ (d : Domain) (rows : List Row) (l : Lists) (by : Reporter) (s : Settings) where
  abbrev rs : List Row
  rs = on_list rows

  abbrev the_report : OrRefused Octets
  the_report = report (record { domain = Some d; rows = rows }) l by s

  -- what is written where nothing is refused
  unfoldable pub written_lines : List Line
  written_lines = map (line_of l) (counted_rows rs)

  unfoldable pub given : Result (Unit {0}) Refusal → OrRefused Octets
  given (Ok done) = ok (report_text (lower d) s by written_lines)
  given (Err f) = not_ok f

  -- the tests that are made, and what they say
  abbrev Judged : (free named texts file good : Bool) → Type 0
  Judged free named texts file good =
      (all (passes_test Test.Free l) rs ≡ free) × (all (passes_test Test.Named l) rs ≡ named) × (good_texts by.organization by.email by.contact ≡ texts)
      × (good_file d by.id by.begin by.end ≡ file) × (all (passes_test Test.Ruled l) rs ≡ good)

  some_row : all (passes_test Test.Free l) rs ≡ false → is_empty (counted_rows rs) ≡ false
  some_row e = sym (none_counted l rs) ∙ e

  all_lines : all (passes_test Test.Named l) rs ≡ true → lines l (counted_rows rs) ≡ Some (map (line_of l) (counted_rows rs))
  all_lines e = lines_named l (counted_rows rs) (sym (all_named l rs) ∙ e)

  report_by : (free named texts file good : Bool) → Judged free named texts file good → the_report ≡ given (fault_by free named texts file good)
  unfolding report ◌>>=◌ or_refuse refuse_if fault_by given written_lines
  report_by true n t f g (e₁, e₂, e₃, e₄, e₅) = rw (sym (none_counted l rs) ∙ e₁)
  report_by false false t f g (e₁, e₂, e₃, e₄, e₅) = rw (some_row e₁, lines_none l (counted_rows rs) (sym (all_named l rs) ∙ e₂))
  report_by false true false f g (e₁, e₂, e₃, e₄, e₅) = rw (some_row e₁, all_lines e₂, e₃)
  report_by false true true false g (e₁, e₂, e₃, e₄, e₅) = rw (some_row e₁, all_lines e₂, e₃, e₄)
  report_by false true true true false (e₁, e₂, e₃, e₄, e₅) = rw (some_row e₁, all_lines e₂, e₃, e₄, sym (all_good l rs) ∙ e₅)
  report_by false true true true true (e₁, e₂, e₃, e₄, e₅) = rw (some_row e₁, all_lines e₂, e₃, e₄, sym (all_good l rs) ∙ e₅)

  pub report_is : the_report ≡ given (first_fault d l rs by)
  unfolding first_fault
  report_is = report_by _ _ _ _ _ (refl, refl, refl, refl, refl)

-- ------------------------------------------------------------------ texts

pub empty_test : (s : Octets) → eqb (length s) 0 ≡ is_empty s
empty_test [] = refl
empty_test (x ∷ s) = ne_eqb (length (x ∷ s)) 0 (λ e. absurd (omega (arith, e)))
