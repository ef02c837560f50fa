-- Laws of the three calls.
use mathlib.Core.Path.{◌≡◌, refl, sym, ap, ◌∙◌}
use mathlib.Core.Bool.{Bool, true, false, false≢true}
use native.Mathlib.Omega.{arith}
use lib.Dec.{eqb}
use lib.ListN.{length, take}
use borrow.Author.Tests.{eqb-true}
use Rattle.std.specs.Prelude.{if◌then◌else◌}
use Rattle.octets.specs.Octets.{Octets}
use Rattle.octets.specs.Refusing.{OrRefused, ok, not_ok, refusal}
use Rattle.parsing.specs.Reads.{Fed, feed, ended}
use Rattle.report_form.specs.ReportForm.{Said}
use Rattle.report_kept.specs.declared.ReaderState.{ReaderState}
use Rattle.report_taken.specs.code.Taking.{view, rows_by}
use Rattle.report_reader.specs.declared.Progress.{Progress}
use Rattle.report_reader.specs.code.Reading.{ReadsOn, ReadsPart, Begins, end_of, Ends}
use Rattle.report_parts.specs.declared.Told.{Told}
use Rattle.report_parts.specs.code.Telling.{told_by}
use Rattle.report_parts.specs.Parts.{LentReader, read_as, told_of, told_end, IsNew, Feeds, EndsAt}
use Rattle.report_parts.proofs.TellLaws.{told_view, event_row, rows_told}

pub is_new : (s : ReaderState) → Begins s → IsNew s
unfolding read_as
is_new s b row = b row

pub feeds : (s : ReaderState) (row part : Octets) (p : Progress) (after : Octets) (told : Told) → length row ≡ 8432 → ReadsPart s part row p after
    → told ≡ told_by p.gives p.state → Feeds (record { state = s; row = row }) part (record { state = p.state; row = after }) p.used told
unfolding read_as
feeds s row part p after told l reads t =
    let on = reads l in
    let r : LentReader = record { state = p.state; row = after } in
    record {
      within = on.within;
      whole = λ other. on.whole (none p.gives refl other);
      tells = t ∙ told_view r p.gives ∙ ap told_of (sym on.fed);
      hands = rows_told p.gives told r t ∙ sym (ap (λ (f : Fed Said (Unit {0})). f.rows) on.fed);
      leaves = sym (ap (λ (f : Fed Said (Unit {0})). f.reader) on.fed);
    }
  where
    none : (b : Bool) → p.gives ≡ b → (told.event ≡ 1 → ⊥) → p.gives ≡ false
    none false e other = e
    none true e other = absurd (other (eqb-true told.event 1 (ap (λ (u : Told). eqb u.event 1) t ∙ event_row p.gives p.state ∙ e)))

told_ended : (s : ReaderState) → told_by false s ≡ told_end (end_of s)
unfolding told_by told_end end_of
told_ended s = go (eqb s.refused 0)
  where
    go : (b : Bool)
        → (if b then record { event = 0; number = 0; place = 0; count = 0 } else record { event = 2; number = s.refused; place = s.taken; count = 0 })
        ≡ told_end (if◌then◌else◌ {A = OrRefused (Unit {0})} b (ok tt) (not_ok (refusal s.refused s.taken)))
    go true = refl
    go false = refl

pub ends_at : (s after : ReaderState) (told : Told) → Ends s after → told ≡ told_by false after → EndsAt s after told
unfolding read_as
ends_at s after told e t = record { tells = λ row. t ∙ told_ended after ∙ ap told_end (sym (e row).0); leaves = λ row. sym (e row).1 }
