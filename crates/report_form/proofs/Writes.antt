-- What Ask 9 writes is a text of the form.
use Rattle.std.specs.Prelude.{Option, None, Some}
use mathlib.Core.Path.{◌≡◌, refl, sym, ap, ◌∙◌, subst}
use mathlib.Core.List.{List, [], ◌∷◌, map}
use mathlib.Core.Bool.{Bool, true, false, ◌&&◌, not, true≢false}
use Prim.Native.Nat.{ℕ, zero, suc, ◌-◌, ◌^◌, ◌≤◌, ◌<◌}
use native.Mathlib.Omega.{arith}
use lib.Dec.{leb}
use lib.ListN.{length, take}
use borrow.Author.Tests.{leb-true, le-leb}
use Rattle.octets.specs.Octets.{Octets, is_empty, is_nothing, all, same, lower}
use Rattle.octets.specs.Refusing.{◌>>=◌, OrRefused, ok, not_ok, refusal, refuse_if, or_refuse}
use Rattle.octets.specs.declared.Refusal.{Refusal}
use Rattle.domain.specs.Domain.{Domain, is_domain}
use Rattle.policy.specs.declared.Settings.{Settings}
use Rattle.reporting.specs.FileName.{good_id}
use Rattle.alignment.specs.Alignments.{Identifier}
use Rattle.book.specs.Start.{identifiers_from}
use Rattle.rows.specs.declared.Row.{Row}
use Rattle.rows.specs.Lists.{Lists, Reported, Named, with_good_domain, good_set, set_in, set_of, body_at, both_named, named_by}
use Rattle.rows.specs.Rows.{Listing, is_free, on_list}
use Rattle.report.specs.Report.{Reporter, Line, counted_rows, add_line, lines, good_texts, good_line, good_file, report}
use Rattle.report_form.specs.code.ReportReading.{read_report}
use Rattle.report_form.proofs.FormClaimed.{reads_back}
use Rattle.report_form.specs.ReportClaims.{Kept}
use Rattle.report_form.specs.ReportForm.{widths, said, good_row, good_entry, good_lines, good_front, Writing, text_of, good}
use Rattle.parsing.proofs.RefusingLaws.{ok≢not-ok, ok_injective}
use Rattle.octets.proofs.TextLaws.{same_self}
use Rattle.report_form.proofs.NameBack.{GoodName, name_lower}
use Rattle.report_form.proofs.TextBack.{both_true}
use Rattle.std.proofs.lemmas.Option.{none-some, same_Some}

bind_ok : {A B : Type 0} (r : OrRefused A) (f : A → OrRefused B) (b : B) → (r >>= f) ≡ ok b → (a : A) × (r ≡ ok a) × (f a ≡ ok b)
unfolding ◌>>=◌
bind_ok (ok a) f b e = (a, refl, e)
bind_ok (not_ok q) f b e = absurd (ok≢not-ok (sym e))

or_ok : {A : Type 0} (o : Option A) (q : Refusal) (a : A) → or_refuse o q ≡ ok a → o ≡ Some a
unfolding or_refuse
or_ok None q a e = absurd (ok≢not-ok (sym e))
or_ok (Some b) q a e = ap Some (ok_injective e)

if_ok : (b : Bool) (q : Refusal) (a : Unit {0}) → refuse_if b q ≡ ok a → b ≡ false
unfolding refuse_if
if_ok true q a e = absurd (ok≢not-ok (sym e))
if_ok false q a e = refl

not_off : (b : Bool) → not b ≡ false → b ≡ true
not_off true e = refl
not_off false e = absurd (true≢false e)

-- ------------------------------------------------------------------ sets

set_kept : (is js : List Reported) → good_set is ≡ Some js → (is ≡ js) × (not (is_nothing (good_set js)) ≡ true)
unfolding good_set is_nothing
set_kept is js e = go (identifiers_from 0 false (map with_good_domain is)) refl
  where
    go : (r : OrRefused (List Identifier)) → identifiers_from 0 false (map with_good_domain is) ≡ r → (is ≡ js) × (not (is_nothing (good_set js)) ≡ true)
    go (ok x) f =
        let g : is ≡ js = same_Some is js (rw (f, good_set) at e) in
        (g, subst (λ z. not (is_nothing (good_set z)) ≡ true) g (ap (λ z. not (is_nothing z)) (e ∙ ap Some (sym g))))
    go (not_ok q) f = absurd (none-some js (rw (f, good_set) at e))

of_kept : (o : Option Octets) (js : List Reported) → set_of o ≡ Some js → not (is_nothing (good_set js)) ≡ true
unfolding set_of
of_kept None js e = absurd (none-some js e)
of_kept (Some b) js e = (set_kept (set_in b) js e).1

named_kept : (l : Lists) (a s : ℕ) (n : Named) → named_by l a s ≡ Some n → not (is_nothing (good_set n.identifiers)) ≡ true
unfolding named_by both_named
named_kept l a s n e = go (body_at a l.authors) (set_of (body_at s l.sets)) refl e
  where
    go : (d : Option Domain) (o : Option (List Reported)) → set_of (body_at s l.sets) ≡ o → both_named d o ≡ Some n → not (is_nothing (good_set n.identifiers)) ≡ true
    go None o p q = absurd (none-some n q)
    go (Some d) None p q = absurd (none-some n q)
    go (Some d) (Some is) p q = subst (λ z. not (is_nothing (good_set z.identifiers)) ≡ true) (same_Some _ n q) (of_kept (body_at s l.sets) is p)

-- ------------------------------------------------------------------ lines

entry : (x : Line) → (good_row widths) x.row ≡ true → not (is_nothing (good_set x.names.identifiers)) ≡ true → good_line x ≡ true → (good_entry widths) x ≡ true
unfolding good_entry
entry x a b c = rw (a, b, c)

both_entries : (x : Line) (ls : List Line) → (good_entry widths) x ≡ true → all (good_entry widths) ls ≡ true → all (good_entry widths) (x ∷ ls) ≡ true
unfolding all
both_entries x ls a b = rw (a, b)

lines_kept : (l : Lists) (rows : List Row) (ls : List Line) → lines l rows ≡ Some ls → all (good_row widths) rows ≡ true → all good_line ls ≡ true → (length ls ≡ length rows) × (all (good_entry widths) ls ≡ true)
unfolding lines all add_line
lines_kept l [] ls e g h = subst (λ z. (length z ≡ 0) × (all (good_entry widths) z ≡ true)) (same_Some [] ls e) (refl, refl)
lines_kept l (r ∷ rows) ls e g h = go (named_by l r.seen.author r.seen.set) refl (lines l rows) refl (λ m. lines_kept l rows m)
  where
    go : (o : Option Named) → named_by l r.seen.author r.seen.set ≡ o → (q : Option (List Line)) → lines l rows ≡ q
        → ((m : List Line) → lines l rows ≡ Some m → all (good_row widths) rows ≡ true → all good_line m ≡ true → (length m ≡ length rows) × (all (good_entry widths) m ≡ true)) → (length ls ≡ suc (length rows)) × (all (good_entry widths) ls ≡ true)
    go None a q b more = absurd (none-some ls (ap (λ z. add_line r z (lines l rows)) (sym a) ∙ e))
    go (Some n) a None b more = absurd (none-some ls ((λ j. add_line r (sym a j) (sym b j)) ∙ e))
    go (Some n) a (Some m) b more =
        let first : Line = record { row = r; names = n } in
        let is : first ∷ m ≡ ls = same_Some (first ∷ m) ls ((λ j. add_line r (sym a j) (sym b j)) ∙ e) in
        let (x, y) = both_true (good_line first) (all good_line m) (subst (λ z. all good_line z ≡ true) (sym is) h) in
        let (u, v) = both_true ((good_row widths) r) (all (good_row widths) rows) g in
        let (c, d) = more m b v y in
        subst (λ z. (length z ≡ suc (length rows)) × (all (good_entry widths) z ≡ true)) is (ap suc c, both_entries first m (entry first u (named_kept l r.seen.author r.seen.set n a) x) d)

-- rows with a count, on the list
counted_few : (rows : List Row) (n : ℕ) → length (counted_rows (take n rows)) ≤ n
unfolding counted_rows
counted_few [] zero = omega arith
counted_few [] (suc n) = omega arith
counted_few (r ∷ rows) zero = omega arith
counted_few (r ∷ rows) (suc n) = go (is_free r) refl (counted_few rows n)
  where
    go : (c : Bool) → is_free r ≡ c → length (counted_rows (take n rows)) ≤ n → length (counted_rows (r ∷ take n rows)) ≤ suc n
    go true e h = rw (e, counted_rows) (omega (arith, h))
    go false e h = rw (e, counted_rows) (omega (arith, h))

not_empty : (ls : List Line) (n : ℕ) → length ls ≡ n → 0 < n → is_empty ls ≡ false
not_empty [] n e h = absurd (omega (arith, e, h))
not_empty (x ∷ ls) n e h = refl

some_rows : (rows : List Row) → is_empty rows ≡ false → 0 < length rows
some_rows [] e = absurd (true≢false e)
some_rows (r ∷ rows) e = omega arith

lines_good : (ls : List Line) → is_empty ls ≡ false → length ls ≤ 256 → all (good_entry widths) ls ≡ true → (good_lines widths) ls ≡ true
unfolding good_lines
lines_good ls a b c = rw (a, le-leb (length ls) 256 b, c)

front_good : (d : Domain) (by : Reporter) → is_domain d ≡ true → same (lower d) d ≡ true → good_texts by.organization by.email by.contact ≡ true → good_id by.id ≡ true → by.begin ≤ 2 ^ 64 - 1 → by.end ≤ 2 ^ 64 - 1 → (good_front widths) d by ≡ true
unfolding good_front
front_good d by a b c e f g = rw (a, b, c, e, le-leb by.begin (2 ^ 64 - 1) f, le-leb by.end (2 ^ 64 - 1) g)

all_good : (w : Writing) → (good_front widths) w.domain w.reporter ≡ true → (good_lines widths) w.lines ≡ true → (good widths) w ≡ true
unfolding good
all_good w a b = rw (a, b)

-- what Ask 9 writes, of a list as clearing and entering leave it and numbers within their types, is the text of a good writing
pub writes_form : (l : Listing) (lists : Lists) (by : Reporter) (s : Settings) (t : Octets) → Kept l by → report l lists by s ≡ ok t
    → (w : Writing) × (good widths w ≡ true) × (w.reporter.begin ≤ w.reporter.end) × (text_of w ≡ t) × (lines lists (counted_rows (on_list l.rows)) ≡ Some w.lines)
unfolding report text_of good_file on_list GoodName
writes_form l lists by s t k e =
    let (d, e1, f1) = bind_ok _ _ t e in
    let (u2, e2, f2) = bind_ok _ _ t f1 in
    let (ls, e3, f3) = bind_ok _ _ t f2 in
    let (u4, e4, f4) = bind_ok _ _ t f3 in
    let (u5, e5, f5) = bind_ok _ _ t f4 in
    let rows = counted_rows (take 256 l.rows) in
    let named : lines lists rows ≡ Some ls = or_ok (lines lists rows) (refusal 28 0) ls e3 in
    let some : is_empty rows ≡ false = if_ok (is_empty rows) (refusal 18 0) u2 e2 in
    let texts : good_texts by.organization by.email by.contact ≡ true = not_off (good_texts by.organization by.email by.contact) (if_ok (not (good_texts by.organization by.email by.contact)) (refusal 19 0) u4 e4) in
    let last = not_off (is_domain d && good_id by.id && leb by.begin by.end && all good_line ls) (if_ok (not (is_domain d && good_id by.id && leb by.begin by.end && all good_line ls)) (refusal 11 0) u5 e5) in
    let (most, goods) = both_true (is_domain d && good_id by.id && leb by.begin by.end) (all good_line ls) last in
    let (ids, order) = both_true (is_domain d && good_id by.id) (leb by.begin by.end) most in
    let (d_ok, id_ok) = both_true (is_domain d) (good_id by.id) ids in
    let (count, entries) = lines_kept lists rows ls named k.within goods in
    let (low_ok, low) = name_lower d d_ok in
    let d_low : same (lower (lower d)) (lower d) ≡ true = ap (λ z. same z (lower d)) low ∙ same_self (lower d) in
    let w : Writing = record { domain = lower d; settings = s; reporter = by; lines = ls } in (
      w,
      all_good w (front_good (lower d) by low_ok d_low texts id_ok k.times.0 k.times.1) (lines_good ls (not_empty ls (length rows) count (some_rows rows some)) (omega (arith, count, counted_few l.rows 256)) entries),
      leb-true by.begin by.end order,
      ok_injective f5,
      named,
    )

-- so "reading a written report gives the rows written, in order"
pub reads_written : (l : Listing) (lists : Lists) (by : Reporter) (s : Settings) (t : Octets) → Kept l by → report l lists by s ≡ ok t
    → (ls : List Line) × (lines lists (counted_rows (on_list l.rows)) ≡ Some ls) × (read_report t ≡ (map said ls, ok tt))
reads_written l lists by s t k e =
    let (w, g, o, is, named) = writes_form l lists by s t k e in
    (w.lines, named, ap read_report (sym is) ∙ reads_back w g o)
