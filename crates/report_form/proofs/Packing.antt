-- Every good writing is what Ask 9 writes, from some list and from lists that are packed for it.
use mathlib.Core.Path.{◌≡◌, refl, sym, ap, ◌∙◌, subst}
use mathlib.Core.List.{List, [], ◌∷◌, ◌++◌, map, flatten, append_assoc}
use mathlib.Core.Bool.{Bool, true, false, ◌&&◌, ◌||◌, not, false≢true, true≢false}
use Prim.Native.Nat.{ℕ, zero, suc, ◌+◌, ◌/◌, ◌%◌, ◌≤◌}
use native.Mathlib.Omega.{arith}
use lib.Dec.{eqb, leb}
use lib.ListN.{length, take, drop, length-append}
use borrow.Author.Tests.{le-leb, leb-true, ne_eqb}
use Rattle.std.specs.Prelude.{if◌then◌else◌, None, Some}
use Rattle.octets.specs.Octets.{Octets, octets, is_empty, is_nothing, all, same, lower}
use Rattle.octets.specs.Refusing.{◌>>=◌, OrRefused, ok, not_ok, refuse_if, or_refuse}
use Rattle.octets.specs.Framing.{size_of, body_of, after_record, is_whole}
use Rattle.octets.proofs.FramingLaws.{whole}
use Rattle.octets.specs.declared.Refusal.{Refusal}
use Rattle.domain.specs.Domain.{Domain, without_dot, is_domain}
use Rattle.domain.proofs.AskedLaws.{all_good}
use Rattle.domain.proofs.DotLaws.{good_undotted}
use Rattle.policy.specs.declared.Settings.{Settings}
use Rattle.alignment.specs.Alignments.{Identifier}
use Rattle.book.specs.Start.{identifiers_from}
use Rattle.reporting.specs.FileName.{good_id}
use Rattle.rows.specs.declared.Row.{Row}
use Rattle.rows.specs.Lists.{Lists, Reported, reported, body_or_empty, first_body, body_at, set_most, set_in, with_good_domain, good_set, set_of, both_named, named_by}
use Rattle.rows.specs.Rows.{Listing, is_free, on_list}
use Rattle.report.specs.Xml.{element}
use Rattle.report.specs.Report.{Reporter, metadata, published, policy_published, Line, dkim_element, spf_element, auth_results, row_element, policy_evaluated, record_element, report_text, counted_rows, add_line, lines, good_texts, good_identifier, good_line, good_file, report}
use Rattle.report_form.specs.ReportForm.{widths, good_row, good_entry, good_front, Writing, text_of, good}
use Rattle.report_form.specs.ReportClaims.{Kept}
use Rattle.octets.proofs.TextLaws.{same_true}
use Rattle.report_form.proofs.TextBack.{both_true}
use Rattle.report_form.proofs.LineLaws.{row_parts, entry_parts}
use Rattle.report_form.proofs.WritingLaws.{good_parts}

-- ------------------------------------------------------------------ records one after another

pub undotted : (d : Domain) → is_domain d ≡ true → without_dot d ≡ d
undotted d e = good_undotted d (all_good d e)

take_front : (a b : Octets) → take (length a) (a ++ b) ≡ a
take_front [] b = refl
take_front (x ∷ a) b = ap (λ l. x ∷ l) (take_front a b)

drop_front : (a b : Octets) → drop (length a) (a ++ b) ≡ b
drop_front [] b = refl
drop_front (x ∷ a) b = drop_front a b

unfoldable pack : Octets → Octets
pack b = 0 ∷ 0 ∷ (length b / 256) ∷ (length b % 256) ∷ b

pack_size : (b rest : Octets) → size_of (pack b ++ rest) ≡ length b
unfolding pack size_of
pack_size b rest = omega arith

pack_length : (b rest : Octets) → length (pack b ++ rest) ≡ 4 + length b + length rest
unfolding pack
pack_length b rest = omega (arith, length-append b rest)

pack_whole : (b rest : Octets) → is_whole (pack b ++ rest) ≡ true
pack_whole b rest = whole (pack b ++ rest) (omega (arith, pack_size b rest, pack_length b rest))

pack_body : (b rest : Octets) → body_of (pack b ++ rest) ≡ b
unfolding body_of pack
pack_body b rest = ap (λ n. take n (b ++ rest)) (pack_size b rest) ∙ take_front b rest

pack_after : (b rest : Octets) → after_record (pack b ++ rest) ≡ rest
unfolding after_record pack
pack_after b rest =
    let four : 4 + size_of (pack b ++ rest) ≡ suc (suc (suc (suc (length b)))) = omega (arith, pack_size b rest) in
    ap (λ n. drop n (pack b ++ rest)) four ∙ drop_front b rest

pack_first : (b rest : Octets) → first_body (pack b ++ rest) ≡ Some b
unfolding first_body
pack_first b rest = rw (pack_whole b rest) (ap Some (pack_body b rest))

unfoldable packs : List Octets → Octets
packs bs = flatten (map pack bs)

packs_more : (b : Octets) (bs : List Octets) → packs (b ∷ bs) ≡ pack b ++ packs bs
unfolding packs flatten
packs_more b bs = refl

at_packs : (pre : List Octets) (b : Octets) (rest : List Octets) → body_at (length pre) (packs (pre ++ (b ∷ rest))) ≡ Some b
unfolding body_at
at_packs [] b rest = ap first_body (packs_more b rest) ∙ pack_first b (packs rest)
at_packs (p ∷ pre) b rest = ap (λ l. body_at (length pre) (after_record l)) (packs_more p (pre ++ (b ∷ rest))) ∙ ap (body_at (length pre)) (pack_after p (packs (pre ++ (b ∷ rest)))) ∙ at_packs pre b rest

-- ------------------------------------------------------------------ sets

set_one : (n : ℕ) (b rest : Octets) → set_most (suc n) (pack b ++ rest) ≡ reported b ∷ set_most n rest
unfolding set_most pack body_or_empty
set_one n b rest = λ j. reported (body_or_empty (pack_first b rest j)) ∷ set_most n (pack_after b rest j)

set_none : (n : ℕ) → set_most n [] ≡ []
unfolding set_most
set_none zero = refl
set_none (suc n) = refl

packs_none : packs [] ≡ []
unfolding packs flatten
packs_none = refl

set_packs : (n : ℕ) (bs : List Octets) → length bs ≤ n → set_most n (packs bs) ≡ map reported bs
set_packs n [] h = ap (set_most n) packs_none ∙ set_none n
set_packs zero (b ∷ bs) h = absurd (omega (arith, h))
set_packs (suc n) (b ∷ bs) h = ap (set_most (suc n)) (packs_more b bs) ∙ set_one n b (packs bs) ∙ ap (λ l. reported b ∷ l) (set_packs n bs (omega (arith, h)))

packs_long : (bs : List Octets) → length bs ≤ length (packs bs)
packs_long [] = omega arith
packs_long (b ∷ bs) = omega (arith, packs_long bs, ap length (packs_more b bs), pack_length b (packs bs))

set_is : (bs : List Octets) → set_in (packs bs) ≡ map reported bs
unfolding set_in
set_is bs = set_packs (length (packs bs)) bs (packs_long bs)

-- ------------------------------------------------------------------ identifiers

-- the selector of SPF is not written
unfoldable sel : Reported → Octets
sel i = if eqb i.kind 1 then i.selector else []

unfoldable bare : Reported → Reported
bare i = record { kind = i.kind; outcome = i.outcome; selector = sel i; domain = i.domain }

unfoldable id_body : Reported → Octets
id_body i = i.kind ∷ i.outcome ∷ length (sel i) ∷ (sel i ++ i.domain)

sel_undotted : (i : Reported) → good_identifier i ≡ true → without_dot (sel i) ≡ sel i
unfolding sel good_identifier without_dot
sel_undotted i e = go (eqb i.kind 1) refl
  where
    go : (b : Bool) → eqb i.kind 1 ≡ b → without_dot (if b then i.selector else []) ≡ (if b then i.selector else [])
    go false f = refl
    go true f =
        let (d, s) = both_true (is_domain i.domain) (not (eqb i.kind 1) || is_domain i.selector) e in
        let t : (not true || is_domain i.selector) ≡ true = rw f at s in
        undotted i.selector t

domain_of : (i : Reported) → good_identifier i ≡ true → is_domain i.domain ≡ true
unfolding good_identifier
domain_of i e = (both_true (is_domain i.domain) (not (eqb i.kind 1) || is_domain i.selector) e).0

id_reported : (i : Reported) → good_identifier i ≡ true → reported (id_body i) ≡ bare i
unfolding reported id_body bare
id_reported i e =
    let good : is_domain i.domain ≡ true = domain_of i e in
    let s : without_dot (take (length (sel i)) (sel i ++ i.domain)) ≡ sel i = ap without_dot (take_front (sel i) i.domain) ∙ sel_undotted i e in
    let three : 3 + length (sel i) ≡ suc (suc (suc (length (sel i)))) = omega arith in
    let d : without_dot (drop (3 + length (sel i)) (id_body i)) ≡ i.domain = ap (λ n. without_dot (drop n (id_body i))) three ∙ ap without_dot (drop_front (sel i) i.domain) ∙ undotted i.domain good in
    λ j. record { kind = i.kind; outcome = i.outcome; selector = s j; domain = d j }

ids_reported : (is : List Reported) → all good_identifier is ≡ true → map reported (map id_body is) ≡ map bare is
unfolding all
ids_reported [] e = refl
ids_reported (i ∷ is) e =
    let (a, b) = both_true (good_identifier i) (all good_identifier is) e in
    λ j. id_reported i a j ∷ ids_reported is b j

bare_given : (is : List Reported) → map with_good_domain (map bare is) ≡ map with_good_domain is
unfolding with_good_domain bare
bare_given [] = refl
bare_given (i ∷ is) = ap (λ l. with_good_domain i ∷ l) (bare_given is)

no_set : (is : List Reported) (q : Refusal) → identifiers_from 0 false (map with_good_domain is) ≡ not_ok q → good_set is ≡ None
unfolding good_set
no_set is q f = rw (f, good_set)

set_passed : (is : List Reported) → not (is_nothing (good_set is)) ≡ true → (l : List Identifier) × (identifiers_from 0 false (map with_good_domain is) ≡ ok l)
unfolding good_set is_nothing
set_passed is e = go (identifiers_from 0 false (map with_good_domain is)) refl
  where
    go : (r : OrRefused (List Identifier)) → identifiers_from 0 false (map with_good_domain is) ≡ r → (l : List Identifier) × (identifiers_from 0 false (map with_good_domain is) ≡ ok l)
    go (ok l) f = (l, f)
    go (not_ok q) f = absurd (false≢true (sym (ap (λ o. not (is_nothing o)) (no_set is q f)) ∙ e))

bare_good : (is : List Reported) → not (is_nothing (good_set is)) ≡ true → good_set (map bare is) ≡ Some (map bare is)
unfolding good_set
bare_good is e = let (l, f) = set_passed is e in rw (bare_given is, f, good_set)

bare_dkim : (i : Reported) → dkim_element (bare i) ≡ dkim_element i
unfolding dkim_element bare sel
bare_dkim i = go (eqb i.kind 1) refl
  where
    go : (b : Bool) → eqb i.kind 1 ≡ b → dkim_element (bare i) ≡ dkim_element i
    go true f = rw f
    go false f = rw f

bare_spf : (i : Reported) → spf_element (bare i) ≡ spf_element i
unfolding spf_element bare
bare_spf i = refl

bare_identifier : (i : Reported) → good_identifier i ≡ true → good_identifier (bare i) ≡ true
unfolding good_identifier bare sel
bare_identifier i e = go (eqb i.kind 1) refl e
  where
    go : (b : Bool) → eqb i.kind 1 ≡ b → good_identifier i ≡ true → good_identifier (bare i) ≡ true
    go true f g = rw f (rw f at g)
    go false f g = rw f (rw f at g)

-- ------------------------------------------------------------------ lines

bare_results : (is : List Reported) → (flatten (map dkim_element (map bare is)) ≡ flatten (map dkim_element is)) × (flatten (map spf_element (map bare is)) ≡ flatten (map spf_element is)) × (all good_identifier is ≡ true → all good_identifier (map bare is) ≡ true)
unfolding flatten all
bare_results [] = (refl, refl, λ e. e)
bare_results (i ∷ is) =
    let (a, b, c) = bare_results is in (
      (λ j. bare_dkim i j ++ a j),
      (λ j. bare_spf i j ++ b j),
      λ e. let (f, g) = both_true (good_identifier i) (all good_identifier is) e in rw (bare_identifier i f) (c g),
    )

-- a row with both its numbers at a place
unfoldable numbered : ℕ → Row → Row
numbered n r = record {
  seen = record { source = r.seen.source; disposition = r.seen.disposition; dkim = r.seen.dkim; spf = r.seen.spf; spare = r.seen.spare; author = n; set = n };
  count = r.count;
}

unfoldable placed : ℕ → Line → Line
placed n l = record { row = numbered n l.row; names = record { author = l.names.author; identifiers = map bare l.names.identifiers } }

unfoldable rows_from : ℕ → List Line → List Row
rows_from n [] = []
rows_from n (l ∷ ls) = numbered n l.row ∷ rows_from (suc n) ls

unfoldable lines_from : ℕ → List Line → List Line
lines_from n [] = []
lines_from n (l ∷ ls) = placed n l ∷ lines_from (suc n) ls

placed_element : (n : ℕ) (l : Line) → record_element (placed n l) ≡ record_element l
unfolding record_element placed numbered row_element policy_evaluated auth_results
placed_element n l =
    let (a, b, c) = bare_results l.names.identifiers in
    λ j. element "record" (
    row_element l.row
    ++ element "identifiers" (element "header_from" (lower l.names.author))
    ++ element "auth_results" (a j ++ b j))

lines_elements : (n : ℕ) (ls : List Line) → flatten (map record_element (lines_from n ls)) ≡ flatten (map record_element ls)
unfolding lines_from flatten
lines_elements n [] = refl
lines_elements n (l ∷ ls) = λ j. placed_element n l j ++ lines_elements (suc n) ls j

placed_good : (n : ℕ) (l : Line) → good_line l ≡ true → good_line (placed n l) ≡ true
unfolding good_line placed
placed_good n l e =
    let (a, b) = both_true (is_domain l.names.author) (all good_identifier l.names.identifiers) e in
    rw (a, (bare_results l.names.identifiers).2 b)

lines_good : (n : ℕ) (ls : List Line) → all (good_entry widths) ls ≡ true → all good_line (lines_from n ls) ≡ true
unfolding lines_from all
lines_good n [] e = refl
lines_good n (l ∷ ls) e =
    let (a, b) = both_true (good_entry widths l) (all (good_entry widths) ls) e in
    rw (placed_good n l (entry_parts widths l a).2) (lines_good (suc n) ls b)

-- ------------------------------------------------------------------ the lists

unfoldable authors_of : List Line → List Octets
authors_of ls = map (λ l. l.names.author) ls

unfoldable sets_of : List Line → List Octets
sets_of ls = map (λ l. packs (map id_body l.names.identifiers)) ls

module _ (authors sets : Octets) where
  abbrev both : Lists
  both = record { authors = authors; sets = sets }

  named_one : (n : ℕ) (l : Line) → good_entry widths l ≡ true → body_at n authors ≡ Some l.names.author → body_at n sets ≡ Some (packs (map id_body l.names.identifiers))
      → named_by both n n ≡ Some (placed n l).names
  unfolding named_by both_named set_of placed good_line
  named_one n l e f g =
      let (r, s, t) = entry_parts widths l e in
      let (a, b) = both_true (is_domain l.names.author) (all good_identifier l.names.identifiers) t in
      let is = l.names.identifiers in
      let is_set : good_set (set_in (packs (map id_body is))) ≡ Some (map bare is) = ap good_set (set_is (map id_body is) ∙ ids_reported is b) ∙ bare_good is s in
      (λ j. both_named (f j) (set_of (g j))) ∙ (λ j. both_named (Some l.names.author) (is_set j)) ∙ ap (λ d. Some (record { author = d; identifiers = map bare is })) (undotted l.names.author a)

  lines_one : (n : ℕ) (l : Line) (rows : List Row) (ls : List Line) → named_by both n n ≡ Some (placed n l).names → lines both rows ≡ Some ls → lines both (numbered n l.row ∷ rows) ≡ Some (placed n l ∷ ls)
  unfolding lines add_line numbered placed
  lines_one n l rows ls e f = λ j. add_line (numbered n l.row) (e j) (f j)

lines_all : (pre : List Line) (ls : List Line) → all (good_entry widths) ls ≡ true
    → lines (record { authors = packs (authors_of (pre ++ ls)); sets = packs (sets_of (pre ++ ls)) }) (rows_from (length pre) ls) ≡ Some (lines_from (length pre) ls)
unfolding rows_from lines_from lines all authors_of sets_of
lines_all pre [] e = refl
lines_all pre (l ∷ ls) e =
    let (a, b) = both_true (good_entry widths l) (all (good_entry widths) ls) e in
    let authors = packs (authors_of (pre ++ (l ∷ ls))) in
    let sets = packs (sets_of (pre ++ (l ∷ ls))) in
    let longer : (pre ++ (l ∷ [])) ++ ls ≡ pre ++ (l ∷ ls) = append_assoc pre (l ∷ []) ls in
    let next : length (pre ++ (l ∷ [])) ≡ suc (length pre) = length-append pre (l ∷ []) ∙ omega arith in
    let more : lines (record { authors = authors; sets = sets }) (rows_from (suc (length pre)) ls) ≡ Some (lines_from (suc (length pre)) ls)
    = subst (λ z. lines (record { authors = packs (authors_of z); sets = packs (sets_of z) }) (rows_from (suc (length pre)) ls) ≡ Some (lines_from (suc (length pre)) ls)) longer
    (subst (λ n. lines (record { authors = packs (authors_of ((pre ++ (l ∷ [])) ++ ls)); sets = packs (sets_of ((pre ++ (l ∷ [])) ++ ls)) }) (rows_from n ls) ≡ Some (lines_from n ls)) next (lines_all (pre ++ (l ∷ [])) ls b)) in
    lines_one authors sets (length pre) l (rows_from (suc (length pre)) ls) (lines_from (suc (length pre)) ls)
    (named_one authors sets (length pre) l a (found (λ x. x.names.author) pre) (found (λ x. packs (map id_body x.names.identifiers)) pre)) more
  where
    found : (f : Line → Octets) (pre : List Line) → body_at (length pre) (packs (map f (pre ++ (l ∷ ls)))) ≡ Some (f l)
    found f pre = ap (λ n. body_at n (packs (map f (pre ++ (l ∷ ls))))) (sym (map_length f pre)) ∙ ap (λ z. body_at (length (map f pre)) (packs z)) (map_append f pre) ∙ at_packs (map f pre) (f l) (map f ls)
      where
        map_length : (f : Line → Octets) (pre : List Line) → length (map f pre) ≡ length pre
        map_length f [] = refl
        map_length f (x ∷ pre) = ap suc (map_length f pre)

        map_append : (f : Line → Octets) (pre : List Line) → map f (pre ++ (l ∷ ls)) ≡ map f pre ++ (f l ∷ map f ls)
        map_append f [] = refl
        map_append f (x ∷ pre) = ap (λ z. f x ∷ z) (map_append f pre)

-- ------------------------------------------------------------------ rows

row_counted : (r : Row) → good_row widths r ≡ true → is_free r ≡ false
unfolding is_free
row_counted r e = let (a, b, c) = row_parts widths r e in positive r.count b
  where
    positive : (n : ℕ) → 1 ≤ n → eqb n 0 ≡ false
    positive zero h = absurd (omega (arith, h))
    positive (suc n) h = ne_eqb (suc n) 0 (λ e. absurd (omega (arith, e)))

numbered_good : (n : ℕ) (r : Row) → good_row widths (numbered n r) ≡ good_row widths r
unfolding good_row numbered
numbered_good n r = refl

rows_good : (n : ℕ) (ls : List Line) → all (good_entry widths) ls ≡ true → all (good_row widths) (rows_from n ls) ≡ true
unfolding rows_from all
rows_good n [] e = refl
rows_good n (l ∷ ls) e =
    let (a, b) = both_true (good_entry widths l) (all (good_entry widths) ls) e in
    rw (numbered_good n l.row ∙ (entry_parts widths l a).0) (rows_good (suc n) ls b)

counted_one : (r : Row) (rs : List Row) → is_free r ≡ false → counted_rows (r ∷ rs) ≡ r ∷ counted_rows rs
unfolding counted_rows
counted_one r rs e = rw (e, counted_rows)

rows_counted : (rs : List Row) → all (good_row widths) rs ≡ true → counted_rows rs ≡ rs
unfolding all counted_rows
rows_counted [] e = refl
rows_counted (r ∷ rs) e =
    let (a, b) = both_true (good_row widths r) (all (good_row widths) rs) e in
    counted_one r rs (row_counted r a) ∙ ap (λ l. r ∷ l) (rows_counted rs b)

rows_length : (n : ℕ) (ls : List Line) → length (rows_from n ls) ≡ length ls
unfolding rows_from
rows_length n [] = refl
rows_length n (l ∷ ls) = ap suc (rows_length (suc n) ls)

take_all : (n : ℕ) (rs : List Row) → length rs ≤ n → take n rs ≡ rs
take_all zero [] h = refl
take_all zero (r ∷ rs) h = absurd (omega (arith, h))
take_all (suc n) [] h = refl
take_all (suc n) (r ∷ rs) h = ap (λ l. r ∷ l) (take_all n rs (omega (arith, h)))

-- ------------------------------------------------------------------ the report

written_by : (d : Domain) (rows : List Row) (lists : Lists) (by : Reporter) (s : Settings) (ls : List Line) → is_empty rows ≡ false → counted_rows (on_list rows) ≡ rows → lines lists rows ≡ Some ls
    → good_texts by.organization by.email by.contact ≡ true → good_file d by.id by.begin by.end ≡ true → all good_line ls ≡ true → lower d ≡ d → report (record { domain = Some d; rows = rows }) lists by s ≡ ok (report_text d s by ls)
unfolding report ◌>>=◌ or_refuse refuse_if
written_by d rows lists by s ls a b c e f g h = rw (b, a, c, e, f, g, h)

some_rows : (n : ℕ) (ls : List Line) → is_empty ls ≡ false → is_empty (rows_from n ls) ≡ false
unfolding rows_from
some_rows n [] e = absurd (true≢false e)
some_rows n (l ∷ ls) e = refl

front_parts : (d : Domain) (by : Reporter) → good_front widths d by ≡ true
    → (is_domain d ≡ true) × (same (lower d) d ≡ true) × (good_texts by.organization by.email by.contact ≡ true) × (good_id by.id ≡ true) × (by.begin ≤ widths.times) × (by.end ≤ widths.times)
unfolding good_front
front_parts d by e =
    let (f, end) = both_true (is_domain d && same (lower d) d && good_texts by.organization by.email by.contact && good_id by.id && leb by.begin widths.times) (leb by.end widths.times) e in
    let (g, begin) = both_true (is_domain d && same (lower d) d && good_texts by.organization by.email by.contact && good_id by.id) (leb by.begin widths.times) f in
    let (h, id_ok) = both_true (is_domain d && same (lower d) d && good_texts by.organization by.email by.contact) (good_id by.id) g in
    let (i, texts) = both_true (is_domain d && same (lower d) d) (good_texts by.organization by.email by.contact) h in
    let (j, low) = both_true (is_domain d) (same (lower d) d) i in
    (j, low, texts, id_ok, leb-true by.begin widths.times begin, leb-true by.end widths.times end)

file_good : (d : Domain) (by : Reporter) → is_domain d ≡ true → good_id by.id ≡ true → by.begin ≤ by.end → good_file d by.id by.begin by.end ≡ true
unfolding good_file
file_good d by a e h = rw (a, e, le-leb by.begin by.end h)

-- every text of the form, its end not below its begin, is written
pub written : (w : Writing) → good widths w ≡ true → w.reporter.begin ≤ w.reporter.end
    → (l : Listing) × (lists : Lists) × Kept l w.reporter × (report l lists w.reporter w.settings ≡ ok (text_of w))
unfolding text_of report_text on_list
written w g h =
    let p = good_parts widths w g in
    let (a, b, c, d, e, f) = front_parts w.domain w.reporter p.front in
    let rows = rows_from 0 w.lines in
    let lists : Lists = record { authors = packs (authors_of w.lines); sets = packs (sets_of w.lines) } in
    let good_rows = rows_good 0 w.lines p.entries in
    let all_rows : counted_rows (take 256 rows) ≡ rows = ap counted_rows (take_all 256 rows (omega (arith, rows_length 0 w.lines, p.few))) ∙ rows_counted rows good_rows in (
      record { domain = Some w.domain; rows = rows },
      lists,
      record {
        within = ap (all (good_row widths)) all_rows ∙ good_rows;
        times = (e, f);
      },
      written_by w.domain rows lists w.reporter w.settings (lines_from 0 w.lines) (some_rows 0 w.lines p.some) all_rows (lines_all [] w.lines p.entries) c (file_good w.domain w.reporter a d h) (lines_good 0 w.lines p.entries) (same_true (lower w.domain) w.domain b)
          ∙ ap (λ z. ok (text_with z)) (lines_elements 0 w.lines),
    )
  where
    text_with : Octets → Octets
    text_with z =
        octets "<?xml version=\"1.0\" encoding=\"UTF-8\"?>"
        ++ octets "<feedback xmlns=\"urn:ietf:params:xml:ns:dmarc-2.0\">"
        ++ metadata w.reporter
        ++ policy_published w.domain (published w.settings)
        ++ z
        ++ octets "</feedback>"
