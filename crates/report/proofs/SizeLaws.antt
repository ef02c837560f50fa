-- How long the elements of a report are, each bound met by some input, and so the whole.
use mathlib.Core.Path.{◌≡◌, refl, sym, ap, ◌∙◌}
use mathlib.Core.List.{List, [], ◌∷◌, map, flatten}
use mathlib.Core.Logic.{◌⊎◌, inl, inr}
use mathlib.Core.Bool.{Bool, true, false, ◌&&◌, ◌||◌, not, true≢false}
use Prim.Native.Nat.{ℕ, zero, suc, ◌+◌, ◌*◌, ◌-◌, ◌/◌, ◌^◌, ◌≤◌, ◌<◌}
use Prim.Native.String.{String}
use native.Mathlib.Decide.{dec_le}
use native.Mathlib.Omega.{arith}
use lib.Dec.{eqb, leb, ltb}
use lib.ListN.{length, take, drop, length-append, length-take, length-drop}
use borrow.Author.Tests.{eqb-true, leb-true, ltb-true, not-false}
use Rattle.std.specs.Prelude.{if◌then◌else◌, Option, None, Some}
use Rattle.octets.specs.Octets.{Octets, octets, is_empty, is_set, all, between, lower}
use Rattle.octets.specs.Decimal.{decimal}
use Rattle.octets.specs.Refusing.{OrRefused, ok, not_ok, refusal}
use Rattle.octets.proofs.DecimalLaws.{decimal_below, twenty_digits}
use Rattle.octets.proofs.TextLaws.{lower_length}
use Rattle.octets.proofs.PartLaws.{made_of_long}
use Rattle.octets.proofs.RefusingLaws.{or_refuse_ok, refuse_if_ok}
use Rattle.domain.specs.Domain.{without_dot, is_domain}
use Rattle.domain.proofs.RuleLaws.{domain_short}
use Rattle.policy.specs.declared.Policy.{Policy}
use Rattle.policy.specs.declared.Setting.{Setting}
use Rattle.policy.specs.declared.Mode.{Mode}
use Rattle.policy.specs.declared.Settings.{Settings}
use Rattle.publishing.specs.Publishing.{setting_value}
use Rattle.reporting.specs.FileName.{alphanumeric, good_id}
use Rattle.book.specs.Start.{identifiers_from}
use Rattle.rows.specs.declared.Seen.{Seen}
use Rattle.rows.specs.declared.Row.{Row}
use Rattle.rows.specs.Lists.{Lists, Reported, Named, body_at, set_in, with_good_domain, good_set, set_of, both_named, named_by}
use Rattle.rows.specs.Rows.{Listing, is_free, on_list}
use Rattle.rows.proofs.SetLaws.{Fine, Passes, fine}
use Rattle.report.specs.Xml.{element, optional_element, entity, with_entities, after_mark, parted, hex_digits, groups, is_mapped, address}
use Rattle.report.specs.Report.{Reporter, date_range, metadata, published, published_mode, published_testing, policy_published, row_policy, reported_disposition, result_of_alignment}
use Rattle.report.specs.Report.{policy_evaluated, row_element, outcome_word, dkim_element, spf_element, auth_results, Line, record_element, report_text, counted_rows, add_line, lines}
use Rattle.report.specs.Report.{good_text, good_texts, good_identifier, good_line, good_file, report}
use Rattle.std.proofs.lemmas.Option.{none-some}

pub both_hold : (a b : Bool) → (a && b) ≡ true → (a ≡ true) × (b ≡ true)
both_hold true b e = (refl, e)
both_hold false b e = absurd (true≢false (sym e))

pub all_parts : {A : Type 0} (f : A → Bool) (n : ℕ) (xs : List A) → all f xs ≡ true → (all f (take n xs) ≡ true) × (all f (drop n xs) ≡ true)
unfolding all
all_parts f zero xs e = (refl, e)
all_parts f (suc n) [] e = (refl, refl)
all_parts f (suc n) (x ∷ xs) e =
    let (a, b) = both_hold (f x) (all f xs) e in
    let (c, d) = all_parts f n xs b in
    (rw a c, d)

-- ------------------------------------------------------------------ elements and texts

pub element_size : (name : String) (n : ℕ) → length (octets name) ≡ n → (body : Octets) → length (element name body) ≡ n + n + 5 + length body
unfolding element octets
element_size name n e body = rw (length-append, length-append, length-append, length-append, length-append, e) (omega arith)

optional_size : (name : String) (n : ℕ) → length (octets name) ≡ n → (body : Octets) → length (optional_element name body) ≤ n + n + 5 + length body
unfolding optional_element
optional_size name n e [] = omega arith
optional_size name n e (x ∷ body) = omega (arith, element_size name n e (x ∷ body))

entity_size : (x : ℕ) → length (entity x) ≤ 5
unfolding entity octets
entity_size x = go (eqb x 38) (eqb x 60) (eqb x 62)
  where
    go : (a b c : Bool) → length (if a then octets "&amp;" else if b then octets "&lt;" else if c then octets "&gt;" else x ∷ []) ≤ 5
    go true b c = omega arith
    go false true c = omega arith
    go false false true = omega arith
    go false false false = omega arith

escaped_size : (s : Octets) → length (with_entities s) ≤ 5 * length s
unfolding with_entities flatten
escaped_size [] = omega arith
escaped_size (x ∷ s) = rw length-append (omega (arith, entity_size x, escaped_size s))

-- ------------------------------------------------------------------ addresses

hex_size : (n x : ℕ) → length (hex_digits n x) ≤ n
unfolding hex_digits
hex_size zero x = omega arith
hex_size (suc n) x = go (hex_size n (x / 16)) (ltb x 16) refl
  where
    go : length (hex_digits n (x / 16)) ≤ n → (b : Bool) → ltb x 16 ≡ b → length (hex_digits (suc n) x) ≤ suc n
    go ih true e = rw (e, hex_digits) (omega arith)
    go ih false e = rw (e, hex_digits, length-append) (omega (arith, ih))

parted_size : (mark : Octets) (ts : List Octets) → length (parted mark ts) ≤ length (after_mark mark ts) - length mark
unfolding parted after_mark flatten
parted_size mark [] = omega arith
parted_size mark (t ∷ ts) = rw (length-append, length-append, length-append) (omega arith)

marked_groups : (s : Octets) → 2 * length (after_mark (octets ":") (groups s)) ≤ 5 * length s
unfolding after_mark groups flatten octets
marked_groups [] = omega arith
marked_groups (a ∷ []) = omega arith
marked_groups (a ∷ b ∷ s) = rw (length-append, length-append) (omega (arith, hex_size 4 (a * 256 + b), marked_groups s))

pub groups_size : (s : Octets) → 2 * length (parted (octets ":") (groups s)) ≤ 5 * length s - 2
unfolding octets
groups_size s = omega (arith, parted_size (octets ":") (groups s), marked_groups s)

marked_decimals : (s : Octets) → all (λ x. ltb x 256) s ≡ true → length (after_mark (octets ".") (map decimal s)) ≤ 4 * length s
unfolding after_mark flatten octets all
marked_decimals [] e = omega arith
marked_decimals (x ∷ s) e =
    let (a, b) = both_hold (ltb x 256) (all (λ x. ltb x 256) s) e in
    let small : x < 256 = ltb-true x 256 a in
    rw (length-append, length-append) (omega (arith, decimal_below 2 x (omega (arith, small)), marked_decimals s b))

pub address_size : (s : Octets) → length s ≡ 16 → all (λ x. ltb x 256) s ≡ true → length (address s) ≤ 39
unfolding address octets
address_size s h e = go (is_mapped s)
  where
    go : (b : Bool) → length (if b then parted (octets ".") (map decimal (drop 12 s)) else parted (octets ":") (groups s)) ≤ 39
    go true = omega (arith, h, length-drop 12 s, parted_size (octets ".") (map decimal (drop 12 s)), marked_decimals (drop 12 s) (all_parts (λ x. ltb x 256) 12 s e).1)
    go false = omega (arith, h, groups_size s)

-- ------------------------------------------------------------------ rows

disposition_size : (p : Policy) (a : Bool) → length (reported_disposition p a) ≤ 10
unfolding reported_disposition octets
disposition_size Policy.None true = omega arith
disposition_size Policy.None false = omega arith
disposition_size Policy.Quarantine a = omega arith
disposition_size Policy.Reject a = omega arith

alignment_size : (a : Bool) → length (result_of_alignment a) ≤ 4
unfolding result_of_alignment octets
alignment_size true = omega arith
alignment_size false = omega arith

evaluated_size : (s : Seen) → length (policy_evaluated s) ≤ 106
unfolding policy_evaluated octets
evaluated_size s =
    rw (element_size "policy_evaluated" 16 refl, length-append, length-append, element_size "disposition" 11 refl, element_size "dkim" 4 refl, element_size "spf" 3 refl)
    (omega (arith, disposition_size (row_policy s.disposition) (is_set s.dkim || is_set s.spf), alignment_size (is_set s.dkim), alignment_size (is_set s.spf)))

pub row_size : (r : Row) → length (row_element r) ≤ 155 + length (address r.seen.source) + length (decimal r.count)
unfolding row_element octets
row_size r =
    rw (element_size "row" 3 refl, length-append, length-append, element_size "source_ip" 9 refl, element_size "count" 5 refl)
    (omega (arith, evaluated_size r.seen))

-- ------------------------------------------------------------------ identifiers

outcome_size : (n : ℕ) → length (outcome_word n) ≤ 9
unfolding outcome_word octets
outcome_size zero = omega arith
outcome_size (suc zero) = omega arith
outcome_size (suc (suc zero)) = omega arith
outcome_size (suc (suc (suc n))) = omega arith

-- it is written once, DKIM or SPF
identifier_size : (i : Reported) → good_identifier i ≡ true → length (dkim_element i) + length (spf_element i) ≤ 583
unfolding good_identifier dkim_element spf_element octets
identifier_size i g = go (eqb i.kind 1) refl (eqb i.kind 0) refl
  where
    named : (is_domain i.domain ≡ true) × ((not (eqb i.kind 1) || is_domain i.selector) ≡ true)
    named = both_hold (is_domain i.domain) (not (eqb i.kind 1) || is_domain i.selector) g

    short : length i.domain ≤ 253
    short = domain_short i.domain named.0

    go : (a : Bool) → eqb i.kind 1 ≡ a → (b : Bool) → eqb i.kind 0 ≡ b → length (dkim_element i) + length (spf_element i) ≤ 583
    go true e true f = absurd (omega (arith, eqb-true i.kind 1 e, eqb-true i.kind 0 f))
    go true e false f =
        rw (e, f, element_size "dkim" 4 refl, length-append, length-append, element_size "domain" 6 refl, element_size "selector" 8 refl, element_size "result" 6 refl, lower_length, lower_length)
        (omega (arith, short, domain_short i.selector (rw e at named.1), outcome_size i.outcome))
    go false e true f =
        rw (e, f, element_size "spf" 3 refl, length-append, element_size "domain" 6 refl, element_size "result" 6 refl, lower_length)
        (omega (arith, short, outcome_size i.outcome))
    go false e false f = rw (e, f) (omega arith)

identifiers_size : (is : List Reported) → all good_identifier is ≡ true → length (flatten (map dkim_element is)) + length (flatten (map spf_element is)) ≤ 583 * length is
unfolding all flatten
identifiers_size [] e = omega arith
identifiers_size (i ∷ is) e =
    let (a, b) = both_hold (good_identifier i) (all good_identifier is) e in
    rw (length-append, length-append) (omega (arith, identifier_size i a, identifiers_size is b))

-- ------------------------------------------------------------------ a set has 16 at most

fine_few : (index : ℕ) (seen : Bool) (is : List Reported) → index ≤ 16 → Fine index seen is → index + length is ≤ 16
unfolding Fine
fine_few index seen [] h f = omega (arith, h)
fine_few index seen (i ∷ is) h f = go f.2 (λ s. fine_few (suc index) s is f.0)
  where
    go : ((i.kind ≡ 1) × Fine (suc index) seen is) ⊎ ((i.kind ≡ 0) × (seen ≡ false) × Fine (suc index) true is) → ((s : Bool) → Fine (suc index) s is → suc index + length is ≤ 16)
        → index + length (i ∷ is) ≤ 16
    go (inl g) more = omega (arith, more seen g.1)
    go (inr g) more = omega (arith, more true g.2)

taken_is : {A : Type 0} (r : OrRefused A) (is taken : List Reported) → elim r [ ok _ ↦ Some is | not_ok q ↦ None ] ≡ Some taken → (is ≡ taken) × Passes r
taken_is (ok x) is taken e = (cc e, tt)
taken_is (not_ok q) is taken e = absurd (none-some taken e)

set_few : (body : Option Octets) (is : List Reported) → set_of body ≡ Some is → length is ≤ 16
unfolding set_of good_set
set_few None is e = absurd (none-some is e)
set_few (Some body) is e =
    let (same, passes) = taken_is (identifiers_from 0 false (map with_good_domain (set_in body))) (set_in body) is e in
    rw (← same) (omega (arith, fine_few 0 false (set_in body) (omega arith) (fine 0 false (set_in body) passes)))

both_few : (d : Option Octets) (o : Option (List Reported)) (n : Named) → both_named d o ≡ Some n → ((is : List Reported) → o ≡ Some is → length is ≤ 16) → length n.identifiers ≤ 16
unfolding both_named
both_few None o n e few = absurd (none-some n e)
both_few (Some d) None n e few = absurd (none-some n e)
both_few (Some d) (Some is) n e few = rw (← named) (few is refl)
  where
    named : record { author = without_dot d; identifiers = is } ≡ n
    named = cc e

named_few : (l : Lists) (author set : ℕ) (n : Named) → named_by l author set ≡ Some n → length n.identifiers ≤ 16
unfolding named_by
named_few l author set n e = both_few (body_at author l.authors) (set_of (body_at set l.sets)) n e (set_few (body_at set l.sets))

-- ------------------------------------------------------------------ records

record_size : (l : Line) → good_line l ≡ true → length l.names.identifiers ≤ 16 → length (record_element l) ≤ 9681 + length (row_element l.row)
unfolding good_line record_element auth_results octets
record_size l g few =
    let (a, b) = both_hold (is_domain l.names.author) (all good_identifier l.names.identifiers) g in
    rw (
      element_size "record" 6 refl,
      length-append,
      length-append,
      element_size "identifiers" 11 refl,
      element_size "header_from" 11 refl,
      element_size "auth_results" 12 refl,
      length-append,
      lower_length,
    )
    (omega (arith, few, domain_short l.names.author a, identifiers_size l.names.identifiers b))

abbrev Added : Row → Option Named → Option (List Line) → List Line → Type 0
Added r o more ls = (n : Named) × (rest : List Line) × (o ≡ Some n) × (more ≡ Some rest) × (record { row = r; names = n } ∷ rest ≡ ls)

added : (r : Row) (o : Option Named) (more : Option (List Line)) (ls : List Line) → add_line r o more ≡ Some ls → Added r o more ls
unfolding add_line
added r None more ls e = absurd (none-some ls e)
added r (Some n) None ls e = absurd (none-some ls e)
added r (Some n) (Some rest) ls e = (n, rest, refl, refl, cc e)

abbrev Few : List Row → List Line → Type 0
Few rows ls = length (flatten (map record_element ls)) ≤ 9681 * length rows + length (flatten (map row_element rows))

records_size : (l : Lists) (rows : List Row) (ls : List Line) → lines l rows ≡ Some ls → all good_line ls ≡ true → Few rows ls
unfolding lines all flatten
records_size l [] ls e g = let none : [] ≡ ls = cc e in rw (← none) (omega arith)
records_size l (r ∷ rows) ls e g = go (added r (named_by l r.seen.author r.seen.set) (lines l rows) ls e) (records_size l rows)
  where
    go : Added r (named_by l r.seen.author r.seen.set) (lines l rows) ls → ((ls : List Line) → lines l rows ≡ Some ls → all good_line ls ≡ true → Few rows ls) → Few (r ∷ rows) ls
    go (n, rest, named, more, same) ih =
        let line : Line = record { row = r; names = n } in
        let (a, b) = both_hold (good_line line) (all good_line rest) (rw (← same) at g) in
        rw (← same, length-append, length-append) (omega (arith, record_size line a (named_few l r.seen.author r.seen.set n named), ih rest more b))

-- ------------------------------------------------------------------ what stands before

text_size : (t : Octets) → good_text t ≡ true → length t ≤ 4096
unfolding good_text
text_size t e = leb-true (length t) 4096 (both_hold (leb (length t) 4096) (all (between 32 126) t) e).0

pub id_size : (id : Octets) → good_id id ≡ true → length id ≤ 64
unfolding good_id
id_size id e = go (dec_le (length id) 64)
  where
    go : Dec (length id ≤ 64) → length id ≤ 64
    go (yes h) = h
    go (no h) = absurd (true≢false (sym e ∙ made_of_long 64 alphanumeric id (omega arith)))

metadata_size : (by : Reporter) → good_texts by.organization by.email by.contact ≡ true → good_id by.id ≡ true → by.begin < 2 ^ 64 → by.end < 2 ^ 64 → length (metadata by) ≤ 61730
unfolding metadata date_range good_texts octets
metadata_size by t i b n =
    let (t3, c) = both_hold (not (is_empty by.organization) && not (is_empty by.email) && good_text by.organization && good_text by.email) (good_text by.contact) t in
    let (t2, e) = both_hold (not (is_empty by.organization) && not (is_empty by.email) && good_text by.organization) (good_text by.email) t3 in
    let (t1, o) = both_hold (not (is_empty by.organization) && not (is_empty by.email)) (good_text by.organization) t2 in
    rw (
      element_size "report_metadata" 15 refl,
      length-append,
      length-append,
      length-append,
      length-append,
      element_size "org_name" 8 refl,
      element_size "email" 5 refl,
      element_size "report_id" 9 refl,
      element_size "date_range" 10 refl,
      length-append,
      element_size "begin" 5 refl,
      element_size "end" 3 refl,
    )
    (omega (
      arith,
      escaped_size by.organization,
      escaped_size by.email,
      escaped_size by.contact,
      text_size by.organization o,
      text_size by.email e,
      text_size by.contact c,
      optional_size "extra_contact_info" 18 refl (with_entities by.contact),
      id_size by.id i,
      twenty_digits by.begin b,
      twenty_digits by.end n,
    ))

setting_size : (s : Setting) → length (setting_value s) ≤ 10
unfolding setting_value octets
setting_size Setting.Absent = omega arith
setting_size Setting.Invalid = omega arith
setting_size (Setting.Set Policy.None) = omega arith
setting_size (Setting.Set Policy.Quarantine) = omega arith
setting_size (Setting.Set Policy.Reject) = omega arith

mode_size : (m : Mode) → length (published_mode m) ≤ 1
unfolding published_mode octets
mode_size Mode.Relaxed = omega arith
mode_size Mode.Strict = omega arith

testing_size : (t : Bool) → length (published_testing t) ≤ 1
unfolding published_testing octets
testing_size true = omega arith
testing_size false = omega arith

published_size : (d : Octets) (s : Settings) → length d ≤ 253 → length (policy_published d s) ≤ 412
unfolding policy_published octets
published_size d s h =
    rw (
      element_size "policy_published" 16 refl,
      length-append,
      length-append,
      length-append,
      length-append,
      length-append,
      length-append,
      element_size "domain" 6 refl,
      element_size "p" 1 refl,
      element_size "adkim" 5 refl,
      element_size "aspf" 4 refl,
      element_size "testing" 7 refl,
    )
    (omega (
      arith,
      h,
      setting_size s.p,
      setting_size s.sp,
      setting_size s.np,
      optional_size "sp" 2 refl (setting_value s.sp),
      optional_size "np" 2 refl (setting_value s.np),
      mode_size s.adkim,
      mode_size s.aspf,
      testing_size s.t,
    ))

-- ------------------------------------------------------------------ the whole

counted_few : (rows : List Row) → length (counted_rows rows) ≤ length rows
unfolding counted_rows
counted_few [] = omega arith
counted_few (r ∷ rows) = go (counted_few rows) (is_free r)
  where
    go : length (counted_rows rows) ≤ length rows → (b : Bool) → length {A = Row} (elim b [ true ↦ counted_rows rows | false ↦ r ∷ counted_rows rows ]) ≤ suc (length rows)
    go ih true = omega (arith, ih)
    go ih false = omega (arith, ih)

pub text_whole : (d : Octets) (s : Settings) (by : Reporter) (ls : List Line)
    → length (report_text d s by ls) ≡ 100 + length (metadata by) + length (policy_published d (published s)) + length (flatten (map record_element ls))
unfolding report_text octets
text_whole d s by ls = rw (length-append, length-append, length-append, length-append, length-append) (omega arith)

-- a report that is not refused, by its rows' elements
pub report_size : (l : Listing) (lists : Lists) (by : Reporter) (s : Settings) → by.begin < 2 ^ 64 → by.end < 2 ^ 64 → (t : Octets) → report l lists by s ≡ ok t
    → length t ≤ 2540578 + length (flatten (map row_element (counted_rows (on_list l.rows))))
unfolding report good_file on_list
report_size l lists by s b n t e =
    let rows : List Row = counted_rows (take 256 l.rows) in
    let (d, (_, e₁)) = or_refuse_ok l.domain (refusal 27 0) _ t e in
    let (_, e₂) = refuse_if_ok (is_empty rows) (refusal 18 0) _ t e₁ in
    let (ls, (named, e₃)) = or_refuse_ok (lines lists rows) (refusal 28 0) _ t e₂ in
    let (texts, e₄) = refuse_if_ok (not (good_texts by.organization by.email by.contact)) (refusal 19 0) _ t e₃ in
    let (rest, e₅) = refuse_if_ok (not (good_file d by.id by.begin by.end && all good_line ls)) (refusal 11 0) _ t e₄ in
    let whole : report_text (lower d) s by ls ≡ t = cc e₅ in
    let (file, good) = both_hold (good_file d by.id by.begin by.end) (all good_line ls) (not-false _ rest) in
    let (names, _) = both_hold (is_domain d && good_id by.id) (leb by.begin by.end) file in
    let (name, id) = both_hold (is_domain d) (good_id by.id) names in
    omega (
      arith,
      ap length whole,
      text_whole (lower d) s by ls,
      metadata_size by (not-false _ texts) id b n,
      published_size (lower d) (published s) (omega (arith, lower_length d, domain_short d name)),
      records_size lists rows ls named good,
      counted_few (take 256 l.rows),
      length-take 256 l.rows,
    )
