-- The aggregate report as XML (document 02, Ask 9): "Write the report of RFC 9990 (document 002, section 3.1.1 and appendix A) from Ask 1's rows",
-- "elements in the schema's order". No element is written that no input gives a value to: "scope, reason and envelope_from never".
use mathlib.Core.List.{List, [], ◌∷◌, ◌++◌, map, flatten}
use Rattle.std.specs.Prelude.{Bool, true, false, ◌&&◌, ◌||◌, not, ℕ, eqb, leb, length, get_or, if◌then◌else◌, Option, None, Some}
use Rattle.octets.specs.Octets.{Octets, octets, is_empty, is_set, all, between, lower}
use Rattle.octets.specs.Decimal.{decimal}
use Rattle.octets.specs.Refusing.{◌>>=◌, OrRefused, ok, refusal, refuse_if, or_refuse}
use Rattle.domain.specs.Domain.{Domain, is_domain}
use Rattle.policy.specs.declared.Policy.{Policy}
use Rattle.policy.specs.declared.Mode.{Mode}
use Rattle.policy.specs.declared.Settings.{Settings}
use Rattle.force.specs.InForce.{usable, as_none}
use Rattle.publishing.specs.Publishing.{setting_value}
use Rattle.reporting.specs.FileName.{good_id}
use Rattle.rows.specs.declared.Seen.{Seen}
use Rattle.rows.specs.declared.Row.{Row}
use Rattle.rows.specs.Lists.{Lists, Reported, Named, named_by}
use Rattle.rows.specs.Rows.{Listing, is_free, on_list}
use Rattle.report.specs.Xml.{element, optional_element, with_entities, address}

-- "the reporter's texts organization, email and extra contact, report id, begin, end"
pub record Reporter : Type 0 where
  pub organization : Octets
  pub email : Octets
  pub contact : Octets
  pub id : Octets
  pub begin : ℕ
  pub end : ℕ

-- ------------------------------------------------------------------ report_metadata

unfoldable pub date_range : (begin end : ℕ) → Octets
date_range begin end = element "date_range" (element "begin" (decimal begin) ++ element "end" (decimal end))

unfoldable pub metadata : Reporter → Octets
metadata by = element "report_metadata" (
    element "org_name" (with_entities by.organization)
    ++ element "email" (with_entities by.email)
    ++ optional_element "extra_contact_info" (with_entities by.contact)
    ++ element "report_id" by.id
    ++ date_range by.begin by.end)

-- ------------------------------------------------------------------ policy_published

-- "and the policy published at the list's domain as 01 reads it, defaults too, all three policies none if not usable"
unfoldable pub published : Settings → Settings
published s = if usable s then s else as_none s

unfoldable pub published_mode : Mode → Octets
published_mode Mode.Relaxed = octets "r"
published_mode Mode.Strict = octets "s"

unfoldable pub published_testing : Bool → Octets
published_testing false = octets "n"
published_testing true = octets "y"

unfoldable pub policy_published : Domain → Settings → Octets
policy_published d s = element "policy_published" (
    element "domain" d
    ++ element "p" (setting_value s.p)
    ++ optional_element "sp" (setting_value s.sp)
    ++ optional_element "np" (setting_value s.np)
    ++ element "adkim" (published_mode s.adkim)
    ++ element "aspf" (published_mode s.aspf)
    ++ element "testing" (published_testing s.t))

-- ------------------------------------------------------------------ record

-- a row's disposition: 0 none, 1 quarantine, 2 reject; no call enters another number, and one that is there is read as none
unfoldable pub row_policy : ℕ → Policy
row_policy n = get_or (Policy.None ∷ Policy.Quarantine ∷ Policy.Reject ∷ []) n Policy.None

-- "disposition none with a method aligned `pass`"
unfoldable pub reported_disposition : Policy → (aligned : Bool) → Octets
reported_disposition Policy.None true = octets "pass"
reported_disposition Policy.None false = octets "none"
reported_disposition Policy.Quarantine aligned = octets "quarantine"
reported_disposition Policy.Reject aligned = octets "reject"

unfoldable pub result_of_alignment : Bool → Octets
result_of_alignment true = octets "pass"
result_of_alignment false = octets "fail"

unfoldable pub policy_evaluated : Seen → Octets
policy_evaluated s = element "policy_evaluated" (
    element "disposition" (reported_disposition (row_policy s.disposition) (is_set s.dkim || is_set s.spf))
    ++ element "dkim" (result_of_alignment (is_set s.dkim))
    ++ element "spf" (result_of_alignment (is_set s.spf)))

unfoldable pub row_element : Row → Octets
row_element r = element "row" (
    element "source_ip" (address r.seen.source)
    ++ element "count" (decimal r.count)
    ++ policy_evaluated r.seen)

-- "Outcomes 0, 1, 2 are written fail, pass, temperror"
unfoldable pub outcome_word : ℕ → Octets
outcome_word n = octets (get_or ("fail" ∷ "pass" ∷ "temperror" ∷ []) n "")

-- "a kind (0 SPF, 1 DKIM)"; "domains and selectors in lower case"
unfoldable pub dkim_element : Reported → Octets
dkim_element i =
    if eqb i.kind 1
    then element "dkim" (element "domain" (lower i.domain) ++ element "selector" (lower i.selector) ++ element "result" (outcome_word i.outcome))
    else []

unfoldable pub spf_element : Reported → Octets
spf_element i =
    if eqb i.kind 0 then element "spf" (element "domain" (lower i.domain) ++ element "result" (outcome_word i.outcome)) else []

-- "identifiers of a kind in list order", DKIM first by the schema
unfoldable pub auth_results : List Reported → Octets
auth_results is = element "auth_results" (flatten (map dkim_element is) ++ flatten (map spf_element is))

-- a row with what its two numbers name
pub record Line : Type 0 where
  pub row : Row
  pub names : Named

unfoldable pub record_element : Line → Octets
record_element l = element "record" (
    row_element l.row
    ++ element "identifiers" (element "header_from" (lower l.names.author))
    ++ auth_results l.names.identifiers)

-- ------------------------------------------------------------------ the whole

-- "First comes `<?xml ..", "then the root with `xmlns` in double quotes alone"
unfoldable pub report_text : Domain → Settings → Reporter → List Line → Octets
report_text d s by ls =
    octets "<?xml version=\"1.0\" encoding=\"UTF-8\"?>"
    ++ octets "<feedback xmlns=\"urn:ietf:params:xml:ns:dmarc-2.0\">"
    ++ metadata by
    ++ policy_published d (published s)
    ++ flatten (map record_element ls)
    ++ octets "</feedback>"

-- ------------------------------------------------------------------ refusals

-- "one record element per row with a count", "rows .. in list order"
unfoldable pub counted_rows : List Row → List Row
counted_rows [] = []
counted_rows (r ∷ rs) = elim (is_free r) [ true ↦ counted_rows rs | false ↦ r ∷ counted_rows rs ]

unfoldable pub add_line : Row → Option Named → Option (List Line) → Option (List Line)
add_line r None ls = None
add_line r (Some n) None = None
add_line r (Some n) (Some ls) = Some (record { row = r; names = n } ∷ ls)

-- 28 "such a row's number past its list, or a set that 01 would refuse 3 or 4"
unfoldable pub lines : Lists → List Row → Option (List Line)
lines l [] = Some []
lines l (r ∷ rs) = add_line r (named_by l r.seen.author r.seen.set) (lines l rs)

-- 19 "a text over 4,096 octets or with one outside 32 to 126"
unfoldable pub good_text : Octets → Bool
good_text t = leb (length t) 4096 && all (between 32 126) t

-- "organization or email empty, or .."
unfoldable pub good_texts : (organization email contact : Octets) → Bool
good_texts organization email contact =
    not (is_empty organization) && not (is_empty email) && good_text organization && good_text email && good_text contact

-- "11 also another domain written here, or a DKIM selector taken as one, that breaks 01's rule": a selector of SPF is not written
unfoldable pub good_identifier : Reported → Bool
good_identifier i = is_domain i.domain && (not (eqb i.kind 1) || is_domain i.selector)

unfoldable pub good_line : Line → Bool
good_line l = is_domain l.names.author && all good_identifier l.names.identifiers

-- 11 as for a file name: "bad .. policy domain, id empty, not alphanumeric or over 64 octets, begin after end"; the list's domain too, since a list is in
-- the caller's hands
unfoldable pub good_file : (policy_domain : Domain) (id : Octets) (begin end : ℕ) → Bool
good_file policy_domain id begin end = is_domain policy_domain && good_id id && leb begin end

-- "Refusals: 18 no row with a count; ..; order 27 (never cleared), 18, 28, 19, 11, 10"; 10 where it is written
unfoldable pub report : Listing → Lists → Reporter → Settings → OrRefused Octets
report l lists by s = do
  d ← or_refuse l.domain (refusal 27 0)
  let rows : List Row = counted_rows (on_list l.rows)
  _ ← refuse_if (is_empty rows) (refusal 18 0)
  ls ← or_refuse (lines lists rows) (refusal 28 0)
  _ ← refuse_if (not (good_texts by.organization by.email by.contact)) (refusal 19 0)
  _ ← refuse_if (not (good_file d by.id by.begin by.end && all good_line ls)) (refusal 11 0)
  ok (report_text (lower d) s by ls)
