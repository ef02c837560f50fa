-- Three reports, the order of the refusals, and a subject (document 02, Ask 9).
use Rattle.std.specs.Prelude.{◌≡◌, Bool, true, false, ℕ, ◌/◌, ◌%◌, length, replicate, None, Some}
use mathlib.Core.List.{List, [], ◌∷◌, ◌++◌, map, flatten}
use Prim.Native.String.{String}
use Rattle.octets.specs.Octets.{Octets, octets}
use Rattle.octets.specs.Refusing.{ok, not_ok, refusal}
use Rattle.policy.specs.declared.Policy.{Policy}
use Rattle.policy.specs.declared.Setting.{Setting}
use Rattle.policy.specs.declared.Mode.{Mode}
use Rattle.policy.specs.declared.Psd.{Psd}
use Rattle.policy.specs.declared.Settings.{Settings}
use Rattle.rows.specs.declared.Row.{Row}
use Rattle.rows.specs.Lists.{Lists}
use Rattle.rows.specs.Rows.{Listing}
use Rattle.report.specs.Report.{Reporter, good_text, report}
use Rattle.report.specs.Subject.{subject}

-- ------------------------------------------------------------------ what is handed in

-- a record of a list: two octets that are not read, its length, its body
unfoldable pub list_record : Octets → Octets
list_record body = 0 ∷ 0 ∷ (length body / 256) ∷ (length body % 256) ∷ body

unfoldable pub an_identifier : (kind outcome : ℕ) (selector domain : String) → Octets
an_identifier kind outcome selector domain = list_record (kind ∷ outcome ∷ length (octets selector) ∷ (octets selector ++ octets domain))

-- two author domains; three sets of identifiers, the second with none
unfoldable pub two_lists : Lists
two_lists = record {
  authors = list_record (octets "Example.com.") ++ list_record (octets "news.example.com");
  sets =
      list_record (an_identifier 0 0 "" "bounce.example.net" ++ an_identifier 1 1 "S1" "MAIL.example.com")
      ++ list_record []
      ++ list_record (an_identifier 1 2 "One" "a.example" ++ an_identifier 0 1 "?" "b.example." ++ an_identifier 1 0 "two." "c.example");
}

-- one author domain and one set
unfoldable pub of_one : (author : String) (set : Octets) → Lists
of_one author set = record { authors = list_record (octets author); sets = list_record set }

unfoldable pub an_ipv4 : Octets
an_ipv4 = 0 ∷ 0 ∷ 0 ∷ 0 ∷ 0 ∷ 0 ∷ 0 ∷ 0 ∷ 0 ∷ 0 ∷ 255 ∷ 255 ∷ 192 ∷ 0 ∷ 2 ∷ 1 ∷ []

unfoldable pub an_ipv6 : Octets
an_ipv6 = 32 ∷ 1 ∷ 13 ∷ 184 ∷ 0 ∷ 0 ∷ 0 ∷ 0 ∷ 0 ∷ 0 ∷ 0 ∷ 0 ∷ 0 ∷ 0 ∷ 0 ∷ 161 ∷ []

unfoldable pub a_row : (source : Octets) (disposition dkim spf author set count : ℕ) → Row
a_row source disposition dkim spf author set count = record {
  seen = record { source = source; disposition = disposition; dkim = dkim; spf = spf; spare = 7; author = author; set = set };
  count = count;
}

-- of the first author domain and the first set
unfoldable pub a_first_row : Row
a_first_row = a_row an_ipv4 0 0 0 0 0 1

unfoldable pub of_example : List Row → Listing
of_example rows = record { domain = Some (octets "example.com"); rows = rows }

unfoldable pub by_gate : (organization contact : String) (begin end : ℕ) → Reporter
by_gate organization contact begin end =
    record { organization = octets organization; email = octets "r@gate.example"; contact = octets contact; id = octets "r7"; begin = begin; end = end }

unfoldable pub with_policies : (p sp np : Setting) (aspf : Mode) (t : Bool) → Settings
with_policies p sp np aspf t = record { p = p; sp = sp; np = np; adkim = Mode.Relaxed; aspf = aspf; psd = Psd.Unset; t = t; reports = false }

unfoldable pub all_three : Settings
all_three = with_policies (Setting.Set Policy.Reject) (Setting.Set Policy.Quarantine) (Setting.Set Policy.Reject) Mode.Strict false

-- ------------------------------------------------------------------ what is given

pub record ReportExamples : Type 0 where
  -- a free row first, its numbers past both lists; "disposition none with a method aligned `pass`"; DKIM first, in lower case
  pub one_row : report (of_example (a_row an_ipv6 0 0 0 9 9 0 ∷ a_row an_ipv4 0 255 0 0 0 3 ∷ [])) two_lists (by_gate "A & B" "" 1700000000 1700086399) all_three
      ≡ ok (octets "<?xml version=\"1.0\" encoding=\"UTF-8\"?><feedback xmlns=\"urn:ietf:params:xml:ns:dmarc-2.0\">"
      ++ octets "<report_metadata><org_name>A &amp; B</org_name><email>r@gate.example</email>"
      ++ octets "<report_id>r7</report_id><date_range><begin>1700000000</begin><end>1700086399</end></date_range></report_metadata>"
      ++ octets "<policy_published><domain>example.com</domain><p>reject</p><sp>quarantine</sp><np>reject</np><adkim>r</adkim><aspf>s</aspf><testing>n</testing></policy_published>"
      ++ octets "<record><row><source_ip>192.0.2.1</source_ip><count>3</count>"
      ++ octets "<policy_evaluated><disposition>pass</disposition><dkim>pass</dkim><spf>fail</spf></policy_evaluated></row>"
      ++ octets "<identifiers><header_from>example.com</header_from></identifiers><auth_results>"
      ++ octets "<dkim><domain>mail.example.com</domain><selector>s1</selector><result>pass</result></dkim>"
      ++ octets "<spf><domain>bounce.example.net</domain><result>fail</result></spf></auth_results></record></feedback>")
  -- "all three policies none if not usable"; an address of groups; a set of no identifiers
  pub not_usable : report (of_example (a_row an_ipv6 2 0 0 1 1 1 ∷ [])) two_lists (by_gate "a<b>c" "call \"us\"" 0 9) (with_policies Setting.Absent Setting.Invalid Setting.Absent Mode.Relaxed true)
      ≡ ok (octets "<?xml version=\"1.0\" encoding=\"UTF-8\"?><feedback xmlns=\"urn:ietf:params:xml:ns:dmarc-2.0\">"
      ++ octets "<report_metadata><org_name>a&lt;b&gt;c</org_name><email>r@gate.example</email>"
      ++ octets "<extra_contact_info>call \"us\"</extra_contact_info>"
      ++ octets "<report_id>r7</report_id><date_range><begin>0</begin><end>9</end></date_range></report_metadata>"
      ++ octets "<policy_published><domain>example.com</domain><p>none</p><sp>none</sp><np>none</np><adkim>r</adkim><aspf>r</aspf><testing>y</testing></policy_published>"
      ++ octets "<record><row><source_ip>2001:db8:0:0:0:0:0:a1</source_ip><count>1</count>"
      ++ octets "<policy_evaluated><disposition>reject</disposition><dkim>fail</dkim><spf>fail</spf></policy_evaluated></row>"
      ++ octets "<identifiers><header_from>news.example.com</header_from></identifiers><auth_results></auth_results></record></feedback>")
  -- a list's domain in either case; policies that are absent; the other words; two of DKIM with one of SPF between them; the largest count
  pub two_rows : report (record { domain = Some (octets "EXAMPLE.com"); rows = a_row an_ipv4 0 0 0 0 2 4294967295 ∷ a_row an_ipv6 1 0 2 1 1 10 ∷ [] }) two_lists (by_gate "A" "" 9 9)
      (with_policies (Setting.Set Policy.Quarantine) Setting.Absent Setting.Absent Mode.Relaxed false)
      ≡ ok (octets "<?xml version=\"1.0\" encoding=\"UTF-8\"?><feedback xmlns=\"urn:ietf:params:xml:ns:dmarc-2.0\">"
      ++ octets "<report_metadata><org_name>A</org_name><email>r@gate.example</email>"
      ++ octets "<report_id>r7</report_id><date_range><begin>9</begin><end>9</end></date_range></report_metadata>"
      ++ octets "<policy_published><domain>example.com</domain><p>quarantine</p><adkim>r</adkim><aspf>r</aspf><testing>n</testing></policy_published>"
      ++ octets "<record><row><source_ip>192.0.2.1</source_ip><count>4294967295</count>"
      ++ octets "<policy_evaluated><disposition>none</disposition><dkim>fail</dkim><spf>fail</spf></policy_evaluated></row>"
      ++ octets "<identifiers><header_from>example.com</header_from></identifiers><auth_results>"
      ++ octets "<dkim><domain>a.example</domain><selector>one</selector><result>temperror</result></dkim>"
      ++ octets "<dkim><domain>c.example</domain><selector>two</selector><result>fail</result></dkim>"
      ++ octets "<spf><domain>b.example</domain><result>pass</result></spf></auth_results></record>"
      ++ octets "<record><row><source_ip>2001:db8:0:0:0:0:0:a1</source_ip><count>10</count>"
      ++ octets "<policy_evaluated><disposition>quarantine</disposition><dkim>fail</dkim><spf>pass</spf></policy_evaluated></row>"
      ++ octets "<identifiers><header_from>news.example.com</header_from></identifiers><auth_results></auth_results></record></feedback>")
  -- "order 27 (never cleared), 18, 28, 19, 11": each with all the faults behind it
  pub never_cleared : report (record { domain = None; rows = [] }) two_lists (by_gate "" "" 9 0) all_three ≡ not_ok (refusal 27 0)
  pub no_count : report (of_example (a_row an_ipv4 0 0 0 2 3 0 ∷ [])) two_lists (by_gate "" "" 9 0) all_three ≡ not_ok (refusal 18 0)
  pub past_authors : report (of_example (a_row an_ipv4 0 0 0 2 0 1 ∷ [])) two_lists (by_gate "" "" 9 0) all_three ≡ not_ok (refusal 28 0)
  pub past_sets : report (of_example (a_row an_ipv4 0 0 0 0 3 1 ∷ [])) two_lists (by_gate "" "" 9 0) all_three ≡ not_ok (refusal 28 0)
  pub no_organization : report (of_example (a_first_row ∷ [])) two_lists (by_gate "" "" 9 0) all_three ≡ not_ok (refusal 19 0)
  pub begin_after_end : report (of_example (a_first_row ∷ [])) two_lists (by_gate "A" "" 9 0) all_three ≡ not_ok (refusal 11 0)
  -- "11 also another domain written here": the list's own, which no call leaves so; an author's, an identifier's; "or a DKIM selector taken as one"
  pub forged_list : report (record { domain = Some (octets "a<b"); rows = a_first_row ∷ [] }) two_lists (by_gate "A" "" 0 9) all_three ≡ not_ok (refusal 11 0)
  pub bad_author : report (of_example (a_first_row ∷ [])) (of_one "a..b" []) (by_gate "A" "" 0 9) all_three ≡ not_ok (refusal 11 0)
  pub bad_domain : report (of_example (a_first_row ∷ [])) (of_one "a.example" (an_identifier 0 1 "" "a..b")) (by_gate "A" "" 0 9) all_three ≡ not_ok (refusal 11 0)
  pub bad_selector : report (of_example (a_first_row ∷ [])) (of_one "a.example" (an_identifier 1 1 "" "b.example")) (by_gate "A" "" 0 9) all_three ≡ not_ok (refusal 11 0)
  -- "a set that 01 would refuse 3 or 4": a kind, an outcome, a second SPF, a 17th; one that is cut off. Sixteen are taken, whatever their domains
  pub kind_2 : report (of_example (a_first_row ∷ [])) (of_one "a..b" (an_identifier 2 1 "" "")) (by_gate "" "" 9 0) all_three ≡ not_ok (refusal 28 0)
  pub outcome_3 : report (of_example (a_first_row ∷ [])) (of_one "a..b" (an_identifier 1 3 "" "")) (by_gate "" "" 9 0) all_three ≡ not_ok (refusal 28 0)
  pub second_spf : report (of_example (a_first_row ∷ [])) (of_one "a..b" (an_identifier 0 1 "" "" ++ an_identifier 0 1 "" "")) (by_gate "" "" 9 0) all_three ≡ not_ok (refusal 28 0)
  pub seventeen : report (of_example (a_first_row ∷ [])) (of_one "a..b" (flatten (replicate 17 (an_identifier 1 1 "" "")))) (by_gate "" "" 9 0) all_three ≡ not_ok (refusal 28 0)
  pub cut_off : report (of_example (a_first_row ∷ [])) (of_one "a..b" (0 ∷ 0 ∷ 0 ∷ 4 ∷ 1 ∷ 1 ∷ 0 ∷ [])) (by_gate "" "" 9 0) all_three ≡ not_ok (refusal 28 0)
  pub sixteen : report (of_example (a_first_row ∷ [])) (of_one "a..b" (flatten (replicate 16 (an_identifier 1 1 "" "")))) (by_gate "" "" 9 0) all_three ≡ not_ok (refusal 19 0)
  -- "a text over 4,096 octets or with one outside 32 to 126"
  pub texts_judged : map good_text (replicate 4096 126 ∷ replicate 4097 126 ∷ [] ∷ (32 ∷ []) ∷ (31 ∷ []) ∷ (127 ∷ []) ∷ []) ≡ true ∷ false ∷ true ∷ true ∷ false ∷ false ∷ []
  -- "the mail subject of section 3.5.2, single spaced, the file name's report id in angle brackets"; a final dot is dropped
  pub a_subject : subject (octets "Gate.example.") (octets "example.com") (octets "r7") ≡ ok (octets "Report Domain: example.com Submitter: gate.example Report-ID: <r7>")
  pub no_id : subject (octets "gate.example") (octets "example.com") [] ≡ not_ok (refusal 11 0)
