-- Reading an aggregate report (document 02, Ask 10): the program that reads Ask 9's form.
use Rattle.std.specs.Prelude.{List, [], ◌∷◌, ◌++◌, Bool, true, false, ◌&&◌, ◌||◌, not, ℕ, zero, suc, ◌+◌, ◌-◌, ◌*◌, eqb, leb, ltb, length, if◌then◌else◌, Option, None, Some}
use Prim.Native.String.{String}
use Rattle.octets.specs.Octets.{Octets, octets, same, between, is_digit, one_of}
use Rattle.octets.specs.Refusing.{OrRefused}
use Rattle.domain.specs.Domain.{Domain, domain_octet}
use Rattle.reporting.specs.FileName.{alphanumeric}
use Rattle.policy.specs.declared.Policy.{Policy}
use Rattle.policy.specs.declared.Mode.{Mode}
use Rattle.parsing.specs.Reads.{Reads, done, give, next, ◌>>=◌, ◌>>◌, octet_where, exactly, Reader, open_at, run, ended}
use Rattle.rows.specs.Lists.{Reported}
use Rattle.report_form.specs.ReportForm.{Said, mapped, group_octets, Widths, widths}

-- ------------------------------------------------------------------ words

unfoldable pub first_is : ℕ → Octets → Bool
first_is x [] = false
first_is x (c ∷ s) = eqb x c

-- what is left of a word behind its first octet, and what it stands for
unfoldable pub rest_of : {R A : Type 0} → Octets → A → Reads R A
rest_of [] a = done a
rest_of (c ∷ s) a = exactly s >> done a

unfoldable pub among : {A : Type 0} → ℕ → List (String × A) → Bool
among x [] = false
among x (w ∷ ws) = first_is x (octets w.0) || among x ws

-- the word that an octet begins; the last one, where none of the others does
unfoldable pub chosen : {R A : Type 0} → ℕ → (String × A) → List (String × A) → Reads R A
chosen x w [] = rest_of (octets w.0) w.1
chosen x w (v ∷ ws) = elim (first_is x (octets w.0)) [ true ↦ rest_of (octets w.0) w.1 | false ↦ chosen x v ws ]

-- one of some words, no two of which begin with the same octet
unfoldable pub one_word : {R A : Type 0} → (String × A) → List (String × A) → Reads R A
one_word w ws = octet_where (λ x. among x (w ∷ ws)) (λ x. chosen x w ws)

unfoldable pub reading_literal : {R : Type 0} → String → Reads R (Unit {0})
reading_literal s = exactly (octets s)

unfoldable pub policy : {R : Type 0} → Reads R Policy
policy = one_word ("none", Policy.None) (("quarantine", Policy.Quarantine) ∷ ("reject", Policy.Reject) ∷ [])

unfoldable pub mode : {R : Type 0} → Reads R Mode
mode = one_word ("r", Mode.Relaxed) (("s", Mode.Strict) ∷ [])

unfoldable pub outcome : {R : Type 0} → Reads R ℕ
outcome = one_word ("fail", 0) (("pass", 1) ∷ ("temperror", 2) ∷ [])

-- ------------------------------------------------------------------ values, each with the `<` after it

-- at most n octets more of a text, `&`, `<` and `>` as entities; it can end where it is not empty
unfoldable pub text_octet : ℕ → Bool
text_octet x = between 32 126 x && not (one_of (octets "<>") x)

unfoldable pub reading_entity : {R : Type 0} → Reads R (Unit {0})
reading_entity = one_word ("amp;", tt) (("lt;", tt) ∷ ("gt;", tt) ∷ [])

unfoldable pub text_from : {R : Type 0} → ℕ → (some : Bool) → Reads R (Unit {0})
text_from zero some = octet_where (eqb 60) (λ x. done tt)
text_from (suc n) some = octet_where (λ x. text_octet x || (some && eqb x 60)) (λ x.
    elim (eqb x 60) [
      | true ↦ done tt
      | false ↦ elim (eqb x 38) [ true ↦ reading_entity >> text_from n true | false ↦ text_from n true ]
    ])

unfoldable pub text : {R : Type 0} → Reads R (Unit {0})
text = text_from 4096 false

-- an id
unfoldable pub id_from : {R : Type 0} → ℕ → (some : Bool) → Reads R (Unit {0})
id_from zero some = octet_where (eqb 60) (λ x. done tt)
id_from (suc n) some = octet_where (λ x. alphanumeric x || (some && eqb x 60)) (λ x. elim (eqb x 60) [ true ↦ done tt | false ↦ id_from n true ])

unfoldable pub id : {R : Type 0} → Reads R (Unit {0})
id = id_from 64 false

-- a number of at least `least`, 0 or 1, and at most `most`, "without leading zeros": "21 a digit that takes a begin, end or count over its width"
unfoldable pub digit_refused : (least most value : ℕ) → (some : Bool) → ℕ → Option ℕ
digit_refused least most value some x =
    if is_digit x && not (some && eqb value 0) && (some || leb least (x - 48))
    then if leb (value * 10 + (x - 48)) most then None else Some 21
    else Some 20

-- it ends at `<`, where it has a digit and passes a test
unfoldable pub number_refused : (least most : ℕ) → (ends : ℕ → Bool) → (value : ℕ) → (some : Bool) → ℕ → Option ℕ
number_refused least most ends value some x = if eqb x 60 then (if some && ends value then None else Some 20) else digit_refused least most value some x

unfoldable pub digits_more : {R : Type 0} → (digits : ℕ) → (least most : ℕ) → (ends : ℕ → Bool) → (value : ℕ) → (some : Bool) → Reads R ℕ
digits_more zero least most ends value some = next (number_refused least most ends value some) (λ x. done value)
digits_more (suc n) least most ends value some = next (number_refused least most ends value some) (λ x.
    elim (eqb x 60) [ true ↦ done value | false ↦ digits_more n least most ends (value * 10 + (x - 48)) true ])

-- no number has more digits than itself and one
unfoldable pub reading_number : {R : Type 0} → (least most : ℕ) → (ends : ℕ → Bool) → Reads R ℕ
reading_number least most ends = digits_more (suc most) least most ends 0 false

-- a domain or selector in lower case, with room for so many octets more, behind so many of its last label
unfoldable pub spelled_octet : ℕ → Bool
spelled_octet x = domain_octet x && not (between 65 90 x)

unfoldable pub name_allows : (room label : ℕ) → ℕ → Bool
name_allows room label x =
    if eqb x 60 then ltb 0 label
    else if eqb x 46 then ltb 0 label && ltb 1 room
    else spelled_octet x && ltb label 63 && ltb 0 room

unfoldable pub name_from : {R : Type 0} → (room label : ℕ) → (so_far : Octets) → Reads R Domain
name_from zero label so_far = octet_where (name_allows 0 label) (λ x. done so_far)
name_from (suc n) label so_far = octet_where (name_allows (suc n) label) (λ x.
    elim (eqb x 60) [
      | true ↦ done so_far
      | false ↦ elim (eqb x 46) [ true ↦ name_from n 0 (so_far ++ (x ∷ [])) | false ↦ name_from n (suc label) (so_far ++ (x ∷ [])) ]
    ])

unfoldable pub name : {R : Type 0} → Reads R Domain
name = name_from 253 0 []

-- ------------------------------------------------------------------ addresses

-- which kind an address can still be
pub data Kind : Type 0 where
  either dotted grouped : Kind

unfoldable pub can_be_dotted : Kind → Bool
can_be_dotted either = true
can_be_dotted dotted = true
can_be_dotted grouped = false

unfoldable pub can_be_grouped : Kind → Bool
can_be_grouped either = true
can_be_grouped dotted = false
can_be_grouped grouped = true

-- an open address: its kind, the numbers before, and of the open number how many digits it has, and its value to base 10 and to base 16
pub record Address : Type 0 where
  pub kind : Kind
  pub before : List ℕ
  pub digits : ℕ
  pub ten : ℕ
  pub sixteen : ℕ

unfoldable pub digit_value : ℕ → ℕ
digit_value x = if is_digit x then x - 48 else x - 87

unfoldable pub lower_hex : ℕ → Bool
lower_hex x = is_digit x || between 97 102 x

-- "without leading zeros": nothing follows a first 0
unfoldable pub only_zero : Address → Bool
only_zero a = ltb 0 a.digits && eqb a.sixteen 0

-- whether a digit can go on a number up to 255; or a group, which makes no mapped address: such a one is written dotted
unfoldable pub goes_on_dotted : Address → ℕ → Bool
goes_on_dotted a x = can_be_dotted a.kind && is_digit x && not (only_zero a) && leb (a.ten * 10 + digit_value x) 255

unfoldable pub goes_on_grouped : Address → ℕ → Bool
goes_on_grouped a x =
    can_be_grouped a.kind && lower_hex x && not (only_zero a)
    && not (same a.before (0 ∷ 0 ∷ 0 ∷ 0 ∷ 0 ∷ []) && eqb (a.sixteen * 16 + digit_value x) 65535)

-- how many numbers come before the last one
unfoldable pub last_number : Kind → Option ℕ
last_number either = None
last_number dotted = Some 3
last_number grouped = Some 7

unfoldable pub is_last : Kind → ℕ → Bool
is_last kind n = elim (last_number kind) [ None ↦ false | Some m ↦ eqb n m ]

-- whether an octet can end the open number: `<`, `.`, `:`
unfoldable pub ends_number : Address → ℕ → Bool
ends_number a x =
    ltb 0 a.digits
    && (eqb x 60 && is_last a.kind (length a.before)
    || eqb x 46 && can_be_dotted a.kind && ltb (length a.before) 3
    || eqb x 58 && can_be_grouped a.kind && ltb (length a.before) 7)

-- with a digit more: a number that is none of a dotted address makes it one of groups
unfoldable pub with_digit : Address → ℕ → Address
with_digit a x = record {
  kind = if goes_on_dotted a x then a.kind else grouped;
  before = a.before;
  digits = suc a.digits;
  ten = a.ten * 10 + digit_value x;
  sixteen = a.sixteen * 16 + digit_value x;
}

-- behind a `.` or a `:`
unfoldable pub next_number : Kind → List ℕ → Address
next_number kind before = record { kind = kind; before = before; digits = 0; ten = 0; sixteen = 0 }

unfoldable pub source_of : Address → Octets
source_of a = elim a.kind [
  | either ↦ []
  | dotted ↦ mapped ++ a.before ++ (a.ten ∷ [])
  | grouped ↦ group_octets (a.before ++ (a.sixteen ∷ []))
]

-- at most n digits more, and then what a `.` or `:` leads to
unfoldable pub digits_from : {R : Type 0} → ℕ → (Address → ℕ → Reads R Octets) → Address → Reads R Octets
digits_from zero part a = octet_where (ends_number a) (λ x. elim (eqb x 60) [ true ↦ done (source_of a) | false ↦ part a x ])
digits_from (suc n) part a = octet_where (λ x. ends_number a x || goes_on_dotted a x || goes_on_grouped a x) (λ x.
    elim (eqb x 60) [
      | true ↦ done (source_of a)
      | false ↦ elim (ends_number a x) [ true ↦ part a x | false ↦ digits_from n part (with_digit a x) ]
    ])

-- at most n numbers more
unfoldable pub address_from : {R : Type 0} → ℕ → Address → Reads R Octets
address_from zero a = digits_from 4 (λ b x. done []) a
address_from (suc n) a = digits_from 4 (λ b x.
    elim (eqb x 46) [
      | true ↦ address_from n (next_number dotted (b.before ++ (b.ten ∷ [])))
      | false ↦ address_from n (next_number grouped (b.before ++ (b.sixteen ∷ [])))
    ]) a

unfoldable pub reading_address : {R : Type 0} → Reads R Octets
reading_address = address_from 7 (next_number either [])

-- ------------------------------------------------------------------ a record

-- "disposition none with a method aligned `pass`": so none shuts out pass, and pass with dkim fail shuts out spf fail
pub data Disposition : Type 0 where
  passed : Disposition
  applied : Policy → Disposition

unfoldable pub disposition : {R : Type 0} → Reads R Disposition
disposition = one_word ("pass", passed) (("none", applied Policy.None) ∷ ("quarantine", applied Policy.Quarantine) ∷ ("reject", applied Policy.Reject) ∷ [])

unfoldable pub policy_read : Disposition → Policy
policy_read passed = Policy.None
policy_read (applied p) = p

unfoldable pub only : {R : Type 0} → String → Bool → Reads R Bool
only word aligned = reading_literal word >> done aligned

unfoldable pub fail_or_pass : {R : Type 0} → Reads R Bool
fail_or_pass = one_word ("fail", false) (("pass", true) ∷ [])

unfoldable pub dkim_after : {R : Type 0} → Disposition → Reads R Bool
dkim_after passed = fail_or_pass
dkim_after (applied Policy.None) = only "fail" false
dkim_after (applied Policy.Quarantine) = fail_or_pass
dkim_after (applied Policy.Reject) = fail_or_pass

unfoldable pub spf_after : {R : Type 0} → Disposition → (dkim : Bool) → Reads R Bool
spf_after passed true = fail_or_pass
spf_after passed false = only "pass" true
spf_after (applied Policy.None) dkim = only "fail" false
spf_after (applied Policy.Quarantine) dkim = fail_or_pass
spf_after (applied Policy.Reject) dkim = fail_or_pass

-- identifiers: DKIM, then SPF
unfoldable pub signature : {R : Type 0} → Reads R Reported
signature = do
  reading_literal "<domain>"
  d ← name
  reading_literal "/domain><selector>"
  s ← name
  reading_literal "/selector><result>"
  o ← outcome
  reading_literal "</result></dkim>"
  done (record { kind = 1; outcome = o; selector = s; domain = d })

unfoldable pub sender : {R : Type 0} → Reads R Reported
sender = do
  reading_literal "<domain>"
  d ← name
  reading_literal "/domain><result>"
  o ← outcome
  reading_literal "</result></spf></auth_results>"
  done (record { kind = 0; outcome = o; selector = []; domain = d })

pub data Item : Type 0 where
  dkim_item spf_item no_item : Item

unfoldable pub item : {R : Type 0} → Reads R Item
item = one_word ("dkim>", dkim_item) (("spf>", spf_item) ∷ ("/auth_results>", no_item) ∷ [])

-- at most n more
unfoldable pub results_from : {R : Type 0} → ℕ → List Reported → Reads R (List Reported)
results_from zero so_far = reading_literal "</auth_results>" >> done so_far
results_from (suc n) so_far = (reading_literal "<" >> item) >>= λ i.
    elim i [
      | dkim_item ↦ signature >>= λ s. results_from n (so_far ++ (s ∷ []))
      | spf_item ↦ sender >>= λ s. done (so_far ++ (s ∷ []))
      | no_item ↦ done so_far
    ]

-- a record behind its start tag
unfoldable pub reading_row : {R : Type 0} → Widths → Reads R Said
reading_row ws = do
  reading_literal "<row><source_ip>"
  a ← reading_address
  reading_literal "/source_ip><count>"
  c ← reading_number 1 ws.counts (λ n. true)
  reading_literal "/count><policy_evaluated><disposition>"
  d ← disposition
  reading_literal "</disposition><dkim>"
  k ← dkim_after d
  reading_literal "</dkim><spf>"
  s ← spf_after d k
  reading_literal "</spf></policy_evaluated></row><identifiers><header_from>"
  f ← name
  reading_literal "/header_from></identifiers><auth_results>"
  r ← results_from 16 []
  reading_literal "</record>"
  done (record { source = a; count = c; disposition = policy_read d; dkim = k; spf = s; author = f; identifiers = r })

-- at most n more, each handed out "when its record ends"
unfoldable pub records_from : Widths → ℕ → Reads Said (Unit {0})
records_from ws zero = reading_literal "</feedback>"
records_from ws (suc n) = (reading_literal "<" >> one_word ("record>", true) (("/feedback>", false) ∷ [])) >>= λ more.
    elim more [ true ↦ reading_row ws >>= (λ r. give r (records_from ws n)) | false ↦ done tt ]

-- ------------------------------------------------------------------ the report

unfoldable pub extra_or_id : {R : Type 0} → Reads R (Unit {0})
extra_or_id = one_word ("extra_contact_info>", true) (("report_id>", false) ∷ []) >>= λ extra.
    elim extra [ true ↦ text >> reading_literal "/extra_contact_info><report_id>" | false ↦ done tt ]

-- `sp` and `np`, each where it is there
pub data PolicyTag : Type 0 where
  sp_tag np_tag adkim_tag : PolicyTag

unfoldable pub np_then : {R : Type 0} → Reads R (Unit {0})
np_then = policy >> reading_literal "</np><adkim>"

unfoldable pub policies : {R : Type 0} → Reads R (Unit {0})
policies = one_word ("sp>", sp_tag) (("np>", np_tag) ∷ ("adkim>", adkim_tag) ∷ []) >>= λ tag.
    elim tag [
      | sp_tag ↦ policy >> reading_literal "</sp><" >> one_word ("np>", true) (("adkim>", false) ∷ []) >>= (λ n. elim n [ true ↦ np_then | false ↦ done tt ])
      | np_tag ↦ np_then
      | adkim_tag ↦ done tt
    ]

-- the form, by its widths and by how begin and end are judged
unfoldable pub report_by : Widths → (begin_end : ℕ → ℕ → Bool) → Reads Said (Unit {0})
report_by ws judged = do
  reading_literal "<?xml version=\"1.0\" encoding=\"UTF-8\"?><feedback xmlns=\"urn:ietf:params:xml:ns:dmarc-2.0\"><report_metadata><org_name>"
  text
  reading_literal "/org_name><email>"
  text
  reading_literal "/email><"
  extra_or_id
  id
  reading_literal "/report_id><date_range><begin>"
  b ← reading_number 0 ws.times (λ n. true)
  reading_literal "/begin><end>"
  e ← reading_number 0 ws.times (judged b)
  reading_literal "/end></date_range></report_metadata><policy_published><domain>"
  d ← name
  reading_literal "/domain><p>"
  p ← policy
  reading_literal "</p><"
  policies
  m ← mode
  reading_literal "</adkim><aspf>"
  a ← mode
  reading_literal "</aspf><testing>"
  t ← one_word ("n", false) (("y", true) ∷ [])
  reading_literal "</testing></policy_published><record>"
  r ← reading_row ws
  give r (records_from ws 255)

-- "begin and end judged apart"
unfoldable pub apart : Widths → Reads Said (Unit {0})
apart ws = report_by ws (λ b e. true)

-- "an end below begin at the `<` after it"
unfoldable pub reading_report : Reads Said (Unit {0})
reading_report = report_by widths leb

-- ------------------------------------------------------------------ reading

unfoldable pub new_reader : Reader Said (Unit {0})
new_reader = record { taken = 0; left = open_at reading_report }

-- the uncut text: the rows handed out, and how it ends
unfoldable pub read_report : Octets → List Said × OrRefused (Unit {0})
read_report s = ((run 0 reading_report s).rows, ended (run 0 reading_report s).reader)
