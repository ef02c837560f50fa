-- Where the form is read: a node for each literal, word and value, where each leads, and the program that is left at every place.
use Rattle.std.specs.Prelude.{List, [], ◌∷◌, ◌++◌, Bool, true, false, ℕ, zero, suc, ◌-◌, eqb, leb, ltb, length, drop, get_or, if◌then◌else◌, Option, None, Some}
use Prim.Native.String.{String}
use Rattle.octets.specs.Octets.{Octets, octets}
use Rattle.octets.specs.Decimal.{decimal}
use Rattle.domain.specs.Domain.{Domain}
use Rattle.policy.specs.declared.Policy.{Policy}
use Rattle.rows.specs.Lists.{Reported}
use Rattle.parsing.specs.Reads.{Reads, done, give, ◌>>=◌, ◌>>◌, exactly}
use Rattle.parsing_steps.specs.Stepping.{Step, on, refused, behind}
use Rattle.report_form.specs.ReportForm.{Said, widths}
use Rattle.report_form.specs.code.ReportReading.{first_is, reading_literal, fail_or_pass, reading_entity, text_from, id_from, digits_more, name_from, Address, digits_from, address_from, next_number, either, dotted, grouped, Disposition, passed, applied}
use Rattle.report_states.specs.Chain.{Open, said_open, with_begin, with_count, with_source, with_disposition, with_dkim, with_spf, with_author, with_domain, with_selector, with_outcome, with_signature, with_sender, with_left, c_source, c_id, c_adkim, c_adkim_end, c_aspf, c_aspf_end, c_author, c_author_end, c_begin, c_begin_end, c_count, c_count_end, c_disposition, c_disposition_end, c_dkim_end, c_domain, c_domain_end, c_email, c_email_end, c_end, c_end_end, c_extra, c_extra_end, c_extra_or_id, c_feedback, c_full, c_id_end, c_item, c_item_start, c_more, c_more_start, c_np, c_np_end, c_org, c_org_end, c_p, c_p_end, c_record_end, c_report, c_row, c_second, c_selector, c_selector_end, c_sender, c_sender_domain, c_sender_domain_end, c_sender_end, c_sender_outcome, c_signature, c_signature_domain, c_signature_domain_end, c_signature_end, c_signature_outcome, c_source_end, c_sp, c_sp_end, c_spf_end, c_tags, c_testing, c_testing_end}

pub data Literal : Type 0 where
  l_report l_org_end l_email_end l_extra_end l_id_end l_begin_end l_end_end l_domain_end l_p_end l_sp_end l_np_end l_adkim_end l_aspf_end l_testing_end l_row l_source_end l_count_end l_disposition_end l_dkim_fail l_dkim_end l_spf_fail l_spf_pass l_spf_end l_author_end l_item_start l_signature l_signature_domain_end l_selector_end l_signature_end l_sender l_sender_domain_end l_sender_end l_full l_record_end l_more_start l_feedback : Literal

pub data Word : Type 0 where
  w_extra w_p w_tags w_sp w_second w_np w_adkim w_aspf w_testing w_disposition w_dkim w_spf w_item w_signature w_sender w_more : Word

pub data Text : Type 0 where
  t_org t_email t_extra : Text

pub data Number : Type 0 where
  n_begin n_end n_count : Number

pub data Name : Type 0 where
  m_domain m_author m_signature m_selector m_sender : Name

pub data Node : Type 0 where
  literal_node : Literal → Node
  word_node : Word → Node
  text_node : Text → Node
  id_node : Node
  number_node : Number → Node
  name_node : Name → Node
  address_node : Node
  last_node : Node

-- ------------------------------------------------------------------ the texts of literals and words

unfoldable pub literal_text : Literal → String
literal_text l_report = "<?xml version=\"1.0\" encoding=\"UTF-8\"?><feedback xmlns=\"urn:ietf:params:xml:ns:dmarc-2.0\"><report_metadata><org_name>"
literal_text l_org_end = "/org_name><email>"
literal_text l_email_end = "/email><"
literal_text l_extra_end = "/extra_contact_info><report_id>"
literal_text l_id_end = "/report_id><date_range><begin>"
literal_text l_begin_end = "/begin><end>"
literal_text l_end_end = "/end></date_range></report_metadata><policy_published><domain>"
literal_text l_domain_end = "/domain><p>"
literal_text l_p_end = "</p><"
literal_text l_sp_end = "</sp><"
literal_text l_np_end = "</np><adkim>"
literal_text l_adkim_end = "</adkim><aspf>"
literal_text l_aspf_end = "</aspf><testing>"
literal_text l_testing_end = "</testing></policy_published><record>"
literal_text l_row = "<row><source_ip>"
literal_text l_source_end = "/source_ip><count>"
literal_text l_count_end = "/count><policy_evaluated><disposition>"
literal_text l_disposition_end = "</disposition><dkim>"
literal_text l_dkim_fail = "fail"
literal_text l_dkim_end = "</dkim><spf>"
literal_text l_spf_fail = "fail"
literal_text l_spf_pass = "pass"
literal_text l_spf_end = "</spf></policy_evaluated></row><identifiers><header_from>"
literal_text l_author_end = "/header_from></identifiers><auth_results>"
literal_text l_item_start = "<"
literal_text l_signature = "<domain>"
literal_text l_signature_domain_end = "/domain><selector>"
literal_text l_selector_end = "/selector><result>"
literal_text l_signature_end = "</result></dkim>"
literal_text l_sender = "<domain>"
literal_text l_sender_domain_end = "/domain><result>"
literal_text l_sender_end = "</result></spf></auth_results>"
literal_text l_full = "</auth_results>"
literal_text l_record_end = "</record>"
literal_text l_more_start = "<"
literal_text l_feedback = "</feedback>"

unfoldable pub words : Word → List String
words w_extra = "extra_contact_info>" ∷ "report_id>" ∷ []
words w_p = "none" ∷ "quarantine" ∷ "reject" ∷ []
words w_tags = "sp>" ∷ "np>" ∷ "adkim>" ∷ []
words w_sp = "none" ∷ "quarantine" ∷ "reject" ∷ []
words w_second = "np>" ∷ "adkim>" ∷ []
words w_np = "none" ∷ "quarantine" ∷ "reject" ∷ []
words w_adkim = "r" ∷ "s" ∷ []
words w_aspf = "r" ∷ "s" ∷ []
words w_testing = "n" ∷ "y" ∷ []
words w_disposition = "pass" ∷ "none" ∷ "quarantine" ∷ "reject" ∷ []
words w_dkim = "fail" ∷ "pass" ∷ []
words w_spf = "fail" ∷ "pass" ∷ []
words w_item = "dkim>" ∷ "spf>" ∷ "/auth_results>" ∷ []
words w_signature = "fail" ∷ "pass" ∷ "temperror" ∷ []
words w_sender = "fail" ∷ "pass" ∷ "temperror" ∷ []
words w_more = "record>" ∷ "/feedback>" ∷ []

-- the first of some words that begins with an octet, by its place from k on
unfoldable pub pick_from : ℕ → ℕ → List String → Option ℕ
pick_from k x [] = None
pick_from k x (w ∷ ws) = elim (first_is x (octets w)) [ true ↦ Some k | false ↦ pick_from (suc k) x ws ]

unfoldable pub pick : ℕ → List String → Option ℕ
pick x ws = pick_from 0 x ws

-- ------------------------------------------------------------------ the program from a node's start

unfoldable pub c_dkim_fail : Open → Reads Said (Unit {0})
c_dkim_fail o = reading_literal "fail" >> c_dkim_end (with_dkim false o)

unfoldable pub c_dkim_any : Open → Reads Said (Unit {0})
c_dkim_any o = fail_or_pass >>= λ k. c_dkim_end (with_dkim k o)

unfoldable pub c_spf_fail : Open → Reads Said (Unit {0})
c_spf_fail o = reading_literal "fail" >> c_spf_end (with_spf false o)

unfoldable pub c_spf_pass : Open → Reads Said (Unit {0})
c_spf_pass o = reading_literal "pass" >> c_spf_end (with_spf true o)

unfoldable pub c_spf_any : Open → Reads Said (Unit {0})
c_spf_any o = fail_or_pass >>= λ s. c_spf_end (with_spf s o)

unfoldable pub from_literal : Literal → Open → Reads Said (Unit {0})
from_literal l_report o = c_report o
from_literal l_org_end o = c_org_end o
from_literal l_email_end o = c_email_end o
from_literal l_extra_end o = c_extra_end o
from_literal l_id_end o = c_id_end o
from_literal l_begin_end o = c_begin_end o
from_literal l_end_end o = c_end_end o
from_literal l_domain_end o = c_domain_end o
from_literal l_p_end o = c_p_end o
from_literal l_sp_end o = c_sp_end o
from_literal l_np_end o = c_np_end o
from_literal l_adkim_end o = c_adkim_end o
from_literal l_aspf_end o = c_aspf_end o
from_literal l_testing_end o = c_testing_end o
from_literal l_row o = c_row o
from_literal l_source_end o = c_source_end o
from_literal l_count_end o = c_count_end o
from_literal l_disposition_end o = c_disposition_end o
from_literal l_dkim_fail o = c_dkim_fail o
from_literal l_dkim_end o = c_dkim_end o
from_literal l_spf_fail o = c_spf_fail o
from_literal l_spf_pass o = c_spf_pass o
from_literal l_spf_end o = c_spf_end o
from_literal l_author_end o = c_author_end o
from_literal l_item_start o = c_item_start o
from_literal l_signature o = c_signature o
from_literal l_signature_domain_end o = c_signature_domain_end o
from_literal l_selector_end o = c_selector_end o
from_literal l_signature_end o = c_signature_end o
from_literal l_sender o = c_sender o
from_literal l_sender_domain_end o = c_sender_domain_end o
from_literal l_sender_end o = c_sender_end o
from_literal l_full o = c_full o
from_literal l_record_end o = c_record_end o
from_literal l_more_start o = c_more_start o
from_literal l_feedback o = c_feedback o

unfoldable pub from_word : Word → Open → Reads Said (Unit {0})
from_word w_extra o = c_extra_or_id o
from_word w_p o = c_p o
from_word w_tags o = c_tags o
from_word w_sp o = c_sp o
from_word w_second o = c_second o
from_word w_np o = c_np o
from_word w_adkim o = c_adkim o
from_word w_aspf o = c_aspf o
from_word w_testing o = c_testing o
from_word w_disposition o = c_disposition o
from_word w_dkim o = c_dkim_any o
from_word w_spf o = c_spf_any o
from_word w_item o = c_item o
from_word w_signature o = c_signature_outcome o
from_word w_sender o = c_sender_outcome o
from_word w_more o = c_more o

unfoldable pub from_text : Text → Open → Reads Said (Unit {0})
from_text t_org o = c_org o
from_text t_email o = c_email o
from_text t_extra o = c_extra o

unfoldable pub from_number : Number → Open → Reads Said (Unit {0})
from_number n_begin o = c_begin o
from_number n_end o = c_end o
from_number n_count o = c_count o

unfoldable pub from_name : Name → Open → Reads Said (Unit {0})
from_name m_domain o = c_domain o
from_name m_author o = c_author o
from_name m_signature o = c_signature_domain o
from_name m_selector o = c_selector o
from_name m_sender o = c_sender_domain o

unfoldable pub from : Node → Open → Reads Said (Unit {0})
from (literal_node l) o = from_literal l o
from (word_node w) o = from_word w o
from (text_node t) o = from_text t o
from id_node o = c_id o
from (number_node n) o = from_number n o
from (name_node n) o = from_name n o
from address_node o = c_source o
from last_node o = done tt

-- ------------------------------------------------------------------ where a node leads

-- the row that is handed out, if one is; what is known then; and the next node
pub record Goes : Type 0 where
  pub row : Option Said
  pub known : Open
  pub node : Node

unfoldable pub by : Node → Open → Goes
by n o = record { row = None; known = o; node = n }

unfoldable pub handed : Option Said → Reads Said (Unit {0}) → Reads Said (Unit {0})
handed None t = t
handed (Some r) t = give r t

unfoldable pub arrive : Goes → Reads Said (Unit {0})
arrive g = handed g.row (from g.node g.known)

-- "disposition none with a method aligned `pass`"
unfoldable pub dkim_node : Disposition → Node
dkim_node passed = word_node w_dkim
dkim_node (applied Policy.None) = literal_node l_dkim_fail
dkim_node (applied Policy.Quarantine) = word_node w_dkim
dkim_node (applied Policy.Reject) = word_node w_dkim

unfoldable pub spf_node : Disposition → Bool → Node
spf_node passed true = word_node w_spf
spf_node passed false = literal_node l_spf_pass
spf_node (applied Policy.None) dkim = literal_node l_spf_fail
spf_node (applied Policy.Quarantine) dkim = word_node w_spf
spf_node (applied Policy.Reject) dkim = word_node w_spf

unfoldable pub results_node : List Reported → Node
results_node is = if ltb (length is) 16 then literal_node l_item_start else literal_node l_full

unfoldable pub records_node : ℕ → Node
records_node n = if eqb n 0 then literal_node l_feedback else literal_node l_more_start

-- behind a literal
unfoldable pub literal_goes : Literal → Open → Goes
literal_goes l_report o = by (text_node t_org) o
literal_goes l_org_end o = by (text_node t_email) o
literal_goes l_email_end o = by (word_node w_extra) o
literal_goes l_extra_end o = by (id_node) o
literal_goes l_id_end o = by (number_node n_begin) o
literal_goes l_begin_end o = by (number_node n_end) o
literal_goes l_end_end o = by (name_node m_domain) o
literal_goes l_domain_end o = by (word_node w_p) o
literal_goes l_p_end o = by (word_node w_tags) o
literal_goes l_sp_end o = by (word_node w_second) o
literal_goes l_np_end o = by (word_node w_adkim) o
literal_goes l_adkim_end o = by (word_node w_aspf) o
literal_goes l_aspf_end o = by (word_node w_testing) o
literal_goes l_testing_end o = by (literal_node l_row) o
literal_goes l_row o = by (address_node) o
literal_goes l_source_end o = by (number_node n_count) o
literal_goes l_count_end o = by (word_node w_disposition) o
literal_goes l_disposition_end o = by (dkim_node o.disposition) o
literal_goes l_dkim_fail o = by (literal_node l_dkim_end) (with_dkim false o)
literal_goes l_dkim_end o = by (spf_node o.disposition o.dkim) o
literal_goes l_spf_fail o = by (literal_node l_spf_end) (with_spf false o)
literal_goes l_spf_pass o = by (literal_node l_spf_end) (with_spf true o)
literal_goes l_spf_end o = by (name_node m_author) o
literal_goes l_author_end o = by (results_node o.identifiers) o
literal_goes l_item_start o = by (word_node w_item) o
literal_goes l_signature o = by (name_node m_signature) o
literal_goes l_signature_domain_end o = by (name_node m_selector) o
literal_goes l_selector_end o = by (word_node w_signature) o
literal_goes l_signature_end o = by (results_node (with_signature o).identifiers) (with_signature o)
literal_goes l_sender o = by (name_node m_sender) o
literal_goes l_sender_domain_end o = by (word_node w_sender) o
literal_goes l_sender_end o = by (literal_node l_record_end) (with_sender o)
literal_goes l_full o = by (literal_node l_record_end) o
literal_goes l_record_end o = record { row = Some (said_open o); known = o; node = records_node o.left }
literal_goes l_more_start o = by (word_node w_more) o
literal_goes l_feedback o = by (last_node) o

-- behind a word, by its place in the list
unfoldable pub disposition_numbered : ℕ → Disposition
disposition_numbered k = get_or (passed ∷ applied Policy.None ∷ applied Policy.Quarantine ∷ applied Policy.Reject ∷ []) k passed

unfoldable pub word_goes : Word → Open → ℕ → Goes
word_goes w_extra o k = by (if eqb k 0 then text_node t_extra else id_node) o
word_goes w_p o k = by (literal_node l_p_end) o
word_goes w_tags o k = by (if eqb k 0 then word_node w_sp else if eqb k 1 then word_node w_np else word_node w_adkim) o
word_goes w_sp o k = by (literal_node l_sp_end) o
word_goes w_second o k = by (if eqb k 0 then word_node w_np else word_node w_adkim) o
word_goes w_np o k = by (literal_node l_np_end) o
word_goes w_adkim o k = by (literal_node l_adkim_end) o
word_goes w_aspf o k = by (literal_node l_aspf_end) o
word_goes w_testing o k = by (literal_node l_testing_end) o
word_goes w_disposition o k = by (literal_node l_disposition_end) (with_disposition (disposition_numbered k) o)
word_goes w_dkim o k = by (literal_node l_dkim_end) (with_dkim (eqb k 1) o)
word_goes w_spf o k = by (literal_node l_spf_end) (with_spf (eqb k 1) o)
word_goes w_item o k = by (if eqb k 0 then literal_node l_signature else if eqb k 1 then literal_node l_sender else literal_node l_record_end) o
word_goes w_signature o k = by (literal_node l_signature_end) (with_outcome k o)
word_goes w_sender o k = by (literal_node l_sender_end) (with_outcome k o)
word_goes w_more o k = if eqb k 0 then by (literal_node l_row) (with_left (o.left - 1) o) else by last_node o

-- behind a text, a number, a name
unfoldable pub text_goes : Text → Open → Goes
text_goes t_org o = by (literal_node l_org_end) o
text_goes t_email o = by (literal_node l_email_end) o
text_goes t_extra o = by (literal_node l_extra_end) o

unfoldable pub number_goes : Number → Open → ℕ → Goes
number_goes n_begin o v = by (literal_node l_begin_end) (with_begin v o)
number_goes n_end o v = by (literal_node l_end_end) o
number_goes n_count o v = by (literal_node l_count_end) (with_count v o)

unfoldable pub name_goes : Name → Open → Domain → Goes
name_goes m_domain o v = by (literal_node l_domain_end) o
name_goes m_author o v = by (literal_node l_author_end) (with_author v o)
name_goes m_signature o v = by (literal_node l_signature_domain_end) (with_domain v o)
name_goes m_selector o v = by (literal_node l_selector_end) (with_selector v o)
name_goes m_sender o v = by (literal_node l_sender_domain_end) (with_domain v o)

-- ------------------------------------------------------------------ values that are open

-- a text: behind so many octets, and within an entity: 1 behind its `&`, 2 to 4 in `amp;`, 5 and 4 in `lt;` and `gt;`
unfoldable pub entity_rest : ℕ → Octets
entity_rest e = get_or (octets "mp;" ∷ octets "p;" ∷ octets ";" ∷ octets "t;" ∷ []) e []

unfoldable pub in_entity : {R : Type 0} → ℕ → Reads R (Unit {0})
in_entity zero = reading_entity
in_entity (suc e) = behind 0 (entity_rest e)

unfoldable pub text_left : {R : Type 0} → (length reading_entity : ℕ) → Reads R (Unit {0})
text_left n zero = text_from (4096 - n) (ltb 0 n)
text_left n (suc e) = in_entity e >> text_from (4096 - n) (ltb 0 n)

unfoldable pub id_left : {R : Type 0} → (length : ℕ) → Reads R (Unit {0})
id_left n = id_from (64 - n) (ltb 0 n)

-- a number: its digits are those of its value
unfoldable pub digits_of : (value : ℕ) → (some : Bool) → ℕ
digits_of v some = if some then length (decimal v) else 0

unfoldable pub number_left : {R : Type 0} → (least most floor value : ℕ) → (some : Bool) → Reads R ℕ
number_left least most floor v some = digits_more (suc most - digits_of v some) least most (leb floor) (if some then v else 0) some

unfoldable pub least : Number → ℕ
least n_begin = 0
least n_end = 0
least n_count = 1

unfoldable pub most : Number → ℕ
most n_begin = widths.times
most n_end = widths.times
most n_count = widths.counts

unfoldable pub floor : Number → Open → ℕ
floor n_begin o = 0
floor n_end o = o.begin
floor n_count o = 0

unfoldable pub name_left : {R : Type 0} → (length label : ℕ) → (so_far : Octets) → Reads R Domain
name_left n label so_far = name_from (253 - n) label so_far

-- an address: what a `.` or `:` leads to where at most n numbers are left
unfoldable pub part_from : {R : Type 0} → ℕ → Address → ℕ → Reads R Octets
part_from zero b x = done []
part_from (suc n) b x =
    elim (eqb x 46) [
      | true ↦ address_from n (next_number dotted (b.before ++ (b.ten ∷ [])))
      | false ↦ address_from n (next_number grouped (b.before ++ (b.sixteen ∷ [])))
    ]

unfoldable pub address_left : {R : Type 0} → Address → Reads R Octets
address_left a = digits_from (4 - a.digits) (part_from (7 - length a.before)) a

-- ------------------------------------------------------------------ the first octet of a word

-- refused, or what is left of the word that it begins
unfoldable pub picked : List String → (ℕ → Goes) → Option ℕ → Step Said (Unit {0})
picked ws g None = refused 20
picked ws g (Some k) = on (exactly (drop 1 (octets (get_or ws k ""))) >> arrive (g k))

-- ------------------------------------------------------------------ a place

-- the node's number, which of a word node's words is open (0: none yet), how many octets of a literal or word are read (of a text: how far an entity
-- is), how many octets of a text, id or name, how many of its last label, the open number and whether it has a digit
pub record Place : Type 0 where
  pub node : ℕ
  pub which : ℕ
  pub at : ℕ
  pub length : ℕ
  pub label : ℕ
  pub value : ℕ
  pub some : Bool

-- what is kept beside a place: what is known of the row, the open name, the open address
pub record Kept : Type 0 where
  pub known : Open
  pub so_far : Octets
  pub address : Address

-- the program that is left
unfoldable pub word_left : Word → Open → (which at : ℕ) → Reads Said (Unit {0})
word_left w o zero i = from_word w o
word_left w o (suc k) i = behind i (octets (get_or (words w) k "")) >> arrive (word_goes w o k)

unfoldable pub left_at : Node → Place → Kept → Reads Said (Unit {0})
left_at (literal_node l) p k = behind p.at (octets (literal_text l)) >> arrive (literal_goes l k.known)
left_at (word_node w) p k = word_left w k.known p.which p.at
left_at (text_node t) p k = text_left p.length p.at >> arrive (text_goes t k.known)
left_at id_node p k = id_left p.length >> from_literal l_id_end k.known
left_at (number_node n) p k = number_left (least n) (most n) (floor n k.known) p.value p.some >>= λ v. arrive (number_goes n k.known v)
left_at (name_node n) p k = name_left p.length p.label k.so_far >>= λ v. arrive (name_goes n k.known v)
left_at address_node p k = address_left k.address >>= λ s. from_literal l_source_end (with_source s k.known)
left_at last_node p k = done tt

-- the nodes, as numbered; a number past the list is read as the last
unfoldable pub nodes : List Node
nodes =
    literal_node l_report ∷ literal_node l_org_end ∷ literal_node l_email_end ∷ literal_node l_extra_end ∷ literal_node l_id_end ∷ literal_node l_begin_end ∷ literal_node l_end_end ∷ literal_node l_domain_end ∷ literal_node l_p_end ∷ literal_node l_sp_end ∷ literal_node l_np_end ∷ literal_node l_adkim_end ∷ literal_node l_aspf_end ∷ literal_node l_testing_end ∷ literal_node l_row ∷ literal_node l_source_end ∷ literal_node l_count_end ∷ literal_node l_disposition_end ∷ literal_node l_dkim_fail ∷ literal_node l_dkim_end ∷ literal_node l_spf_fail ∷ literal_node l_spf_pass ∷ literal_node l_spf_end ∷ literal_node l_author_end ∷ literal_node l_item_start ∷ literal_node l_signature ∷ literal_node l_signature_domain_end ∷ literal_node l_selector_end ∷ literal_node l_signature_end ∷ literal_node l_sender ∷ literal_node l_sender_domain_end ∷ literal_node l_sender_end ∷ literal_node l_full ∷ literal_node l_record_end ∷ literal_node l_more_start ∷ literal_node l_feedback
    ∷ word_node w_extra ∷ word_node w_p ∷ word_node w_tags ∷ word_node w_sp ∷ word_node w_second ∷ word_node w_np ∷ word_node w_adkim ∷ word_node w_aspf ∷ word_node w_testing ∷ word_node w_disposition ∷ word_node w_dkim ∷ word_node w_spf ∷ word_node w_item ∷ word_node w_signature ∷ word_node w_sender ∷ word_node w_more
    ∷ text_node t_org ∷ text_node t_email ∷ text_node t_extra ∷ id_node ∷ number_node n_begin ∷ number_node n_end ∷ number_node n_count ∷ name_node m_domain ∷ name_node m_author ∷ name_node m_signature ∷ name_node m_selector ∷ name_node m_sender ∷ address_node ∷ last_node ∷ []

unfoldable pub node_of : ℕ → Node
node_of n = get_or nodes n last_node

-- a node's start
unfoldable pub start : ℕ → Place
start n = record { node = n; which = 0; at = 0; length = 0; label = 0; value = 0; some = false }

unfoldable pub kept_new : Open → Kept
kept_new o = record { known = o; so_far = []; address = next_number either [] }
