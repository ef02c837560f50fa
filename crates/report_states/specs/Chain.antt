-- The program that reads an aggregate report (`report_form`'s `ReportReading`), cut at every literal, word and value: what is left from each cut on,
-- by what is known of the open row.
use Rattle.std.specs.Prelude.{List, [], ◌∷◌, ◌++◌, Bool, true, false, ℕ, ◌-◌, leb, length}
use Rattle.octets.specs.Octets.{Octets}
use Rattle.domain.specs.Domain.{Domain}
use Rattle.rows.specs.Lists.{Reported}
use Rattle.parsing.specs.Reads.{Reads, done, give, ◌>>=◌, ◌>>◌}
use Rattle.report_form.specs.ReportForm.{Said, widths}
use Rattle.report_form.specs.code.ReportReading.{one_word, reading_literal, policy, mode, outcome, text, id, reading_number, name, reading_address, Disposition, disposition, policy_read, dkim_after, spf_after, Item, dkim_item, spf_item, no_item, item, results_from, records_from, PolicyTag, sp_tag, np_tag, adkim_tag}

-- how many records may follow the open one, and what is known of it; `domain`, `selector` and `outcome` are those of the open identifier
pub record Open : Type 0 where
  pub left : ℕ
  pub begin : ℕ
  pub source : Octets
  pub count : ℕ
  pub disposition : Disposition
  pub dkim : Bool
  pub spf : Bool
  pub author : Domain
  pub identifiers : List Reported
  pub domain : Domain
  pub selector : Domain
  pub outcome : ℕ

unfoldable pub with_left : ℕ → Open → Open
with_left v o = record {
  left = v;
  begin = o.begin;
  source = o.source;
  count = o.count;
  disposition = o.disposition;
  dkim = o.dkim;
  spf = o.spf;
  author = o.author;
  identifiers = o.identifiers;
  domain = o.domain;
  selector = o.selector;
  outcome = o.outcome;
}

unfoldable pub with_begin : ℕ → Open → Open
with_begin v o = record {
  left = o.left;
  begin = v;
  source = o.source;
  count = o.count;
  disposition = o.disposition;
  dkim = o.dkim;
  spf = o.spf;
  author = o.author;
  identifiers = o.identifiers;
  domain = o.domain;
  selector = o.selector;
  outcome = o.outcome;
}

unfoldable pub with_source : Octets → Open → Open
with_source v o = record {
  left = o.left;
  begin = o.begin;
  source = v;
  count = o.count;
  disposition = o.disposition;
  dkim = o.dkim;
  spf = o.spf;
  author = o.author;
  identifiers = o.identifiers;
  domain = o.domain;
  selector = o.selector;
  outcome = o.outcome;
}

unfoldable pub with_count : ℕ → Open → Open
with_count v o = record {
  left = o.left;
  begin = o.begin;
  source = o.source;
  count = v;
  disposition = o.disposition;
  dkim = o.dkim;
  spf = o.spf;
  author = o.author;
  identifiers = o.identifiers;
  domain = o.domain;
  selector = o.selector;
  outcome = o.outcome;
}

unfoldable pub with_disposition : Disposition → Open → Open
with_disposition v o = record {
  left = o.left;
  begin = o.begin;
  source = o.source;
  count = o.count;
  disposition = v;
  dkim = o.dkim;
  spf = o.spf;
  author = o.author;
  identifiers = o.identifiers;
  domain = o.domain;
  selector = o.selector;
  outcome = o.outcome;
}

unfoldable pub with_dkim : Bool → Open → Open
with_dkim v o = record {
  left = o.left;
  begin = o.begin;
  source = o.source;
  count = o.count;
  disposition = o.disposition;
  dkim = v;
  spf = o.spf;
  author = o.author;
  identifiers = o.identifiers;
  domain = o.domain;
  selector = o.selector;
  outcome = o.outcome;
}

unfoldable pub with_spf : Bool → Open → Open
with_spf v o = record {
  left = o.left;
  begin = o.begin;
  source = o.source;
  count = o.count;
  disposition = o.disposition;
  dkim = o.dkim;
  spf = v;
  author = o.author;
  identifiers = o.identifiers;
  domain = o.domain;
  selector = o.selector;
  outcome = o.outcome;
}

-- an author domain begins the list of identifiers, none of them open
unfoldable pub with_author : Domain → Open → Open
with_author v o = record {
  left = o.left;
  begin = o.begin;
  source = o.source;
  count = o.count;
  disposition = o.disposition;
  dkim = o.dkim;
  spf = o.spf;
  author = v;
  identifiers = [];
  domain = [];
  selector = [];
  outcome = 0;
}

unfoldable pub with_identifiers : List Reported → Open → Open
with_identifiers v o = record {
  left = o.left;
  begin = o.begin;
  source = o.source;
  count = o.count;
  disposition = o.disposition;
  dkim = o.dkim;
  spf = o.spf;
  author = o.author;
  identifiers = v;
  domain = o.domain;
  selector = o.selector;
  outcome = o.outcome;
}

unfoldable pub with_domain : Domain → Open → Open
with_domain v o = record {
  left = o.left;
  begin = o.begin;
  source = o.source;
  count = o.count;
  disposition = o.disposition;
  dkim = o.dkim;
  spf = o.spf;
  author = o.author;
  identifiers = o.identifiers;
  domain = v;
  selector = o.selector;
  outcome = o.outcome;
}

unfoldable pub with_selector : Domain → Open → Open
with_selector v o = record {
  left = o.left;
  begin = o.begin;
  source = o.source;
  count = o.count;
  disposition = o.disposition;
  dkim = o.dkim;
  spf = o.spf;
  author = o.author;
  identifiers = o.identifiers;
  domain = o.domain;
  selector = v;
  outcome = o.outcome;
}

unfoldable pub with_outcome : ℕ → Open → Open
with_outcome v o = record {
  left = o.left;
  begin = o.begin;
  source = o.source;
  count = o.count;
  disposition = o.disposition;
  dkim = o.dkim;
  spf = o.spf;
  author = o.author;
  identifiers = o.identifiers;
  domain = o.domain;
  selector = o.selector;
  outcome = v;
}

-- none open
unfoldable pub without_open : Open → Open
without_open o = record {
  left = o.left;
  begin = o.begin;
  source = o.source;
  count = o.count;
  disposition = o.disposition;
  dkim = o.dkim;
  spf = o.spf;
  author = o.author;
  identifiers = o.identifiers;
  domain = [];
  selector = [];
  outcome = 0;
}

-- the open identifier at the end of the list
unfoldable pub with_signature : Open → Open
with_signature o =
    without_open (with_identifiers (o.identifiers ++ (record { kind = 1; outcome = o.outcome; selector = o.selector; domain = o.domain } ∷ [])) o)

unfoldable pub with_sender : Open → Open
with_sender o =
    without_open (with_identifiers (o.identifiers ++ (record { kind = 0; outcome = o.outcome; selector = []; domain = o.domain } ∷ [])) o)

-- the row
unfoldable pub said_open : Open → Said
said_open o = record {
  source = o.source;
  count = o.count;
  disposition = policy_read o.disposition;
  dkim = o.dkim;
  spf = o.spf;
  author = o.author;
  identifiers = o.identifiers;
}

-- ------------------------------------------------------------------ identifiers and the end of a record

unfoldable pub c_records : Open → Reads Said (Unit {0})
c_records o = records_from widths o.left

unfoldable pub c_record_end : Open → Reads Said (Unit {0})
c_record_end o = reading_literal "</record>" >> give (said_open o) (c_records o)

unfoldable pub c_results : Open → Reads Said (Unit {0})
c_results o = results_from (16 - length o.identifiers) o.identifiers >>= λ is. c_record_end (with_identifiers is o)

unfoldable pub c_full : Open → Reads Said (Unit {0})
c_full o = reading_literal "</auth_results>" >> c_record_end o

unfoldable pub c_signature_end : Open → Reads Said (Unit {0})
c_signature_end o = reading_literal "</result></dkim>" >> c_results (with_signature o)

unfoldable pub c_signature_outcome : Open → Reads Said (Unit {0})
c_signature_outcome o = outcome >>= λ n. c_signature_end (with_outcome n o)

unfoldable pub c_selector_end : Open → Reads Said (Unit {0})
c_selector_end o = reading_literal "/selector><result>" >> c_signature_outcome o

unfoldable pub c_selector : Open → Reads Said (Unit {0})
c_selector o = name >>= λ s. c_selector_end (with_selector s o)

unfoldable pub c_signature_domain_end : Open → Reads Said (Unit {0})
c_signature_domain_end o = reading_literal "/domain><selector>" >> c_selector o

unfoldable pub c_signature_domain : Open → Reads Said (Unit {0})
c_signature_domain o = name >>= λ d. c_signature_domain_end (with_domain d o)

unfoldable pub c_signature : Open → Reads Said (Unit {0})
c_signature o = reading_literal "<domain>" >> c_signature_domain o

unfoldable pub c_sender_end : Open → Reads Said (Unit {0})
c_sender_end o = reading_literal "</result></spf></auth_results>" >> c_record_end (with_sender o)

unfoldable pub c_sender_outcome : Open → Reads Said (Unit {0})
c_sender_outcome o = outcome >>= λ n. c_sender_end (with_outcome n o)

unfoldable pub c_sender_domain_end : Open → Reads Said (Unit {0})
c_sender_domain_end o = reading_literal "/domain><result>" >> c_sender_outcome o

unfoldable pub c_sender_domain : Open → Reads Said (Unit {0})
c_sender_domain o = name >>= λ d. c_sender_domain_end (with_domain d o)

unfoldable pub c_sender : Open → Reads Said (Unit {0})
c_sender o = reading_literal "<domain>" >> c_sender_domain o

unfoldable pub after_item : Open → Item → Reads Said (Unit {0})
after_item o dkim_item = c_signature o
after_item o spf_item = c_sender o
after_item o no_item = c_record_end o

unfoldable pub c_item : Open → Reads Said (Unit {0})
c_item o = item >>= after_item o

unfoldable pub c_item_start : Open → Reads Said (Unit {0})
c_item_start o = reading_literal "<" >> c_item o

-- ------------------------------------------------------------------ a row

unfoldable pub c_author_end : Open → Reads Said (Unit {0})
c_author_end o = reading_literal "/header_from></identifiers><auth_results>" >> c_results o

unfoldable pub c_author : Open → Reads Said (Unit {0})
c_author o = name >>= λ f. c_author_end (with_author f o)

unfoldable pub c_spf_end : Open → Reads Said (Unit {0})
c_spf_end o = reading_literal "</spf></policy_evaluated></row><identifiers><header_from>" >> c_author o

unfoldable pub c_spf : Open → Reads Said (Unit {0})
c_spf o = spf_after o.disposition o.dkim >>= λ s. c_spf_end (with_spf s o)

unfoldable pub c_dkim_end : Open → Reads Said (Unit {0})
c_dkim_end o = reading_literal "</dkim><spf>" >> c_spf o

unfoldable pub c_dkim : Open → Reads Said (Unit {0})
c_dkim o = dkim_after o.disposition >>= λ k. c_dkim_end (with_dkim k o)

unfoldable pub c_disposition_end : Open → Reads Said (Unit {0})
c_disposition_end o = reading_literal "</disposition><dkim>" >> c_dkim o

unfoldable pub c_disposition : Open → Reads Said (Unit {0})
c_disposition o = disposition >>= λ p. c_disposition_end (with_disposition p o)

unfoldable pub c_count_end : Open → Reads Said (Unit {0})
c_count_end o = reading_literal "/count><policy_evaluated><disposition>" >> c_disposition o

unfoldable pub c_count : Open → Reads Said (Unit {0})
c_count o = reading_number 1 widths.counts (λ n. true) >>= λ c. c_count_end (with_count c o)

unfoldable pub c_source_end : Open → Reads Said (Unit {0})
c_source_end o = reading_literal "/source_ip><count>" >> c_count o

unfoldable pub c_source : Open → Reads Said (Unit {0})
c_source o = reading_address >>= λ a. c_source_end (with_source a o)

unfoldable pub c_row : Open → Reads Said (Unit {0})
c_row o = reading_literal "<row><source_ip>" >> c_source o

-- a record more, or the end
unfoldable pub after_more : Open → Bool → Reads Said (Unit {0})
after_more o true = c_row (with_left (o.left - 1) o)
after_more o false = done tt

unfoldable pub c_more : Open → Reads Said (Unit {0})
c_more o = one_word ("record>", true) (("/feedback>", false) ∷ []) >>= after_more o

unfoldable pub c_more_start : Open → Reads Said (Unit {0})
c_more_start o = reading_literal "<" >> c_more o

unfoldable pub c_feedback : Open → Reads Said (Unit {0})
c_feedback o = reading_literal "</feedback>" >> done tt

-- ------------------------------------------------------------------ what stands before the records

unfoldable pub c_testing_end : Open → Reads Said (Unit {0})
c_testing_end o = reading_literal "</testing></policy_published><record>" >> c_row o

unfoldable pub c_testing : Open → Reads Said (Unit {0})
c_testing o = one_word ("n", false) (("y", true) ∷ []) >>= λ t. c_testing_end o

unfoldable pub c_aspf_end : Open → Reads Said (Unit {0})
c_aspf_end o = reading_literal "</aspf><testing>" >> c_testing o

unfoldable pub c_aspf : Open → Reads Said (Unit {0})
c_aspf o = mode >>= λ m. c_aspf_end o

unfoldable pub c_adkim_end : Open → Reads Said (Unit {0})
c_adkim_end o = reading_literal "</adkim><aspf>" >> c_aspf o

unfoldable pub c_adkim : Open → Reads Said (Unit {0})
c_adkim o = mode >>= λ m. c_adkim_end o

unfoldable pub c_np_end : Open → Reads Said (Unit {0})
c_np_end o = reading_literal "</np><adkim>" >> c_adkim o

unfoldable pub c_np : Open → Reads Said (Unit {0})
c_np o = policy >>= λ p. c_np_end o

unfoldable pub after_second : Open → Bool → Reads Said (Unit {0})
after_second o true = c_np o
after_second o false = c_adkim o

unfoldable pub c_second : Open → Reads Said (Unit {0})
c_second o = one_word ("np>", true) (("adkim>", false) ∷ []) >>= after_second o

unfoldable pub c_sp_end : Open → Reads Said (Unit {0})
c_sp_end o = reading_literal "</sp><" >> c_second o

unfoldable pub c_sp : Open → Reads Said (Unit {0})
c_sp o = policy >>= λ p. c_sp_end o

unfoldable pub after_tag : Open → PolicyTag → Reads Said (Unit {0})
after_tag o sp_tag = c_sp o
after_tag o np_tag = c_np o
after_tag o adkim_tag = c_adkim o

unfoldable pub c_tags : Open → Reads Said (Unit {0})
c_tags o = one_word ("sp>", sp_tag) (("np>", np_tag) ∷ ("adkim>", adkim_tag) ∷ []) >>= after_tag o

unfoldable pub c_p_end : Open → Reads Said (Unit {0})
c_p_end o = reading_literal "</p><" >> c_tags o

unfoldable pub c_p : Open → Reads Said (Unit {0})
c_p o = policy >>= λ p. c_p_end o

unfoldable pub c_domain_end : Open → Reads Said (Unit {0})
c_domain_end o = reading_literal "/domain><p>" >> c_p o

unfoldable pub c_domain : Open → Reads Said (Unit {0})
c_domain o = name >>= λ d. c_domain_end o

unfoldable pub c_end_end : Open → Reads Said (Unit {0})
c_end_end o = reading_literal "/end></date_range></report_metadata><policy_published><domain>" >> c_domain o

unfoldable pub c_end : Open → Reads Said (Unit {0})
c_end o = reading_number 0 widths.times (leb o.begin) >>= λ e. c_end_end o

unfoldable pub c_begin_end : Open → Reads Said (Unit {0})
c_begin_end o = reading_literal "/begin><end>" >> c_end o

unfoldable pub c_begin : Open → Reads Said (Unit {0})
c_begin o = reading_number 0 widths.times (λ n. true) >>= λ b. c_begin_end (with_begin b o)

unfoldable pub c_id_end : Open → Reads Said (Unit {0})
c_id_end o = reading_literal "/report_id><date_range><begin>" >> c_begin o

unfoldable pub c_id : Open → Reads Said (Unit {0})
c_id o = id >>= λ i. c_id_end o

unfoldable pub c_extra_end : Open → Reads Said (Unit {0})
c_extra_end o = reading_literal "/extra_contact_info><report_id>" >> c_id o

unfoldable pub c_extra : Open → Reads Said (Unit {0})
c_extra o = text >>= λ t. c_extra_end o

unfoldable pub after_extra : Open → Bool → Reads Said (Unit {0})
after_extra o true = c_extra o
after_extra o false = c_id o

unfoldable pub c_extra_or_id : Open → Reads Said (Unit {0})
c_extra_or_id o = one_word ("extra_contact_info>", true) (("report_id>", false) ∷ []) >>= after_extra o

unfoldable pub c_email_end : Open → Reads Said (Unit {0})
c_email_end o = reading_literal "/email><" >> c_extra_or_id o

unfoldable pub c_email : Open → Reads Said (Unit {0})
c_email o = text >>= λ t. c_email_end o

unfoldable pub c_org_end : Open → Reads Said (Unit {0})
c_org_end o = reading_literal "/org_name><email>" >> c_email o

unfoldable pub c_org : Open → Reads Said (Unit {0})
c_org o = text >>= λ t. c_org_end o

unfoldable pub c_report : Open → Reads Said (Unit {0})
c_report o = reading_literal "<?xml version=\"1.0\" encoding=\"UTF-8\"?><feedback xmlns=\"urn:ietf:params:xml:ns:dmarc-2.0\"><report_metadata><org_name>" >> c_org o
