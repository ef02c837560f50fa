-- The program, cut at every literal, word and value, is the program.
use mathlib.Core.Path.{◌≡◌, refl, sym, ap, ◌∙◌}
use mathlib.Core.List.{List, [], ◌∷◌, ◌++◌}
use mathlib.Core.Bool.{Bool, true, false}
use Prim.Native.Nat.{ℕ, suc, ◌-◌}
use native.Mathlib.Omega.{arith}
use lib.Dec.{leb}
use lib.ListN.{length, length-append}
use Rattle.rows.specs.Lists.{Reported}
use Rattle.parsing.specs.Reads.{Reads, done, give, ◌>>=◌, ◌>>◌}
use Rattle.parsing_steps.proofs.StepLaws.{bind_assoc, bind_same, bind_done, bind_on, done_on}
use Rattle.report_form.specs.ReportForm.{Said, widths}
use Rattle.report_form.specs.code.ReportReading.{one_word, reading_literal as literal, policy, mode, outcome, text, id, reading_number as number, name, reading_address as address, disposition, dkim_after, spf_after, Item, dkim_item, spf_item, no_item, item, signature, sender, results_from, reading_row as row, records_from, extra_or_id, np_then, policies, PolicyTag as Tag, sp_tag, np_tag, adkim_tag, report_by, reading_report as report}
use Rattle.report_states.specs.Chain.{Open, with_left, with_begin, with_source, with_count, with_disposition, with_dkim, with_spf, with_author, with_identifiers, with_domain, with_selector, with_outcome, with_signature, with_sender, said_open, c_records, c_record_end, c_results, c_full, c_signature_end, c_signature_outcome, c_selector_end, c_selector, c_signature_domain_end, c_signature_domain, c_signature, c_sender_end, c_sender_outcome, c_sender_domain_end, c_sender_domain, c_sender, after_item, c_item, c_item_start, c_author_end, c_author, c_spf_end, c_spf, c_dkim_end, c_dkim, c_disposition_end, c_disposition, c_count_end, c_count, c_source_end, c_source, c_row, after_more, c_more, c_more_start, c_feedback, c_testing_end, c_testing, c_aspf_end, c_aspf, c_adkim_end, c_adkim, c_np_end, c_np, after_second, c_second, c_sp_end, c_sp, after_tag, c_tags, c_p_end, c_p, c_domain_end, c_domain, c_end_end, c_end, c_begin_end, c_begin, c_id_end, c_id, c_extra_end, c_extra, after_extra, c_extra_or_id, c_email_end, c_email, c_org_end, c_org, c_report, without_open}

-- a row, and the records behind it
pub row_chain : (o : Open) → (row widths >>= (λ r. give r (c_records o))) ≡ c_row o
unfolding ◌>>◌ row c_records with_source with_count with_disposition with_dkim with_spf with_author with_identifiers said_open c_record_end c_results c_author_end c_author c_spf_end c_spf c_dkim_end c_dkim c_disposition_end c_disposition c_count_end c_count c_source_end c_source c_row
row_chain o =
    bind_on (literal "<row><source_ip>") _ _ _ (λ _. bind_on (address) _ _ _ (λ a. bind_on (literal "/source_ip><count>") _ _ _ (λ _. bind_on (number 1 widths.counts (λ n. true)) _ _ _ (λ c. bind_on (literal "/count><policy_evaluated><disposition>") _ _ _ (λ _. bind_on (disposition) _ _ _ (λ d. bind_on (literal "</disposition><dkim>") _ _ _ (λ _. bind_on (dkim_after d) _ _ _ (λ k. bind_on (literal "</dkim><spf>") _ _ _ (λ _. bind_on (spf_after d k) _ _ _ (λ s. bind_on (literal "</spf></policy_evaluated></row><identifiers><header_from>") _ _ _ (λ _. bind_on (name) _ _ _ (λ f. bind_on (literal "/header_from></identifiers><auth_results>") _ _ _ (λ _. bind_on (results_from 16 []) _ _ _ (λ r. bind_on (literal "</record>") _ _ _ (λ _. done_on _ _)))))))))))))))

-- ------------------------------------------------------------------ identifiers

-- what stands behind the identifiers
behind_results : Open → List Reported → Reads Said (Unit {0})
behind_results o is = c_record_end (with_identifiers is o)

module _ (o : Open) (m : ℕ) (e : 16 - length o.identifiers ≡ suc m) where
  one_less : (i : Reported) → m ≡ 16 - length (o.identifiers ++ (i ∷ []))
  one_less i = omega (arith, e, length-append o.identifiers (i ∷ []))

  signature_chain : ((signature >>= (λ i. results_from m (o.identifiers ++ (i ∷ [])))) >>= behind_results o) ≡ c_signature o
  unfolding ◌>>◌ signature behind_results c_signature c_signature_domain c_signature_domain_end c_selector c_selector_end c_signature_outcome c_signature_end c_results c_record_end c_records said_open with_domain with_selector with_outcome with_signature with_identifiers without_open
  signature_chain =
      bind_assoc signature _ _ ∙
      bind_on (literal "<domain>") _ _ _ (λ _. bind_on (name) _ _ _ (λ d. bind_on (literal "/domain><selector>") _ _ _ (λ _. bind_on (name) _ _ _ (λ s. bind_on (literal "/selector><result>") _ _ _ (λ _. bind_on (outcome) _ _ _ (λ n. bind_on (literal "</result></dkim>") _ _ _ (λ _. done_on _ _ ∙ ap (λ k. results_from k (o.identifiers ++ (record { kind = 1; outcome = n; selector = s; domain = d } ∷ [])) >>= behind_results o) (one_less (record { kind = 1; outcome = n; selector = s; domain = d })))))))))

  sender_chain : ((sender >>= (λ i. done (o.identifiers ++ (i ∷ [])))) >>= behind_results o) ≡ c_sender o
  unfolding ◌>>◌ sender behind_results c_sender c_sender_domain c_sender_domain_end c_sender_outcome c_sender_end c_record_end c_records said_open with_domain with_outcome with_sender with_identifiers without_open
  sender_chain =
      bind_assoc sender _ _ ∙
      bind_on (literal "<domain>") _ _ _ (λ _. bind_on (name) _ _ _ (λ d. bind_on (literal "/domain><result>") _ _ _ (λ _. bind_on (outcome) _ _ _ (λ n. bind_on (literal "</result></spf></auth_results>") _ _ _ (λ _. done_on _ _ ∙ done_on _ _)))))

  pub results_room : c_results o ≡ c_item_start o
  unfolding ◌>>◌ c_results results_from c_item_start c_item after_item behind_results with_identifiers
  results_room =
      ap (λ k. results_from k o.identifiers >>= behind_results o) e ∙ bind_assoc (literal "<" >> item) _ _ ∙ bind_on (literal "<") _ _ _ (λ _. bind_same item _ _ by_item)
    where
      by_item : (i : Item) → ((elim i as (λ _. Reads Said (List Reported)) [ dkim_item ↦ signature >>= (λ s. results_from m (o.identifiers ++ (s ∷ []))) | spf_item ↦ sender >>= (λ s. done (o.identifiers ++ (s ∷ []))) | no_item ↦ done o.identifiers ]) >>= behind_results o) ≡ after_item o i
      by_item dkim_item = signature_chain
      by_item spf_item = sender_chain
      by_item no_item = done_on _ _

pub results_full : (o : Open) → 16 - length o.identifiers ≡ 0 → c_results o ≡ c_full o
unfolding ◌>>◌ c_results results_from c_full c_record_end c_records said_open with_identifiers behind_results
results_full o e = ap (λ k. results_from k o.identifiers >>= behind_results o) e ∙ bind_on (literal "</auth_results>") _ _ _ (λ _. done_on _ _)

-- ------------------------------------------------------------------ records

pub records_room : (o : Open) (n : ℕ) → o.left ≡ suc n → c_records o ≡ c_more_start o
unfolding ◌>>◌ c_records records_from c_more_start c_more after_more with_left
records_room o n e = ap (records_from widths) e ∙ bind_on (literal "<") _ _ _ (λ _. bind_same (one_word ("record>", true) (("/feedback>", false) ∷ [])) _ _ by_more)
  where
    less : n ≡ o.left - 1
    less = omega (arith, e)

    by_more : (more : Bool) → (elim more as (λ _. Reads Said (Unit {0})) [ true ↦ row widths >>= (λ r. give r (records_from widths n)) | false ↦ done tt ]) ≡ after_more o more
    by_more true = ap (λ k. row widths >>= (λ r. give r (records_from widths k))) less ∙ row_chain (with_left (o.left - 1) o)
    by_more false = refl

pub records_none : (o : Open) → o.left ≡ 0 → c_records o ≡ c_feedback o
unfolding ◌>>◌ c_records records_from c_feedback
records_none o e = ap (records_from widths) e ∙ sym (bind_done (literal "</feedback>"))

-- ------------------------------------------------------------------ what stands before the records

module _ (rest : Reads Said (Unit {0})) (o : Open) where
  extra_chain : rest ≡ c_id o → (extra_or_id >>= (λ u. rest)) ≡ c_extra_or_id o
  unfolding ◌>>◌ extra_or_id c_extra_or_id after_extra c_extra c_extra_end
  extra_chain h = bind_on (one_word ("extra_contact_info>", true) (("report_id>", false) ∷ [])) _ _ _ by_extra
    where
      by_extra : (b : Bool) → ◌>>=◌ {A = Unit {0}} (elim b as (λ _. Reads Said (Unit {0})) [ true ↦ text >> literal "/extra_contact_info><report_id>" | false ↦ done tt ]) (λ u. rest) ≡ after_extra o b
      by_extra true = bind_on text _ _ _ (λ _. bind_same (literal "/extra_contact_info><report_id>") _ _ (λ _. h))
      by_extra false = done_on _ _ ∙ h

  np_chain : rest ≡ c_adkim o → (np_then >>= (λ u. rest)) ≡ c_np o
  unfolding ◌>>◌ np_then c_np c_np_end
  np_chain h = bind_on policy _ _ _ (λ _. bind_same (literal "</np><adkim>") _ _ (λ _. h))

  second_chain : rest ≡ c_adkim o → (n : Bool) → ◌>>=◌ {A = Unit {0}} (elim n as (λ _. Reads Said (Unit {0})) [ true ↦ np_then | false ↦ done tt ]) (λ u. rest) ≡ after_second o n
  unfolding after_second
  second_chain h true = np_chain h
  second_chain h false = done_on _ _ ∙ h

  policies_chain : rest ≡ c_adkim o → (policies >>= (λ u. rest)) ≡ c_tags o
  unfolding ◌>>◌ policies c_tags after_tag c_sp c_sp_end c_second
  policies_chain h = bind_on (one_word ("sp>", sp_tag) (("np>", np_tag) ∷ ("adkim>", adkim_tag) ∷ [])) _ _ _ by_tag
    where
      by_tag : (t : Tag) → ◌>>=◌ {A = Unit {0}} (elim t as (λ _. Reads Said (Unit {0})) [ sp_tag ↦ policy >> literal "</sp><" >> one_word ("np>", true) (("adkim>", false) ∷ []) >>= (λ n. elim n [ true ↦ np_then | false ↦ done tt ]) | np_tag ↦ np_then | adkim_tag ↦ done tt ]) (λ u. rest) ≡ after_tag o t
      by_tag sp_tag = bind_assoc (policy >> literal "</sp><" >> one_word ("np>", true) (("adkim>", false) ∷ [])) _ _ ∙ bind_assoc (policy >> literal "</sp><") _ _ ∙ bind_on policy _ _ _ (λ _. bind_same (literal "</sp><") _ _ (λ _. bind_same (one_word ("np>", true) (("adkim>", false) ∷ [])) _ _ (second_chain h)))
      by_tag np_tag = np_chain h
      by_tag adkim_tag = done_on _ _ ∙ h

-- the whole
pub report_chain : (o : Open) → o.left ≡ 255 → report ≡ c_report o
unfolding ◌>>◌ report report_by c_report c_org c_org_end c_email c_email_end c_id c_id_end c_begin c_begin_end c_end c_end_end c_domain c_domain_end c_p c_p_end c_adkim c_adkim_end c_aspf c_aspf_end c_testing c_testing_end with_begin c_records
report_chain o e =
    bind_same (literal "<?xml version=\"1.0\" encoding=\"UTF-8\"?><feedback xmlns=\"urn:ietf:params:xml:ns:dmarc-2.0\"><report_metadata><org_name>") _ _ (λ _. bind_same (text) _ _ (λ _. bind_same (literal "/org_name><email>") _ _ (λ _. bind_same (text) _ _ (λ _. bind_same (literal "/email><") _ _ (λ _. extra_chain _ _ (bind_same (id) _ _ (λ _. bind_same (literal "/report_id><date_range><begin>") _ _ (λ _. bind_same (number 0 widths.times (λ n. true)) _ _ (λ b. bind_same (literal "/begin><end>") _ _ (λ _. bind_same (number 0 widths.times (leb b)) _ _ (λ _. bind_same (literal "/end></date_range></report_metadata><policy_published><domain>") _ _ (λ _. bind_same (name) _ _ (λ _. bind_same (literal "/domain><p>") _ _ (λ _. bind_same (policy) _ _ (λ _. bind_same (literal "</p><") _ _ (λ _. policies_chain _ (with_begin b o) (bind_same (mode) _ _ (λ _. bind_same (literal "</adkim><aspf>") _ _ (λ _. bind_same (mode) _ _ (λ _. bind_same (literal "</aspf><testing>") _ _ (λ _. bind_same (one_word ("n", false) (("y", true) ∷ [])) _ _ (λ _. bind_same (literal "</testing></policy_published><record>") _ _ (λ _. ap (λ k. row widths >>= (λ r. give r (records_from widths k))) (sym e) ∙ row_chain (with_begin b o))))))))))))))))))))))))
