-- Laws of nodes: where each leads is what the program goes on with.
use mathlib.Core.Path.{◌≡◌, refl, sym, ap, ◌∙◌}
use mathlib.Core.List.{List, [], ◌∷◌}
use mathlib.Core.Bool.{Bool, true, false}
use Prim.Native.Nat.{ℕ, suc, ◌-◌, ◌<◌}
use Prim.Native.String.{String}
use native.Mathlib.Omega.{arith}
use lib.Dec.{eqb, leb, ltb}
use lib.ListN.{length, drop}
use borrow.Author.Tests.{ltb-true, ltb-false, eqb-true, eqb-false, le-leb}
use Rattle.std.specs.Prelude.{if◌then◌else◌}
use Rattle.octets.specs.Octets.{Octets, octets}
use Rattle.policy.specs.declared.Policy.{Policy}
use Rattle.policy.specs.declared.Mode.{Mode}
use Rattle.parsing.specs.Reads.{Reads, give, ◌>>=◌, ◌>>◌, exactly, octet_where}
use Rattle.parsing_steps.specs.Stepping.{on, step_of, takes, then_on, behind}
use Rattle.parsing_steps.proofs.StepLaws.{bind_on, done_on, step_bind, where_no, where_yes, from_first}
use Rattle.report_form.specs.ReportForm.{Said, widths}
use Rattle.report_form.specs.code.ReportReading.{first_is as starts, rest_of, among, chosen, one_word, reading_literal as literal, policy, mode, outcome, disposition, fail_or_pass, only, dkim_after, spf_after, item, Disposition, passed, applied, dkim_item, spf_item, no_item, sp_tag, np_tag, adkim_tag, text, id, reading_number as number, name, reading_address as address, address_from, digits_more as number_from, next_number, either}
use Rattle.report_states.specs.Chain.{Open, with_begin, with_source, with_count, with_disposition, with_dkim, with_spf, with_outcome, with_signature, said_open, c_records, c_record_end, c_results, c_full, c_signature_end, c_signature_outcome, c_selector_end, c_selector, c_signature_domain_end, c_signature_domain, c_signature, c_sender_end, c_sender_outcome, c_sender_domain_end, c_sender_domain, c_sender, after_item, c_item, c_item_start, c_author_end, c_author, c_spf_end, c_spf, c_dkim_end, c_dkim, c_disposition_end, c_disposition, c_count_end, c_count, c_source_end, c_source, c_row, after_more, c_more, c_more_start, c_feedback, c_testing_end, c_testing, c_aspf_end, c_aspf, c_adkim_end, c_adkim, c_np_end, c_np, after_second, c_second, c_sp_end, c_sp, after_tag, c_tags, c_p_end, c_p, c_domain_end, c_domain, c_end_end, c_end, c_begin_end, c_begin, c_id_end, c_id, c_extra_end, c_extra, after_extra, c_extra_or_id, c_email_end, c_email, c_org_end, c_org, c_report}
use Rattle.report_states.specs.Standing.{Literal, Word, Text, Number, Name, Node, Goes, l_report, l_org_end, l_email_end, l_extra_end, l_id_end, l_begin_end, l_end_end, l_domain_end, l_p_end, l_sp_end, l_np_end, l_adkim_end, l_aspf_end, l_testing_end, l_row, l_source_end, l_count_end, l_disposition_end, l_dkim_fail, l_dkim_end, l_spf_fail, l_spf_pass, l_spf_end, l_author_end, l_item_start, l_signature, l_signature_domain_end, l_selector_end, l_signature_end, l_sender, l_sender_domain_end, l_sender_end, l_full, l_record_end, l_more_start, l_feedback, w_extra, w_p, w_tags, w_sp, w_second, w_np, w_adkim, w_aspf, w_testing, w_disposition, w_dkim, w_spf, w_item, w_signature, w_sender, w_more, t_org, t_email, t_extra, n_begin, n_end, n_count, m_domain, m_author, m_signature, m_selector, m_sender, literal_node, word_node, text_node, id_node, number_node, name_node, address_node, last_node, literal_text, words, pick_from, pick, c_dkim_fail, c_dkim_any, c_spf_fail, c_spf_pass, c_spf_any, from_literal, from_word, from_text, from_number, from_name, from, by, handed, arrive, dkim_node, spf_node, results_node, records_node, literal_goes, disposition_numbered, word_goes, text_goes, number_goes, name_goes, text_left, id_left, digits_of, number_left, least, most, floor, name_left, part_from, address_left, picked, word_left, left_at, start, kept_new}
use Rattle.report_states.proofs.ChainLaws.{results_room, results_full, records_room, records_none}

-- ------------------------------------------------------------------ where the program goes by what is known

dkim_law : (d : Disposition) (o : Open) → (dkim_after d >>= (λ k. c_dkim_end (with_dkim k o))) ≡ from (dkim_node d) o
unfolding dkim_after dkim_node from from_word from_literal c_dkim_any c_dkim_fail only ◌>>◌
dkim_law passed o = refl
dkim_law (applied Policy.None) o = bind_on (literal "fail") _ _ _ (λ _. done_on _ _)
dkim_law (applied Policy.Quarantine) o = refl
dkim_law (applied Policy.Reject) o = refl

spf_law : (d : Disposition) (k : Bool) (o : Open) → (spf_after d k >>= (λ s. c_spf_end (with_spf s o))) ≡ from (spf_node d k) o
unfolding spf_after spf_node from from_word from_literal c_spf_any c_spf_fail c_spf_pass only ◌>>◌
spf_law passed true o = refl
spf_law passed false o = bind_on (literal "pass") _ _ _ (λ _. done_on _ _)
spf_law (applied Policy.None) k o = bind_on (literal "fail") _ _ _ (λ _. done_on _ _)
spf_law (applied Policy.Quarantine) k o = refl
spf_law (applied Policy.Reject) k o = refl

results_law : (o : Open) → c_results o ≡ from (results_node o.identifiers) o
unfolding results_node from from_literal
results_law o = go (ltb (length o.identifiers) 16) refl
  where
    go : (b : Bool) → ltb (length o.identifiers) 16 ≡ b → c_results o ≡ from (if b then literal_node l_item_start else literal_node l_full) o
    go true e = let h = ltb-true (length o.identifiers) 16 e in results_room o (15 - length o.identifiers) (omega (arith, h))
    go false e = let h = ltb-false (length o.identifiers) 16 e in results_full o (omega (arith, h))

records_law : (o : Open) → c_records o ≡ from (records_node o.left) o
unfolding records_node from from_literal
records_law o = go (eqb o.left 0) refl
  where
    go : (b : Bool) → eqb o.left 0 ≡ b → c_records o ≡ from (if b then literal_node l_feedback else literal_node l_more_start) o
    go true e = records_none o (eqb-true o.left 0 e)
    go false e = let h = eqb-false o.left 0 e in records_room o (o.left - 1) (omega (arith, h))

-- ------------------------------------------------------------------ behind a literal

pub literal_law : (l : Literal) (o : Open) → from_literal l o ≡ (literal (literal_text l) >> arrive (literal_goes l o))
unfolding from_literal literal_text literal_goes arrive by handed from from_word from_text from_number from_name c_dkim c_spf c_adkim_end c_aspf_end c_author_end c_begin_end c_count_end c_disposition_end c_dkim_end c_dkim_fail c_domain_end c_email_end c_end_end c_extra_end c_feedback c_full c_id_end c_item_start c_more_start c_np_end c_org_end c_p_end c_record_end c_report c_row c_selector_end c_sender c_sender_domain_end c_sender_end c_signature c_signature_domain_end c_signature_end c_source_end c_sp_end c_spf_end c_spf_fail c_spf_pass c_testing_end
literal_law l_report o = refl
literal_law l_org_end o = refl
literal_law l_email_end o = refl
literal_law l_extra_end o = refl
literal_law l_id_end o = refl
literal_law l_begin_end o = refl
literal_law l_end_end o = refl
literal_law l_domain_end o = refl
literal_law l_p_end o = refl
literal_law l_sp_end o = refl
literal_law l_np_end o = refl
literal_law l_adkim_end o = refl
literal_law l_aspf_end o = refl
literal_law l_testing_end o = refl
literal_law l_row o = refl
literal_law l_source_end o = refl
literal_law l_count_end o = refl
literal_law l_disposition_end o = ap (λ t. literal "</disposition><dkim>" >> t) (dkim_law o.disposition o)
literal_law l_dkim_fail o = refl
literal_law l_dkim_end o = ap (λ t. literal "</dkim><spf>" >> t) (spf_law o.disposition o.dkim o)
literal_law l_spf_fail o = refl
literal_law l_spf_pass o = refl
literal_law l_spf_end o = refl
literal_law l_author_end o = ap (λ t. literal "/header_from></identifiers><auth_results>" >> t) (results_law o)
literal_law l_item_start o = refl
literal_law l_signature o = refl
literal_law l_signature_domain_end o = refl
literal_law l_selector_end o = refl
literal_law l_signature_end o = ap (λ t. literal "</result></dkim>" >> t) (results_law (with_signature o))
literal_law l_sender o = refl
literal_law l_sender_domain_end o = refl
literal_law l_sender_end o = refl
literal_law l_full o = refl
literal_law l_record_end o = ap (λ t. literal "</record>" >> give (said_open o) t) (records_law o)
literal_law l_more_start o = refl
literal_law l_feedback o = refl

-- ------------------------------------------------------------------ the first octet of a word

rest_on : {A : Type 0} (s : Octets) (a : A) (f : A → Reads Said (Unit {0})) (t : Reads Said (Unit {0})) → f a ≡ t → (rest_of s a >>= f) ≡ (exactly (drop 1 s) >>= (λ _. t))
unfolding rest_of exactly ◌>>◌
rest_on [] a f t e = done_on _ _ ∙ e ∙ sym (done_on _ _)
rest_on (c ∷ s) a f t e = bind_on (exactly s) _ _ _ (λ _. done_on _ _ ∙ e)

takes_word : {A : Type 0} (w : String × A) (ws : List (String × A)) → takes (one_word {R = Said} w ws) ≡ true
unfolding takes one_word octet_where
takes_word w ws = refl

module _ {A : Type 0} (f : A → Reads Said (Unit {0})) (g : ℕ → Goes) (x : ℕ) where
  two_words : (s t : String) (a b : A) → f a ≡ arrive (g 0) → f b ≡ arrive (g 1)
      → step_of (one_word (s, a) ((t, b) ∷ []) >>= f) x ≡ picked (s ∷ t ∷ []) g (pick x (s ∷ t ∷ []))
  unfolding pick pick_from picked then_on among chosen ◌>>◌ one_word
  two_words s t a b h0 h1 = step_bind (one_word (s, a) ((t, b) ∷ [])) f x (takes_word (s, a) ((t, b) ∷ [])) ∙ go (starts x (octets s)) refl (starts x (octets t)) refl
    where
      go : (b0 : Bool) → starts x (octets s) ≡ b0 → (b1 : Bool) → starts x (octets t) ≡ b1 → then_on (step_of (one_word (s, a) ((t, b) ∷ [])) x) f ≡ picked (s ∷ t ∷ []) g (pick x (s ∷ t ∷ []))
      go true e0 true e1 = rw (e0, pick_from) (ap (λ z. then_on z f) (where_yes (λ y. among y ((s, a) ∷ (t, b) ∷ [])) (λ y. chosen y (s, a) ((t, b) ∷ [])) x (rw (e0) refl)) ∙ rw (e0, chosen) (ap on (rest_on (octets s) a f _ h0)))
      go true e0 false e1 = rw (e0, pick_from) (ap (λ z. then_on z f) (where_yes (λ y. among y ((s, a) ∷ (t, b) ∷ [])) (λ y. chosen y (s, a) ((t, b) ∷ [])) x (rw (e0) refl)) ∙ rw (e0, chosen) (ap on (rest_on (octets s) a f _ h0)))
      go false e0 true e1 = rw (e0, e1, pick_from) (ap (λ z. then_on z f) (where_yes (λ y. among y ((s, a) ∷ (t, b) ∷ [])) (λ y. chosen y (s, a) ((t, b) ∷ [])) x (rw (e0, e1) refl)) ∙ rw (e0, chosen) (ap on (rest_on (octets t) b f _ h1)))
      go false e0 false e1 = rw (e0, e1, pick_from) (ap (λ z. then_on z f) (where_no (λ y. among y ((s, a) ∷ (t, b) ∷ [])) (λ y. chosen y (s, a) ((t, b) ∷ [])) x (rw (e0, e1) refl)))

  three_words : (s t u : String) (a b c : A) → f a ≡ arrive (g 0) → f b ≡ arrive (g 1) → f c ≡ arrive (g 2)
      → step_of (one_word (s, a) ((t, b) ∷ (u, c) ∷ []) >>= f) x ≡ picked (s ∷ t ∷ u ∷ []) g (pick x (s ∷ t ∷ u ∷ []))
  unfolding pick pick_from picked then_on among chosen ◌>>◌ one_word
  three_words s t u a b c h0 h1 h2 = step_bind (one_word (s, a) ((t, b) ∷ (u, c) ∷ [])) f x (takes_word (s, a) ((t, b) ∷ (u, c) ∷ [])) ∙ go (starts x (octets s)) refl (starts x (octets t)) refl (starts x (octets u)) refl
    where
      go : (b0 : Bool) → starts x (octets s) ≡ b0 → (b1 : Bool) → starts x (octets t) ≡ b1 → (b2 : Bool) → starts x (octets u) ≡ b2 → then_on (step_of (one_word (s, a) ((t, b) ∷ (u, c) ∷ [])) x) f ≡ picked (s ∷ t ∷ u ∷ []) g (pick x (s ∷ t ∷ u ∷ []))
      go true e0 true e1 true e2 = rw (e0, pick_from) (ap (λ z. then_on z f) (where_yes (λ y. among y ((s, a) ∷ (t, b) ∷ (u, c) ∷ [])) (λ y. chosen y (s, a) ((t, b) ∷ (u, c) ∷ [])) x (rw (e0) refl)) ∙ rw (e0, chosen) (ap on (rest_on (octets s) a f _ h0)))
      go true e0 true e1 false e2 = rw (e0, pick_from) (ap (λ z. then_on z f) (where_yes (λ y. among y ((s, a) ∷ (t, b) ∷ (u, c) ∷ [])) (λ y. chosen y (s, a) ((t, b) ∷ (u, c) ∷ [])) x (rw (e0) refl)) ∙ rw (e0, chosen) (ap on (rest_on (octets s) a f _ h0)))
      go true e0 false e1 true e2 = rw (e0, pick_from) (ap (λ z. then_on z f) (where_yes (λ y. among y ((s, a) ∷ (t, b) ∷ (u, c) ∷ [])) (λ y. chosen y (s, a) ((t, b) ∷ (u, c) ∷ [])) x (rw (e0) refl)) ∙ rw (e0, chosen) (ap on (rest_on (octets s) a f _ h0)))
      go true e0 false e1 false e2 = rw (e0, pick_from) (ap (λ z. then_on z f) (where_yes (λ y. among y ((s, a) ∷ (t, b) ∷ (u, c) ∷ [])) (λ y. chosen y (s, a) ((t, b) ∷ (u, c) ∷ [])) x (rw (e0) refl)) ∙ rw (e0, chosen) (ap on (rest_on (octets s) a f _ h0)))
      go false e0 true e1 true e2 = rw (e0, e1, pick_from) (ap (λ z. then_on z f) (where_yes (λ y. among y ((s, a) ∷ (t, b) ∷ (u, c) ∷ [])) (λ y. chosen y (s, a) ((t, b) ∷ (u, c) ∷ [])) x (rw (e0, e1) refl)) ∙ rw (e0, e1, chosen) (ap on (rest_on (octets t) b f _ h1)))
      go false e0 true e1 false e2 = rw (e0, e1, pick_from) (ap (λ z. then_on z f) (where_yes (λ y. among y ((s, a) ∷ (t, b) ∷ (u, c) ∷ [])) (λ y. chosen y (s, a) ((t, b) ∷ (u, c) ∷ [])) x (rw (e0, e1) refl)) ∙ rw (e0, e1, chosen) (ap on (rest_on (octets t) b f _ h1)))
      go false e0 false e1 true e2 = rw (e0, e1, e2, pick_from) (ap (λ z. then_on z f) (where_yes (λ y. among y ((s, a) ∷ (t, b) ∷ (u, c) ∷ [])) (λ y. chosen y (s, a) ((t, b) ∷ (u, c) ∷ [])) x (rw (e0, e1, e2) refl)) ∙ rw (e0, e1, chosen) (ap on (rest_on (octets u) c f _ h2)))
      go false e0 false e1 false e2 = rw (e0, e1, e2, pick_from) (ap (λ z. then_on z f) (where_no (λ y. among y ((s, a) ∷ (t, b) ∷ (u, c) ∷ [])) (λ y. chosen y (s, a) ((t, b) ∷ (u, c) ∷ [])) x (rw (e0, e1, e2) refl)))

  four_words : (s t u v : String) (a b c d : A) → f a ≡ arrive (g 0) → f b ≡ arrive (g 1) → f c ≡ arrive (g 2) → f d ≡ arrive (g 3)
      → step_of (one_word (s, a) ((t, b) ∷ (u, c) ∷ (v, d) ∷ []) >>= f) x ≡ picked (s ∷ t ∷ u ∷ v ∷ []) g (pick x (s ∷ t ∷ u ∷ v ∷ []))
  unfolding pick pick_from picked then_on among chosen ◌>>◌ one_word
  four_words s t u v a b c d h0 h1 h2 h3 = step_bind (one_word (s, a) ((t, b) ∷ (u, c) ∷ (v, d) ∷ [])) f x (takes_word (s, a) ((t, b) ∷ (u, c) ∷ (v, d) ∷ [])) ∙ go (starts x (octets s)) refl (starts x (octets t)) refl (starts x (octets u)) refl (starts x (octets v)) refl
    where
      go : (b0 : Bool) → starts x (octets s) ≡ b0 → (b1 : Bool) → starts x (octets t) ≡ b1 → (b2 : Bool) → starts x (octets u) ≡ b2 → (b3 : Bool) → starts x (octets v) ≡ b3 → then_on (step_of (one_word (s, a) ((t, b) ∷ (u, c) ∷ (v, d) ∷ [])) x) f ≡ picked (s ∷ t ∷ u ∷ v ∷ []) g (pick x (s ∷ t ∷ u ∷ v ∷ []))
      go true e0 true e1 true e2 true e3 = rw (e0, pick_from) (ap (λ z. then_on z f) (where_yes (λ y. among y ((s, a) ∷ (t, b) ∷ (u, c) ∷ (v, d) ∷ [])) (λ y. chosen y (s, a) ((t, b) ∷ (u, c) ∷ (v, d) ∷ [])) x (rw (e0) refl)) ∙ rw (e0, chosen) (ap on (rest_on (octets s) a f _ h0)))
      go true e0 true e1 true e2 false e3 = rw (e0, pick_from) (ap (λ z. then_on z f) (where_yes (λ y. among y ((s, a) ∷ (t, b) ∷ (u, c) ∷ (v, d) ∷ [])) (λ y. chosen y (s, a) ((t, b) ∷ (u, c) ∷ (v, d) ∷ [])) x (rw (e0) refl)) ∙ rw (e0, chosen) (ap on (rest_on (octets s) a f _ h0)))
      go true e0 true e1 false e2 true e3 = rw (e0, pick_from) (ap (λ z. then_on z f) (where_yes (λ y. among y ((s, a) ∷ (t, b) ∷ (u, c) ∷ (v, d) ∷ [])) (λ y. chosen y (s, a) ((t, b) ∷ (u, c) ∷ (v, d) ∷ [])) x (rw (e0) refl)) ∙ rw (e0, chosen) (ap on (rest_on (octets s) a f _ h0)))
      go true e0 true e1 false e2 false e3 = rw (e0, pick_from) (ap (λ z. then_on z f) (where_yes (λ y. among y ((s, a) ∷ (t, b) ∷ (u, c) ∷ (v, d) ∷ [])) (λ y. chosen y (s, a) ((t, b) ∷ (u, c) ∷ (v, d) ∷ [])) x (rw (e0) refl)) ∙ rw (e0, chosen) (ap on (rest_on (octets s) a f _ h0)))
      go true e0 false e1 true e2 true e3 = rw (e0, pick_from) (ap (λ z. then_on z f) (where_yes (λ y. among y ((s, a) ∷ (t, b) ∷ (u, c) ∷ (v, d) ∷ [])) (λ y. chosen y (s, a) ((t, b) ∷ (u, c) ∷ (v, d) ∷ [])) x (rw (e0) refl)) ∙ rw (e0, chosen) (ap on (rest_on (octets s) a f _ h0)))
      go true e0 false e1 true e2 false e3 = rw (e0, pick_from) (ap (λ z. then_on z f) (where_yes (λ y. among y ((s, a) ∷ (t, b) ∷ (u, c) ∷ (v, d) ∷ [])) (λ y. chosen y (s, a) ((t, b) ∷ (u, c) ∷ (v, d) ∷ [])) x (rw (e0) refl)) ∙ rw (e0, chosen) (ap on (rest_on (octets s) a f _ h0)))
      go true e0 false e1 false e2 true e3 = rw (e0, pick_from) (ap (λ z. then_on z f) (where_yes (λ y. among y ((s, a) ∷ (t, b) ∷ (u, c) ∷ (v, d) ∷ [])) (λ y. chosen y (s, a) ((t, b) ∷ (u, c) ∷ (v, d) ∷ [])) x (rw (e0) refl)) ∙ rw (e0, chosen) (ap on (rest_on (octets s) a f _ h0)))
      go true e0 false e1 false e2 false e3 = rw (e0, pick_from) (ap (λ z. then_on z f) (where_yes (λ y. among y ((s, a) ∷ (t, b) ∷ (u, c) ∷ (v, d) ∷ [])) (λ y. chosen y (s, a) ((t, b) ∷ (u, c) ∷ (v, d) ∷ [])) x (rw (e0) refl)) ∙ rw (e0, chosen) (ap on (rest_on (octets s) a f _ h0)))
      go false e0 true e1 true e2 true e3 = rw (e0, e1, pick_from) (ap (λ z. then_on z f) (where_yes (λ y. among y ((s, a) ∷ (t, b) ∷ (u, c) ∷ (v, d) ∷ [])) (λ y. chosen y (s, a) ((t, b) ∷ (u, c) ∷ (v, d) ∷ [])) x (rw (e0, e1) refl)) ∙ rw (e0, e1, chosen) (ap on (rest_on (octets t) b f _ h1)))
      go false e0 true e1 true e2 false e3 = rw (e0, e1, pick_from) (ap (λ z. then_on z f) (where_yes (λ y. among y ((s, a) ∷ (t, b) ∷ (u, c) ∷ (v, d) ∷ [])) (λ y. chosen y (s, a) ((t, b) ∷ (u, c) ∷ (v, d) ∷ [])) x (rw (e0, e1) refl)) ∙ rw (e0, e1, chosen) (ap on (rest_on (octets t) b f _ h1)))
      go false e0 true e1 false e2 true e3 = rw (e0, e1, pick_from) (ap (λ z. then_on z f) (where_yes (λ y. among y ((s, a) ∷ (t, b) ∷ (u, c) ∷ (v, d) ∷ [])) (λ y. chosen y (s, a) ((t, b) ∷ (u, c) ∷ (v, d) ∷ [])) x (rw (e0, e1) refl)) ∙ rw (e0, e1, chosen) (ap on (rest_on (octets t) b f _ h1)))
      go false e0 true e1 false e2 false e3 = rw (e0, e1, pick_from) (ap (λ z. then_on z f) (where_yes (λ y. among y ((s, a) ∷ (t, b) ∷ (u, c) ∷ (v, d) ∷ [])) (λ y. chosen y (s, a) ((t, b) ∷ (u, c) ∷ (v, d) ∷ [])) x (rw (e0, e1) refl)) ∙ rw (e0, e1, chosen) (ap on (rest_on (octets t) b f _ h1)))
      go false e0 false e1 true e2 true e3 = rw (e0, e1, e2, pick_from) (ap (λ z. then_on z f) (where_yes (λ y. among y ((s, a) ∷ (t, b) ∷ (u, c) ∷ (v, d) ∷ [])) (λ y. chosen y (s, a) ((t, b) ∷ (u, c) ∷ (v, d) ∷ [])) x (rw (e0, e1, e2) refl)) ∙ rw (e0, e1, e2, chosen) (ap on (rest_on (octets u) c f _ h2)))
      go false e0 false e1 true e2 false e3 = rw (e0, e1, e2, pick_from) (ap (λ z. then_on z f) (where_yes (λ y. among y ((s, a) ∷ (t, b) ∷ (u, c) ∷ (v, d) ∷ [])) (λ y. chosen y (s, a) ((t, b) ∷ (u, c) ∷ (v, d) ∷ [])) x (rw (e0, e1, e2) refl)) ∙ rw (e0, e1, e2, chosen) (ap on (rest_on (octets u) c f _ h2)))
      go false e0 false e1 false e2 true e3 = rw (e0, e1, e2, e3, pick_from) (ap (λ z. then_on z f) (where_yes (λ y. among y ((s, a) ∷ (t, b) ∷ (u, c) ∷ (v, d) ∷ [])) (λ y. chosen y (s, a) ((t, b) ∷ (u, c) ∷ (v, d) ∷ [])) x (rw (e0, e1, e2, e3) refl)) ∙ rw (e0, e1, e2, chosen) (ap on (rest_on (octets v) d f _ h3)))
      go false e0 false e1 false e2 false e3 = rw (e0, e1, e2, e3, pick_from) (ap (λ z. then_on z f) (where_no (λ y. among y ((s, a) ∷ (t, b) ∷ (u, c) ∷ (v, d) ∷ [])) (λ y. chosen y (s, a) ((t, b) ∷ (u, c) ∷ (v, d) ∷ [])) x (rw (e0, e1, e2, e3) refl)))

pub word_law : (w : Word) (o : Open) (x : ℕ) → step_of (from_word w o) x ≡ picked (words w) (word_goes w o) (pick x (words w))
unfolding from_word words word_goes disposition_numbered arrive by handed from from_literal from_text policy mode outcome disposition fail_or_pass item after_extra after_tag after_second after_item after_more c_extra_or_id c_p c_tags c_sp c_second c_np c_adkim c_aspf c_testing c_disposition c_dkim_any c_spf_any c_item c_signature_outcome c_sender_outcome c_more
word_law w_extra o x = two_words (after_extra o) (word_goes w_extra o) x "extra_contact_info>" "report_id>" true false refl refl
word_law w_p o x = three_words (λ p. c_p_end o) (word_goes w_p o) x "none" "quarantine" "reject" Policy.None Policy.Quarantine Policy.Reject refl refl refl
word_law w_tags o x = three_words (after_tag o) (word_goes w_tags o) x "sp>" "np>" "adkim>" sp_tag np_tag adkim_tag refl refl refl
word_law w_sp o x = three_words (λ p. c_sp_end o) (word_goes w_sp o) x "none" "quarantine" "reject" Policy.None Policy.Quarantine Policy.Reject refl refl refl
word_law w_second o x = two_words (after_second o) (word_goes w_second o) x "np>" "adkim>" true false refl refl
word_law w_np o x = three_words (λ p. c_np_end o) (word_goes w_np o) x "none" "quarantine" "reject" Policy.None Policy.Quarantine Policy.Reject refl refl refl
word_law w_adkim o x = two_words (λ m. c_adkim_end o) (word_goes w_adkim o) x "r" "s" Mode.Relaxed Mode.Strict refl refl
word_law w_aspf o x = two_words (λ m. c_aspf_end o) (word_goes w_aspf o) x "r" "s" Mode.Relaxed Mode.Strict refl refl
word_law w_testing o x = two_words (λ t. c_testing_end o) (word_goes w_testing o) x "n" "y" false true refl refl
word_law w_disposition o x = four_words (λ p. c_disposition_end (with_disposition p o)) (word_goes w_disposition o) x "pass" "none" "quarantine" "reject" passed (applied Policy.None) (applied Policy.Quarantine) (applied Policy.Reject) refl refl refl refl
word_law w_dkim o x = two_words (λ k. c_dkim_end (with_dkim k o)) (word_goes w_dkim o) x "fail" "pass" false true refl refl
word_law w_spf o x = two_words (λ k. c_spf_end (with_spf k o)) (word_goes w_spf o) x "fail" "pass" false true refl refl
word_law w_item o x = three_words (after_item o) (word_goes w_item o) x "dkim>" "spf>" "/auth_results>" dkim_item spf_item no_item refl refl refl
word_law w_signature o x = three_words (λ n. c_signature_end (with_outcome n o)) (word_goes w_signature o) x "fail" "pass" "temperror" 0 1 2 refl refl refl
word_law w_sender o x = three_words (λ n. c_sender_end (with_outcome n o)) (word_goes w_sender o) x "fail" "pass" "temperror" 0 1 2 refl refl refl
word_law w_more o x = two_words (after_more o) (word_goes w_more o) x "record>" "/feedback>" true false refl refl

-- ------------------------------------------------------------------ a node's start

zero_less : (n : ℕ) → true ≡ leb 0 n
zero_less n = sym (le-leb 0 n (omega arith))

start_number : (n : Number) (o : Open) → (number_left (least n) (most n) (floor n o) 0 false >>= (λ v. arrive (number_goes n o v))) ≡ from_number n o
unfolding number_left digits_of least most floor number_goes arrive by handed from from_literal from_number c_begin c_end c_count number
start_number n_begin o = λ j. number_from (suc widths.times) 0 widths.times (λ n. sym (zero_less n) j) 0 false >>= (λ v. c_begin_end (with_begin v o))
start_number n_end o = refl
start_number n_count o = λ j. number_from (suc widths.counts) 1 widths.counts (λ n. sym (zero_less n) j) 0 false >>= (λ v. c_count_end (with_count v o))

start_name : (n : Name) (o : Open) → (name_left 0 0 [] >>= (λ v. arrive (name_goes n o v))) ≡ from_name n o
unfolding name_left name_goes arrive by handed from from_literal from_name c_domain c_author c_signature_domain c_selector c_sender_domain name
start_name m_domain o = refl
start_name m_author o = refl
start_name m_signature o = refl
start_name m_selector o = refl
start_name m_sender o = refl

start_text : (t : Text) (o : Open) → (text_left 0 0 >> arrive (text_goes t o)) ≡ from_text t o
unfolding text_left text_goes arrive by handed from from_literal from_text c_org c_email c_extra text ◌>>◌
start_text t_org o = refl
start_text t_email o = refl
start_text t_extra o = refl

start_literal : (l : Literal) (o : Open) → (behind 0 (octets (literal_text l)) >> arrive (literal_goes l o)) ≡ from_literal l o
unfolding literal literal_text octets
start_literal l o = ap (λ t. t >> arrive (literal_goes l o)) (sym (from_first Said (octets (literal_text l)) (some_text l))) ∙ sym (literal_law l o)
  where
    some_text : (m : Literal) → 0 < length (octets (literal_text m))
    some_text l_report = ltb-true 0 (length (octets (literal_text l_report))) refl
    some_text l_org_end = ltb-true 0 (length (octets (literal_text l_org_end))) refl
    some_text l_email_end = ltb-true 0 (length (octets (literal_text l_email_end))) refl
    some_text l_extra_end = ltb-true 0 (length (octets (literal_text l_extra_end))) refl
    some_text l_id_end = ltb-true 0 (length (octets (literal_text l_id_end))) refl
    some_text l_begin_end = ltb-true 0 (length (octets (literal_text l_begin_end))) refl
    some_text l_end_end = ltb-true 0 (length (octets (literal_text l_end_end))) refl
    some_text l_domain_end = ltb-true 0 (length (octets (literal_text l_domain_end))) refl
    some_text l_p_end = ltb-true 0 (length (octets (literal_text l_p_end))) refl
    some_text l_sp_end = ltb-true 0 (length (octets (literal_text l_sp_end))) refl
    some_text l_np_end = ltb-true 0 (length (octets (literal_text l_np_end))) refl
    some_text l_adkim_end = ltb-true 0 (length (octets (literal_text l_adkim_end))) refl
    some_text l_aspf_end = ltb-true 0 (length (octets (literal_text l_aspf_end))) refl
    some_text l_testing_end = ltb-true 0 (length (octets (literal_text l_testing_end))) refl
    some_text l_row = ltb-true 0 (length (octets (literal_text l_row))) refl
    some_text l_source_end = ltb-true 0 (length (octets (literal_text l_source_end))) refl
    some_text l_count_end = ltb-true 0 (length (octets (literal_text l_count_end))) refl
    some_text l_disposition_end = ltb-true 0 (length (octets (literal_text l_disposition_end))) refl
    some_text l_dkim_fail = ltb-true 0 (length (octets (literal_text l_dkim_fail))) refl
    some_text l_dkim_end = ltb-true 0 (length (octets (literal_text l_dkim_end))) refl
    some_text l_spf_fail = ltb-true 0 (length (octets (literal_text l_spf_fail))) refl
    some_text l_spf_pass = ltb-true 0 (length (octets (literal_text l_spf_pass))) refl
    some_text l_spf_end = ltb-true 0 (length (octets (literal_text l_spf_end))) refl
    some_text l_author_end = ltb-true 0 (length (octets (literal_text l_author_end))) refl
    some_text l_item_start = ltb-true 0 (length (octets (literal_text l_item_start))) refl
    some_text l_signature = ltb-true 0 (length (octets (literal_text l_signature))) refl
    some_text l_signature_domain_end = ltb-true 0 (length (octets (literal_text l_signature_domain_end))) refl
    some_text l_selector_end = ltb-true 0 (length (octets (literal_text l_selector_end))) refl
    some_text l_signature_end = ltb-true 0 (length (octets (literal_text l_signature_end))) refl
    some_text l_sender = ltb-true 0 (length (octets (literal_text l_sender))) refl
    some_text l_sender_domain_end = ltb-true 0 (length (octets (literal_text l_sender_domain_end))) refl
    some_text l_sender_end = ltb-true 0 (length (octets (literal_text l_sender_end))) refl
    some_text l_full = ltb-true 0 (length (octets (literal_text l_full))) refl
    some_text l_record_end = ltb-true 0 (length (octets (literal_text l_record_end))) refl
    some_text l_more_start = ltb-true 0 (length (octets (literal_text l_more_start))) refl
    some_text l_feedback = ltb-true 0 (length (octets (literal_text l_feedback))) refl

start_id : (o : Open) → (id_left 0 >> from_literal l_id_end o) ≡ c_id o
unfolding id_left from_literal c_id id ◌>>◌
start_id o = refl

start_address : (o : Open) → (address_left (next_number either []) >>= (λ s. from_literal l_source_end (with_source s o))) ≡ c_source o
unfolding address_left part_from from_literal c_source address next_number address_from
start_address o = refl

-- at a node's start, the program from there
pub start_law : (m : Node) (n : ℕ) (o : Open) → left_at m (start n) (kept_new o) ≡ from m o
unfolding left_at start kept_new word_left from
start_law (literal_node l) n o = start_literal l o
start_law (word_node w) n o = refl
start_law (text_node t) n o = start_text t o
start_law id_node n o = start_id o
start_law (number_node m) n o = start_number m o
start_law (name_node m) n o = start_name m o
start_law address_node n o = start_address o
start_law last_node n o = refl
