-- Laws of literals: where each leads.
use mathlib.Core.Path.{◌≡◌, refl, sym, ap, ◌∙◌, subst}
use mathlib.Core.List.{[], flatten}
use mathlib.Core.Logic.{◌⊎◌, inl, inr}
use mathlib.Core.Bool.{Bool, true, false, ◌||◌, not, false≢true}
use Prim.Native.Nat.{ℕ, zero, suc, ◌+◌, ◌*◌, ◌≤◌, ◌<◌}
use native.Mathlib.Omega.{arith}
use lib.Dec.{eqb, ltb}
use lib.ListN.{length, get_or}
use borrow.Author.Tests.{ne_eqb, lt-leb, le-leb, ltb-true, eqb-true, eqb-false, leb-false}
use Rattle.std.specs.Prelude.{if◌then◌else◌, Some}
use Rattle.octets.specs.Octets.{Octets, octets, is_set, between}
use Rattle.parsing_steps.specs.Stepping.{step_of}
use Rattle.parsing_steps.proofs.StepLaws.{behind_past}
use Rattle.report_form.specs.ReportForm.{Said}
use Rattle.report_form.specs.code.ReportReading.{passed}
use Rattle.report_states.specs.Chain.{said_open, with_dkim, with_spf}
use Rattle.report_states.specs.Standing.{Literal, literal_node, by, arrive, literal_text, literal_goes, dkim_node, spf_node, results_node, records_node, disposition_numbered, nodes, node_of, left_at, l_report, l_org_end, l_email_end, l_extra_end, l_id_end, l_begin_end, l_end_end, l_domain_end, l_p_end, l_sp_end, l_np_end, l_adkim_end, l_aspf_end, l_testing_end, l_row, l_source_end, l_count_end, l_disposition_end, l_dkim_fail, l_dkim_end, l_spf_fail, l_spf_pass, l_spf_end, l_author_end, l_item_start, l_signature, l_signature_domain_end, l_selector_end, l_signature_end, l_sender, l_sender_domain_end, l_sender_end, l_full, l_record_end, l_more_start, l_feedback}
use Rattle.std.specs.Prelude.{Result, Ok, Err}
use Rattle.report_steps.specs.declared.Leaf.{Leaf}
use Rattle.report_steps.specs.declared.Refusal.{Refusal}
use Rattle.report_steps.specs.code.Steps.{refusal_number}
use Rattle.report_leaves.specs.code.Leaves.{said}
use Rattle.report_words.proofs.PieceSteps.{Answer, PieceSays}
use Rattle.report_kept.specs.declared.Written.{Written}
use Rattle.report_words.specs.code.Table.{literals, word_nodes, texts}
use Rattle.report_values.proofs.NodeSteps.{goes, literal_step}
use Rattle.report_kept.specs.declared.ReaderState.{ReaderState}
use Rattle.report_kept.specs.declared.Turn.{Turn}
use Rattle.report_kept.specs.Layout.{base}
use Rattle.report_kept.specs.code.View.{known_of, place_of, kept_of, so_far_in, within_identifier, is_broken, left_in, write, turn_step, Turned, Leaves, closing, arrived, at_address, further, flagged, one_more, closed_state, plain}
use Rattle.report_kept.proofs.ArriveLaws.{left_other, leaves_to, leaves_to_address, leaves_with_row, leaves_closed, closes_signature, closes_sender, listed_length}
use Rattle.report_literals.specs.code.Literals.{literal_of, nexts, dkim_number, spf_number, results_number, next_number_of, flagged_by, closed, behind_number, closed_if}

-- of the first numbers, one after the other
unfoldable Each : ℕ → (ℕ → Type 0) → Type 0
Each zero P = Unit
Each (suc m) P = P 0 × Each m (λ n. P (suc n))

below : (m : ℕ) (P : ℕ → Type 0) → Each m P → (n : ℕ) → n < m → P n
unfolding Each
below zero P e n h = absurd (omega (arith, h))
below (suc m) P e zero h = e.0
below (suc m) P e (suc n) h = below m (λ k. P (suc k)) e.1 n (omega (arith, h))

unfoldable number_of : Literal → ℕ
number_of l_report = 0
number_of l_org_end = 1
number_of l_email_end = 2
number_of l_extra_end = 3
number_of l_id_end = 4
number_of l_begin_end = 5
number_of l_end_end = 6
number_of l_domain_end = 7
number_of l_p_end = 8
number_of l_sp_end = 9
number_of l_np_end = 10
number_of l_adkim_end = 11
number_of l_aspf_end = 12
number_of l_testing_end = 13
number_of l_row = 14
number_of l_source_end = 15
number_of l_count_end = 16
number_of l_disposition_end = 17
number_of l_dkim_fail = 18
number_of l_dkim_end = 19
number_of l_spf_fail = 20
number_of l_spf_pass = 21
number_of l_spf_end = 22
number_of l_author_end = 23
number_of l_item_start = 24
number_of l_signature = 25
number_of l_signature_domain_end = 26
number_of l_selector_end = 27
number_of l_signature_end = 28
number_of l_sender = 29
number_of l_sender_domain_end = 30
number_of l_sender_end = 31
number_of l_full = 32
number_of l_record_end = 33
number_of l_more_start = 34
number_of l_feedback = 35

number_back : (n : ℕ) → n < 36 → n ≡ number_of (literal_of n)
unfolding number_of literal_of literals Each
number_back = below 36 (λ n. n ≡ number_of (literal_of n)) (refl, (refl, (refl, (refl, (refl, (refl, (refl, (refl, (refl, (refl, (refl, (refl, (refl, (refl, (refl, (refl, (refl, (refl, (refl, (refl, (refl, (refl, (refl, (refl, (refl, (refl, (refl, (refl, (refl, (refl, (refl, (refl, (refl, (refl, (refl, (refl, tt))))))))))))))))))))))))))))))))))))

node_literal : (l : Literal) → node_of (number_of l) ≡ literal_node l
unfolding number_of node_of nodes
node_literal l_report = refl
node_literal l_org_end = refl
node_literal l_email_end = refl
node_literal l_extra_end = refl
node_literal l_id_end = refl
node_literal l_begin_end = refl
node_literal l_end_end = refl
node_literal l_domain_end = refl
node_literal l_p_end = refl
node_literal l_sp_end = refl
node_literal l_np_end = refl
node_literal l_adkim_end = refl
node_literal l_aspf_end = refl
node_literal l_testing_end = refl
node_literal l_row = refl
node_literal l_source_end = refl
node_literal l_count_end = refl
node_literal l_disposition_end = refl
node_literal l_dkim_fail = refl
node_literal l_dkim_end = refl
node_literal l_spf_fail = refl
node_literal l_spf_pass = refl
node_literal l_spf_end = refl
node_literal l_author_end = refl
node_literal l_item_start = refl
node_literal l_signature = refl
node_literal l_signature_domain_end = refl
node_literal l_selector_end = refl
node_literal l_signature_end = refl
node_literal l_sender = refl
node_literal l_sender_domain_end = refl
node_literal l_sender_end = refl
node_literal l_full = refl
node_literal l_record_end = refl
node_literal l_more_start = refl
node_literal l_feedback = refl

text_literal : (l : Literal) → get_or texts (number_of l) [] ≡ octets (literal_text l)
unfolding number_of texts literals word_nodes literal_text octets flatten
text_literal l_report = refl
text_literal l_org_end = refl
text_literal l_email_end = refl
text_literal l_extra_end = refl
text_literal l_id_end = refl
text_literal l_begin_end = refl
text_literal l_end_end = refl
text_literal l_domain_end = refl
text_literal l_p_end = refl
text_literal l_sp_end = refl
text_literal l_np_end = refl
text_literal l_adkim_end = refl
text_literal l_aspf_end = refl
text_literal l_testing_end = refl
text_literal l_row = refl
text_literal l_source_end = refl
text_literal l_count_end = refl
text_literal l_disposition_end = refl
text_literal l_dkim_fail = refl
text_literal l_dkim_end = refl
text_literal l_spf_fail = refl
text_literal l_spf_pass = refl
text_literal l_spf_end = refl
text_literal l_author_end = refl
text_literal l_item_start = refl
text_literal l_signature = refl
text_literal l_signature_domain_end = refl
text_literal l_selector_end = refl
text_literal l_signature_end = refl
text_literal l_sender = refl
text_literal l_sender_domain_end = refl
text_literal l_sender_end = refl
text_literal l_full = refl
text_literal l_record_end = refl
text_literal l_more_start = refl
text_literal l_feedback = refl

short_literal : (l : Literal) → length (octets (literal_text l)) ≤ 116
unfolding literal_text octets
short_literal l_report = omega arith
short_literal l_org_end = omega arith
short_literal l_email_end = omega arith
short_literal l_extra_end = omega arith
short_literal l_id_end = omega arith
short_literal l_begin_end = omega arith
short_literal l_end_end = omega arith
short_literal l_domain_end = omega arith
short_literal l_p_end = omega arith
short_literal l_sp_end = omega arith
short_literal l_np_end = omega arith
short_literal l_adkim_end = omega arith
short_literal l_aspf_end = omega arith
short_literal l_testing_end = omega arith
short_literal l_row = omega arith
short_literal l_source_end = omega arith
short_literal l_count_end = omega arith
short_literal l_disposition_end = omega arith
short_literal l_dkim_fail = omega arith
short_literal l_dkim_end = omega arith
short_literal l_spf_fail = omega arith
short_literal l_spf_pass = omega arith
short_literal l_spf_end = omega arith
short_literal l_author_end = omega arith
short_literal l_item_start = omega arith
short_literal l_signature = omega arith
short_literal l_signature_domain_end = omega arith
short_literal l_selector_end = omega arith
short_literal l_signature_end = omega arith
short_literal l_sender = omega arith
short_literal l_sender_domain_end = omega arith
short_literal l_sender_end = omega arith
short_literal l_full = omega arith
short_literal l_record_end = omega arith
short_literal l_more_start = omega arith
short_literal l_feedback = omega arith

-- ------------------------------------------------------------------ the node behind

dkim_is : (d : ℕ) → dkim_node (disposition_numbered d) ≡ node_of (dkim_number d)
unfolding dkim_node disposition_numbered dkim_number node_of nodes
dkim_is zero = refl
dkim_is (suc zero) = refl
dkim_is (suc (suc zero)) = refl
dkim_is (suc (suc (suc zero))) = refl
dkim_is (suc (suc (suc (suc d)))) = rw (ne_eqb (suc (suc (suc (suc d)))) 1 (λ e. omega (arith, e))) refl

spf_is : (d k : ℕ) → spf_node (disposition_numbered d) (is_set k) ≡ node_of (spf_number d k)
unfolding spf_node disposition_numbered spf_number node_of nodes
spf_is zero k = by_dkim (is_set k)
  where
    by_dkim : (b : Bool) → spf_node passed b ≡ node_of (if b then 47 else 21)
    by_dkim true = refl
    by_dkim false = refl
spf_is (suc zero) k = refl
spf_is (suc (suc zero)) k = refl
spf_is (suc (suc (suc zero))) k = refl
spf_is (suc (suc (suc (suc d)))) k =
    rw (ne_eqb (suc (suc (suc (suc d)))) 1 (λ e. omega (arith, e)), ne_eqb (suc (suc (suc (suc d)))) 2 (λ e. omega (arith, e)), ne_eqb (suc (suc (suc (suc d)))) 3 (λ e. omega (arith, e))) (by_dkim (is_set k))
  where
    by_dkim : (b : Bool) → spf_node passed b ≡ node_of (if b then 47 else 21)
    by_dkim true = refl
    by_dkim false = refl

results_is : (b : Bool) → (if b then literal_node l_item_start else literal_node l_full) ≡ node_of (if b then 24 else 32)
unfolding node_of nodes
results_is true = refl
results_is false = refl

records_is : (b : Bool) → (if b then literal_node l_feedback else literal_node l_more_start) ≡ node_of (if b then 35 else 34)
unfolding node_of nodes
records_is true = refl
records_is false = refl

-- ------------------------------------------------------------------ literals that change nothing that is known

-- those that do
unfoldable pub is_plain : ℕ → Bool
is_plain n = not (eqb n 14 || eqb n 18 || eqb n 20 || eqb n 21 || eqb n 28 || eqb n 31 || eqb n 33)

module _ (s : ReaderState) (row : Octets) where
  abbrev next : Literal → ℕ
  next l = next_number_of (number_of l) s.disposition s.dkim s.identifiers s.left

  goes_plain : (l : Literal) → is_plain (number_of l) ≡ true → literal_goes l (known_of s row) ≡ by (node_of (next l)) (known_of s row)
  unfolding number_of is_plain literal_goes next_number_of nexts node_of nodes known_of results_node results_number
  goes_plain l_report e = refl
  goes_plain l_org_end e = refl
  goes_plain l_email_end e = refl
  goes_plain l_extra_end e = refl
  goes_plain l_id_end e = refl
  goes_plain l_begin_end e = refl
  goes_plain l_end_end e = refl
  goes_plain l_domain_end e = refl
  goes_plain l_p_end e = refl
  goes_plain l_sp_end e = refl
  goes_plain l_np_end e = refl
  goes_plain l_adkim_end e = refl
  goes_plain l_aspf_end e = refl
  goes_plain l_testing_end e = refl
  goes_plain l_row e = absurd (false≢true e)
  goes_plain l_source_end e = refl
  goes_plain l_count_end e = refl
  goes_plain l_disposition_end e = ap (λ m. by m (known_of s row)) (dkim_is s.disposition)
  goes_plain l_dkim_fail e = absurd (false≢true e)
  goes_plain l_dkim_end e = ap (λ m. by m (known_of s row)) (spf_is s.disposition s.dkim)
  goes_plain l_spf_fail e = absurd (false≢true e)
  goes_plain l_spf_pass e = absurd (false≢true e)
  goes_plain l_spf_end e = refl
  goes_plain l_author_end e = ap (λ m. by m (known_of s row)) (ap (λ n. if ltb n 16 then literal_node l_item_start else literal_node l_full) (listed_length s.identifiers row) ∙ results_is (ltb s.identifiers 16))
  goes_plain l_item_start e = refl
  goes_plain l_signature e = refl
  goes_plain l_signature_domain_end e = refl
  goes_plain l_selector_end e = refl
  goes_plain l_signature_end e = absurd (false≢true e)
  goes_plain l_sender e = refl
  goes_plain l_sender_domain_end e = refl
  goes_plain l_sender_end e = absurd (false≢true e)
  goes_plain l_full e = refl
  goes_plain l_record_end e = absurd (false≢true e)
  goes_plain l_more_start e = refl
  goes_plain l_feedback e = refl

unfoldable Fine : (next identifiers : ℕ) → Type 0
Fine n i = (is_broken n i ≡ false) × (eqb n 64 ≡ false)

fine_dkim : (i : ℕ) (b : Bool) → Fine (if b then 18 else 46) i
unfolding Fine is_broken within_identifier between
fine_dkim i true = (refl, refl)
fine_dkim i false = (refl, refl)

fine_spf : (i : ℕ) (a b c : Bool) → Fine (if a then 20 else if b then 47 else if c then 47 else 21) i
unfolding Fine is_broken within_identifier between
fine_spf i true b c = (refl, refl)
fine_spf i false true c = (refl, refl)
fine_spf i false false true = (refl, refl)
fine_spf i false false false = (refl, refl)

fine_results : (i : ℕ) → Fine (results_number i) i
unfolding Fine is_broken within_identifier between results_number
fine_results i = go (ltb i 16) refl
  where
    go : (b : Bool) → ltb i 16 ≡ b → (is_broken (if b then 24 else 32) i ≡ false) × (eqb (if b then 24 else 32) 64 ≡ false)
    go true e = (lt-leb 16 i (ltb-true i 16 e), refl)
    go false e = (refl, refl)

fine_records : (i : ℕ) (b : Bool) → Fine (if b then 35 else 34) i
unfolding Fine is_broken within_identifier between
fine_records i true = (refl, refl)
fine_records i false = (refl, refl)

fine_next : (l : Literal) (d k i left : ℕ) → is_plain (number_of l) ≡ true → is_broken (number_of l) i ≡ false → Fine (next_number_of (number_of l) d k i left) i
unfolding number_of is_plain next_number_of nexts Fine is_broken within_identifier between dkim_number spf_number
fine_next l_report d k i left e h = (refl, refl)
fine_next l_org_end d k i left e h = (refl, refl)
fine_next l_email_end d k i left e h = (refl, refl)
fine_next l_extra_end d k i left e h = (refl, refl)
fine_next l_id_end d k i left e h = (refl, refl)
fine_next l_begin_end d k i left e h = (refl, refl)
fine_next l_end_end d k i left e h = (refl, refl)
fine_next l_domain_end d k i left e h = (refl, refl)
fine_next l_p_end d k i left e h = (refl, refl)
fine_next l_sp_end d k i left e h = (refl, refl)
fine_next l_np_end d k i left e h = (refl, refl)
fine_next l_adkim_end d k i left e h = (refl, refl)
fine_next l_aspf_end d k i left e h = (refl, refl)
fine_next l_testing_end d k i left e h = (refl, refl)
fine_next l_row d k i left e h = absurd (false≢true e)
fine_next l_source_end d k i left e h = (refl, refl)
fine_next l_count_end d k i left e h = (refl, refl)
fine_next l_disposition_end d k i left e h = fine_dkim i (eqb d 1)
fine_next l_dkim_fail d k i left e h = absurd (false≢true e)
fine_next l_dkim_end d k i left e h = fine_spf i (eqb d 1) (eqb d 2 || eqb d 3) (is_set k)
fine_next l_spf_fail d k i left e h = absurd (false≢true e)
fine_next l_spf_pass d k i left e h = absurd (false≢true e)
fine_next l_spf_end d k i left e h = (refl, refl)
fine_next l_author_end d k i left e h = fine_results i
fine_next l_item_start d k i left e h = (h, refl)
fine_next l_signature d k i left e h = (h, refl)
fine_next l_signature_domain_end d k i left e h = (h, refl)
fine_next l_selector_end d k i left e h = (h, refl)
fine_next l_signature_end d k i left e h = absurd (false≢true e)
fine_next l_sender d k i left e h = (h, refl)
fine_next l_sender_domain_end d k i left e h = (h, refl)
fine_next l_sender_end d k i left e h = absurd (false≢true e)
fine_next l_full d k i left e h = (refl, refl)
fine_next l_record_end d k i left e h = absurd (false≢true e)
fine_next l_more_start d k i left e h = (refl, refl)
fine_next l_feedback d k i left e h = (refl, refl)

module _ (s : ReaderState) (h : s.node < 36) (calm : is_broken s.node s.identifiers ≡ false) where
  abbrev lit : Literal
  lit = literal_of s.node

  here : s.node ≡ number_of lit
  here = number_back s.node h

  pub leaves_plain : is_plain s.node ≡ true → Leaves s (literal_goes lit) (Ok (plain false (arrived (next_number_of s.node s.disposition s.dkim s.identifiers s.left) s)))
  unfolding Fine
  leaves_plain e =
      let fine = fine_next lit s.disposition s.dkim s.identifiers s.left (ap is_plain (sym here) ∙ e) (ap (λ n. is_broken n s.identifiers) (sym here) ∙ calm) in
      let same : next_number_of (number_of lit) s.disposition s.dkim s.identifiers s.left ≡ next_number_of s.node s.disposition s.dkim s.identifiers s.left
      = ap (λ n. next_number_of n s.disposition s.dkim s.identifiers s.left) (sym here) in
      leaves_to s s (literal_goes lit) (next_number_of s.node s.disposition s.dkim s.identifiers s.left)
      (λ row. goes_plain s row lit (ap is_plain (sym here) ∙ e) ∙ ap (λ n. by (node_of n) (known_of s row)) same)
      (ap (λ n. is_broken n s.identifiers) (sym same) ∙ fine.0) (eqb-false _ 64 (ap (λ n. eqb n 64) (sym same) ∙ fine.1))

  at_literal : (l : Literal) → s.node ≡ number_of l → literal_of (number_of l) ≡ l → lit ≡ l
  at_literal l e f = ap literal_of e ∙ f

  pub leaves_row : s.node ≡ 14 → Leaves s (literal_goes lit) (Ok (plain false (at_address s)))
  unfolding literal_goes literal_of literals number_of
  leaves_row e = leaves_to_address s (literal_goes lit) (λ row. ap (λ l. literal_goes l (known_of s row)) (at_literal l_row e refl))

  pub leaves_dkim_fail : s.node ≡ 18 → Leaves s (literal_goes lit) (Ok (plain false (arrived 19 (flagged 0 s.spf s))))
  unfolding literal_goes literal_of literals number_of known_of flagged with_dkim is_set node_of nodes is_broken within_identifier between
  leaves_dkim_fail e = leaves_to s (flagged 0 s.spf s) (literal_goes lit) 19 (λ row. ap (λ l. literal_goes l (known_of s row)) (at_literal l_dkim_fail e refl)) refl (λ q. omega (arith, q))

  pub leaves_spf_fail : s.node ≡ 20 → Leaves s (literal_goes lit) (Ok (plain false (arrived 22 (flagged s.dkim 0 s))))
  unfolding literal_goes literal_of literals number_of known_of flagged with_spf is_set node_of nodes is_broken within_identifier between
  leaves_spf_fail e = leaves_to s (flagged s.dkim 0 s) (literal_goes lit) 22 (λ row. ap (λ l. literal_goes l (known_of s row)) (at_literal l_spf_fail e refl)) refl (λ q. omega (arith, q))

  pub leaves_spf_pass : s.node ≡ 21 → Leaves s (literal_goes lit) (Ok (plain false (arrived 22 (flagged s.dkim 1 s))))
  unfolding literal_goes literal_of literals number_of known_of flagged with_spf is_set node_of nodes is_broken within_identifier between
  leaves_spf_pass e = leaves_to s (flagged s.dkim 1 s) (literal_goes lit) 22 (λ row. ap (λ l. literal_goes l (known_of s row)) (at_literal l_spf_pass e refl)) refl (λ q. omega (arith, q))

  few : s.node ≡ 28 ⊎ s.node ≡ 31 → s.identifiers < 16
  unfolding is_broken within_identifier between
  few (inl e) = leb-false 16 s.identifiers (ap (λ n. is_broken n s.identifiers) (sym e) ∙ calm)
  few (inr e) = leb-false 16 s.identifiers (ap (λ n. is_broken n s.identifiers) (sym e) ∙ calm)

  pub leaves_signature : s.node ≡ 28 → Leaves s (literal_goes lit) (Ok (record { gives = false; state = arrived (results_number (s.identifiers + 1)) (one_more s); written = closing s 1 }))
  unfolding literal_goes literal_of literals number_of results_node results_number Fine known_of one_more
  leaves_signature e =
      let fine = fine_results (s.identifiers + 1) in
      let n = results_number (s.identifiers + 1) in
      leaves_closed s 1 (literal_goes lit) n (λ row l.
      let known = closes_signature s row (few (inl e)) l in
      ap (λ m. literal_goes m (known_of s row)) (at_literal l_signature_end e refl)
      ∙ ap (λ o. by (results_node o.identifiers) o) (sym known)
      ∙ ap (λ m. by m (known_of (one_more s) (write (closing s 1) row))) (ap (λ k. if ltb k 16 then literal_node l_item_start else literal_node l_full) (listed_length (s.identifiers + 1) (write (closing s 1) row)) ∙ results_is (ltb (s.identifiers + 1) 16)))
      fine.0 (eqb-false n 64 fine.1)

  pub leaves_sender : s.node ≡ 31 → Leaves s (literal_goes lit) (Ok (record { gives = false; state = arrived 33 (one_more s); written = closing s 0 }))
  unfolding literal_goes literal_of literals number_of node_of nodes is_broken within_identifier between
  leaves_sender e =
      leaves_closed s 0 (literal_goes lit) 33 (λ row l. ap (λ m. literal_goes m (known_of s row)) (at_literal l_sender_end e refl) ∙ ap (λ o. by (literal_node l_record_end) o) (sym (closes_sender s row (few (inr e)) l)))
      refl (λ q. omega (arith, q))

  pub leaves_record : s.node ≡ 33 → Leaves s (literal_goes lit) (Ok (plain true (arrived (if eqb s.left 0 then 35 else 34) s)))
  unfolding literal_goes literal_of literals number_of records_node known_of Fine
  leaves_record e =
      let fine = fine_records s.identifiers (eqb s.left 0) in
      leaves_with_row s (literal_goes lit) (if eqb s.left 0 then 35 else 34)
      (λ row. ap (λ m. literal_goes m (known_of s row)) (at_literal l_record_end e refl) ∙ ap (λ m. record { row = Some (said_open (known_of s row)); known = known_of s row; node = m }) (records_is (eqb s.left 0)))
      fine.0 (eqb-false _ 64 fine.1)

  -- ------------------------------------------------------------------ an octet

  left_literal : (s' : ReaderState) (row : Octets) → s'.node ≡ s.node → s'.identifiers ≡ s.identifiers → left_in s' row ≡ left_at (literal_node lit) (place_of s') (kept_of s' row)
  left_literal s' row e f =
      left_other s' row ((λ j. is_broken (e j) (f j)) ∙ calm) (λ q. omega (arith, q, e, h))
      ∙ ap (λ m. left_at m (place_of s') (kept_of s' row)) (ap node_of (e ∙ here) ∙ node_literal lit)

  abbrev Says : ℕ → Answer → Type 0
  Says x r = PieceSays (get_or texts s.node []) s.at x r

  literal_on : (x : ℕ) (r : Answer) (row : Octets) → Says x r
      → step_of (left_in s row) x ≡ goes (λ _. left_in (further (s.at + 1) s) row) (arrive (literal_goes lit (known_of s row))) r
  unfolding kept_of so_far_in known_of further place_of
  literal_on x r row e =
      ap (λ t. step_of t x) (left_literal s row refl refl)
      ∙ literal_step (place_of s) (place_of (further (s.at + 1) s)) (kept_of s row) x lit r refl
      (subst (λ t. PieceSays t s.at x r) (ap (λ n. get_or texts n []) here ∙ text_literal lit) e)
      ∙ ap (λ t. goes (λ _. t) (arrive (literal_goes lit (known_of s row))) r) (sym (left_literal (further (s.at + 1) s) row refl refl))

  pub turns_on : (x : ℕ) → Says x (Ok (Leaf.More tt)) → Turned s false x (Ok (plain false (further (s.at + 1) s)))
  unfolding goes turn_step plain write
  turns_on x e row l f = literal_on x (Ok (Leaf.More tt)) row e

  pub turns_ended : (x : ℕ) (r : Result Turn Refusal) → Says x (Ok Leaf.Ended) → Leaves s (literal_goes lit) r → Turned s false x r
  unfolding goes
  turns_ended x r e g row l f = literal_on x (Ok Leaf.Ended) row e ∙ g row l

  pub turns_refused : (x : ℕ) (r : Refusal) → Says x (Err r) → Turned s false x (Err r)
  unfolding goes turn_step
  turns_refused x r e row l f = literal_on x (Err r) row e

  pub turns_past : (x : ℕ) → 116 ≤ s.at → Turned s false x (Err Refusal.Outside)
  unfolding said refusal_number
  turns_past x a =
      turns_refused x Refusal.Outside
      (behind_past Said s.at (get_or texts s.node []) x (let same = ap length (ap (λ n. get_or texts n []) here ∙ text_literal lit) in let short = short_literal lit in omega (arith, same, short, a)))

-- ------------------------------------------------------------------ as the code says them

module _ (n d k i left : ℕ) where
  pub next_33 : n ≡ 33 → next_number_of n d k i left ≡ (if eqb left 0 then 35 else 34)
  unfolding next_number_of
  next_33 e = rw e refl

module _ (n : ℕ) (s : ReaderState) where
  pub flags_18 : n ≡ 18 → flagged 0 s.spf s ≡ flagged_by n s
  unfolding flagged_by
  flags_18 e = rw e refl

  pub flags_20 : n ≡ 20 → flagged s.dkim 0 s ≡ flagged_by n s
  unfolding flagged_by
  flags_20 e = rw e refl

  pub flags_21 : n ≡ 21 → flagged s.dkim 1 s ≡ flagged_by n s
  unfolding flagged_by
  flags_21 e = rw e refl

  pub flags_none : (n ≡ 18 → ⊥) → (n ≡ 20 → ⊥) → (n ≡ 21 → ⊥) → s ≡ flagged_by n s
  unfolding flagged_by
  flags_none e f g = rw (ne_eqb n 18 e, ne_eqb n 20 f, ne_eqb n 21 g) refl

module _ (kind : ℕ) (s : ReaderState) where
  pub closes_none : 16 ≤ s.identifiers → Err Refusal.Outside ≡ closed_if kind s
  unfolding closed_if
  closes_none h = rw (le-leb 16 s.identifiers h) refl

  pub closes_some : (n : ℕ) (a : ReaderState) → n ≡ behind_number kind (s.identifiers + 1) → a ≡ arrived n s → s.identifiers < 16
      → Ok (record { gives = false; state = closed_state a (s.identifiers + 1); written = Written.Four (778 + 510 * s.identifiers) s.domain s.selector s.outcome kind }) ≡ closed_if kind s
  unfolding closed_if closed closing base arrived one_more closed_state
  closes_some n a e f h =
      let same : 778 + 510 * s.identifiers ≡ 272 + 510 * s.identifiers + 506 = omega arith in
      rw (lt-leb 16 s.identifiers h) (
      ap (λ z. Ok (record { gives = false; state = closed_state z (s.identifiers + 1); written = Written.Four (778 + 510 * s.identifiers) s.domain s.selector s.outcome kind })) f
      ∙ (λ j. Ok (record { gives = false; state = arrived (e j) (one_more s); written = Written.Four (same j) s.domain s.selector s.outcome kind })))

  closed_is : s.identifiers < 16 → closed_if kind s ≡ Ok (closed kind (behind_number kind (s.identifiers + 1)) s)
  unfolding closed_if
  closed_is h = rw (lt-leb 16 s.identifiers h) refl

module _ (s : ReaderState) (h : s.node < 36) (calm : is_broken s.node s.identifiers ≡ false) where
  pub closed_signature : s.node ≡ 28 → Leaves s (literal_goes (literal_of s.node)) (closed_if 1 s)
  unfolding closed behind_number
  closed_signature e = subst (Leaves s (literal_goes (literal_of s.node))) (sym (closed_is 1 s (few s h calm (inl e)))) (leaves_signature s h calm e)

  pub closed_sender : s.node ≡ 31 → Leaves s (literal_goes (literal_of s.node)) (closed_if 0 s)
  unfolding closed behind_number
  closed_sender e = subst (Leaves s (literal_goes (literal_of s.node))) (sym (closed_is 0 s (few s h calm (inr e)))) (leaves_sender s h calm e)

  -- all others
  pub leaves_others : (s.node ≡ 14 → ⊥) → (s.node ≡ 28 → ⊥) → (s.node ≡ 31 → ⊥) → (s.node ≡ 33 → ⊥)
      → Leaves s (literal_goes (literal_of s.node)) (Ok (plain false (arrived (next_number_of s.node s.disposition s.dkim s.identifiers s.left) (flagged_by s.node s))))
  unfolding is_plain next_number_of nexts
  leaves_others a b d e = go (eqb s.node 18) refl (eqb s.node 20) refl (eqb s.node 21) refl
    where
      Out : ℕ → ReaderState → Type 0
      Out n z = Leaves s (literal_goes (literal_of s.node)) (Ok (plain false (arrived n z)))

      next_is : ℕ
      next_is = next_number_of s.node s.disposition s.dkim s.identifiers s.left

      next_at : (m : ℕ) → s.node ≡ m → next_number_of m s.disposition s.dkim s.identifiers s.left ≡ next_is
      next_at m e = ap (λ n. next_number_of n s.disposition s.dkim s.identifiers s.left) (sym e)

      go : (p : Bool) → eqb s.node 18 ≡ p → (q : Bool) → eqb s.node 20 ≡ q → (r : Bool) → eqb s.node 21 ≡ r → Out next_is (flagged_by s.node s)
      go true i q j r k = subst (λ n. Out n (flagged_by s.node s)) (next_at 18 (eqb-true s.node 18 i)) (subst (Out 19) (flags_18 s.node s (eqb-true s.node 18 i)) (leaves_dkim_fail s h calm (eqb-true s.node 18 i)))
      go false i true j r k = subst (λ n. Out n (flagged_by s.node s)) (next_at 20 (eqb-true s.node 20 j)) (subst (Out 22) (flags_20 s.node s (eqb-true s.node 20 j)) (leaves_spf_fail s h calm (eqb-true s.node 20 j)))
      go false i false j true k = subst (λ n. Out n (flagged_by s.node s)) (next_at 21 (eqb-true s.node 21 k)) (subst (Out 22) (flags_21 s.node s (eqb-true s.node 21 k)) (leaves_spf_pass s h calm (eqb-true s.node 21 k)))
      go false i false j false k = subst (Out next_is) (flags_none s.node s (eqb-false s.node 18 i) (eqb-false s.node 20 j) (eqb-false s.node 21 k)) (leaves_plain s h calm (plain_by i j k))
        where
          plain_by : eqb s.node 18 ≡ false → eqb s.node 20 ≡ false → eqb s.node 21 ≡ false → is_plain s.node ≡ true
          plain_by i j k = rw (ne_eqb s.node 14 a, i, j, k, ne_eqb s.node 28 b, ne_eqb s.node 31 d, ne_eqb s.node 33 e, is_plain)
