-- A line of Ask 9, by the values that its record tells; and back.
use Rattle.std.specs.Prelude.{Option, None, Some}
use mathlib.Core.Path.{◌≡◌, refl, sym, ap, ◌∙◌, subst}
use mathlib.Core.List.{List, [], ◌∷◌, ◌++◌, map, flatten, append-nil}
use mathlib.Core.Logic.{◌⊎◌, inl, inr}
use mathlib.Core.Bool.{Bool, true, false, ◌&&◌, ◌||◌, not, true≢false}
use Prim.Native.Nat.{ℕ, suc, ◌+◌, ◌≤◌, ◌<◌}
use native.Mathlib.Omega.{arith}
use lib.Dec.{eqb, leb}
use lib.ListN.{length}
use borrow.Author.Tests.{eqb-true, eq-eqb, leb-true, le-leb}
use Rattle.octets.specs.Octets.{Octets, is_nothing, all, between, lower, is_set, flag}
use Rattle.octets.specs.Decimal.{decimal}
use Rattle.domain.specs.Domain.{is_domain}
use Rattle.policy.specs.declared.Policy.{Policy}
use Rattle.rows.specs.declared.Row.{Row}
use Rattle.rows.specs.Lists.{Reported, good_set}
use Rattle.report.specs.Xml
use Rattle.report.specs.Xml.{element}
use Rattle.report.specs.Report.{row_policy, Line, reported_disposition, result_of_alignment, policy_evaluated, row_element, dkim_element, spf_element, auth_results, record_element, good_identifier, good_line}
use Rattle.report_form.specs.ReportForm.{Widths, said_dkim, said_spf, said_identifiers, said, good_row, good_entry}
use Rattle.report_form.specs.code.ReportReading.{Disposition, passed, applied, policy_read as policy_of}
use Rattle.report_form.proofs.TextBack.{both_true}
use Rattle.report_form.proofs.NameBack.{GoodName, name_lower}
use Rattle.report_form.proofs.Addresses
use Rattle.report_form.proofs.WordsTold.{written_as, dkim_allowed, spf_allowed}
use Rattle.report_form.proofs.ResultsTold.{Sig, Snd, dkim_of, spf_of, dkim_piece, spf_piece, GoodSig, GoodSnd, listed, from_text, results_list, AllSigs, GoodFrom, one_if, GoodResults}
use Rattle.report_form.proofs.RowTold.{Told, GoodTold, told_said, record_piece}
use Rattle.octets.proofs.TextLaws.{flag_said}
use Rattle.rows.proofs.SetLaws.{Fine, set_fine, fine_set}

module _ (ws : Widths) where
  -- ------------------------------------------------------------------ identifiers

  unfoldable pub sig_of : Reported → Sig
  sig_of i = record { domain = lower i.domain; selector = lower i.selector; outcome = i.outcome }

  unfoldable pub snd_of : Reported → Snd
  snd_of i = record { domain = lower i.domain; outcome = i.outcome }

  unfoldable pub sigs_of : List Reported → List Sig
  sigs_of [] = []
  sigs_of (i ∷ is) = elim (eqb i.kind 1) [ true ↦ sig_of i ∷ sigs_of is | false ↦ sigs_of is ]

  unfoldable pub from_of : List Reported → Option Snd
  from_of [] = None
  from_of (i ∷ is) = elim (eqb i.kind 0) [ true ↦ Some (snd_of i) | false ↦ from_of is ]

  sigs_nil : sigs_of [] ≡ []
  unfolding sigs_of
  sigs_nil = refl

  from_nil : from_of [] ≡ None
  unfolding from_of
  from_nil = refl

  -- of one kind or the other
  sigs_dkim : (i : Reported) (is : List Reported) → eqb i.kind 1 ≡ true → sigs_of (i ∷ is) ≡ sig_of i ∷ sigs_of is
  unfolding sigs_of
  sigs_dkim i is e = rw (e, sigs_of)

  sigs_other : (i : Reported) (is : List Reported) → eqb i.kind 1 ≡ false → sigs_of (i ∷ is) ≡ sigs_of is
  unfolding sigs_of
  sigs_other i is e = rw (e, sigs_of)

  from_spf : (i : Reported) (is : List Reported) → eqb i.kind 0 ≡ true → from_of (i ∷ is) ≡ Some (snd_of i)
  unfolding from_of
  from_spf i is e = rw (e, from_of)

  from_other : (i : Reported) (is : List Reported) → eqb i.kind 0 ≡ false → from_of (i ∷ is) ≡ from_of is
  unfolding from_of
  from_other i is e = rw (e, from_of)

  dkim_written : (i : Reported) → eqb i.kind 1 ≡ true → dkim_element i ≡ dkim_piece (dkim_of (sig_of i))
  unfolding dkim_element dkim_piece dkim_of sig_of
  dkim_written i e = rw e

  dkim_unwritten : (i : Reported) → eqb i.kind 1 ≡ false → dkim_element i ≡ []
  unfolding dkim_element
  dkim_unwritten i e = rw e

  spf_written : (i : Reported) → eqb i.kind 0 ≡ true → spf_element i ≡ spf_piece (spf_of (snd_of i))
  unfolding spf_element spf_piece spf_of snd_of
  spf_written i e = rw e

  spf_unwritten : (i : Reported) → eqb i.kind 0 ≡ false → spf_element i ≡ []
  unfolding spf_element
  spf_unwritten i e = rw e

  dkim_listed : (i : Reported) → eqb i.kind 1 ≡ true → said_dkim i ≡ dkim_of (sig_of i) ∷ []
  unfolding said_dkim dkim_of sig_of
  dkim_listed i e = rw e

  dkim_unlisted : (i : Reported) → eqb i.kind 1 ≡ false → said_dkim i ≡ []
  unfolding said_dkim
  dkim_unlisted i e = rw e

  spf_listed : (i : Reported) → eqb i.kind 0 ≡ true → said_spf i ≡ spf_of (snd_of i) ∷ []
  unfolding said_spf spf_of snd_of
  spf_listed i e = rw e

  spf_unlisted : (i : Reported) → eqb i.kind 0 ≡ false → said_spf i ≡ []
  unfolding said_spf
  spf_unlisted i e = rw e

  abbrev sigs_text : List Sig → Octets
  sigs_text is = flatten (map (λ i. dkim_piece (dkim_of i)) is)

  flat_dkim : (is : List Reported) → flatten (map dkim_element is) ≡ sigs_text (sigs_of is)
  unfolding flatten
  flat_dkim [] = ap sigs_text (sym sigs_nil)
  flat_dkim (i ∷ is) = go (eqb i.kind 1) refl (flat_dkim is)
    where
      go : (c : Bool) → eqb i.kind 1 ≡ c → flatten (map dkim_element is) ≡ sigs_text (sigs_of is) → dkim_element i ++ flatten (map dkim_element is) ≡ sigs_text (sigs_of (i ∷ is))
      go true e h = (λ j. dkim_written i e j ++ h j) ∙ ap sigs_text (sym (sigs_dkim i is e))
      go false e h = (λ j. dkim_unwritten i e j ++ h j) ∙ ap sigs_text (sym (sigs_other i is e))

  list_dkim : (is : List Reported) → flatten (map said_dkim is) ≡ map dkim_of (sigs_of is)
  unfolding flatten
  list_dkim [] = ap (map dkim_of) (sym sigs_nil)
  list_dkim (i ∷ is) = go (eqb i.kind 1) refl (list_dkim is)
    where
      go : (c : Bool) → eqb i.kind 1 ≡ c → flatten (map said_dkim is) ≡ map dkim_of (sigs_of is) → said_dkim i ++ flatten (map said_dkim is) ≡ map dkim_of (sigs_of (i ∷ is))
      go true e h = (λ j. dkim_listed i e j ++ h j) ∙ ap (map dkim_of) (sym (sigs_dkim i is e))
      go false e h = (λ j. dkim_unlisted i e j ++ h j) ∙ ap (map dkim_of) (sym (sigs_other i is e))

  -- after an SPF identifier there is no other
  none_after : (index : ℕ) (is : List Reported) → Fine index true is → (flatten (map spf_element is) ≡ []) × (flatten (map said_spf is) ≡ [])
  unfolding Fine flatten
  none_after index [] f = (refl, refl)
  none_after index (i ∷ is) f = go f.2 (none_after (suc index) is)
    where
      go : ((i.kind ≡ 1) × Fine (suc index) true is) ⊎ ((i.kind ≡ 0) × (true ≡ false) × Fine (suc index) true is) → (Fine (suc index) true is → (flatten (map spf_element is) ≡ []) × (flatten (map said_spf is) ≡ []))
          → (spf_element i ++ flatten (map spf_element is) ≡ []) × (said_spf i ++ flatten (map said_spf is) ≡ [])
      go (inl g) h =
          let (a, b) = h g.1 in
          let e : eqb i.kind 0 ≡ false = ap (λ k. eqb k 0) g.0 in
          ((λ j. spf_unwritten i e j ++ a j), (λ j. spf_unlisted i e j ++ b j))
      go (inr g) h = absurd (true≢false g.1)

  flat_spf : (index : ℕ) (is : List Reported) → Fine index false is → (flatten (map spf_element is) ≡ from_text (from_of is)) × (flatten (map said_spf is) ≡ listed (from_of is))
  unfolding Fine flatten from_text listed
  flat_spf index [] f = (ap from_text (sym from_nil), ap listed (sym from_nil))
  flat_spf index (i ∷ is) f = go f.2 (flat_spf (suc index) is)
    where
      go : ((i.kind ≡ 1) × Fine (suc index) false is) ⊎ ((i.kind ≡ 0) × (false ≡ false) × Fine (suc index) true is) → (Fine (suc index) false is → (flatten (map spf_element is) ≡ from_text (from_of is)) × (flatten (map said_spf is) ≡ listed (from_of is)))
          → (spf_element i ++ flatten (map spf_element is) ≡ from_text (from_of (i ∷ is))) × (said_spf i ++ flatten (map said_spf is) ≡ listed (from_of (i ∷ is)))
      go (inl g) h =
          let (a, b) = h g.1 in
          let e : eqb i.kind 0 ≡ false = ap (λ k. eqb k 0) g.0 in
          ((λ j. spf_unwritten i e j ++ a j) ∙ ap from_text (sym (from_other i is e)), (λ j. spf_unlisted i e j ++ b j) ∙ ap listed (sym (from_other i is e)))
      go (inr g) h =
          let (a, b) = none_after (suc index) is g.2 in
          let e : eqb i.kind 0 ≡ true = ap (λ k. eqb k 0) g.0 in
          ((λ j. spf_written i e j ++ a j) ∙ append-nil (spf_piece (spf_of (snd_of i))) ∙ ap from_text (sym (from_spf i is e)), (λ j. spf_listed i e j ++ b j) ∙ ap listed (sym (from_spf i is e)))

  -- they are good, and 16 at most
  good_sig : (i : Reported) → i.outcome < 3 → good_identifier i ≡ true → i.kind ≡ 1 → GoodSig (sig_of i)
  unfolding good_identifier GoodSig sig_of
  good_sig i o e k =
      let (a, b) = both_true (is_domain i.domain) (not (eqb i.kind 1) || is_domain i.selector) e in
      let c : is_domain i.selector ≡ true = subst (λ z. (not (eqb z 1) || is_domain i.selector) ≡ true) k b in
      (name_lower i.domain a, name_lower i.selector c, o)

  good_snd : (i : Reported) → i.outcome < 3 → good_identifier i ≡ true → GoodSnd (snd_of i)
  unfolding good_identifier GoodSnd snd_of
  good_snd i o e = (name_lower i.domain (both_true (is_domain i.domain) (not (eqb i.kind 1) || is_domain i.selector) e).0, o)

  all_sigs : (index : ℕ) (seen : Bool) (is : List Reported) → index ≤ 16 → Fine index seen is → all good_identifier is ≡ true → AllSigs (sigs_of is) × GoodFrom (from_of is) × (index + (length (sigs_of is) + one_if (from_of is)) ≤ 16)
  unfolding Fine all AllSigs GoodFrom one_if
  all_sigs index seen [] l f e = (subst AllSigs (sym sigs_nil) tt, subst GoodFrom (sym from_nil) tt, omega (arith, l, ap length sigs_nil, ap one_if from_nil))
  all_sigs index seen (i ∷ is) l f e = go f.2 (λ s m g. all_sigs (suc index) s is m g (both_true (good_identifier i) (all good_identifier is) e).1)
    where
      good : good_identifier i ≡ true
      good = (both_true (good_identifier i) (all good_identifier is) e).0

      go : ((i.kind ≡ 1) × Fine (suc index) seen is) ⊎ ((i.kind ≡ 0) × (seen ≡ false) × Fine (suc index) true is)
          → ((s : Bool) → suc index ≤ 16 → Fine (suc index) s is → AllSigs (sigs_of is) × GoodFrom (from_of is) × (suc index + (length (sigs_of is) + one_if (from_of is)) ≤ 16))
          → AllSigs (sigs_of (i ∷ is)) × GoodFrom (from_of (i ∷ is)) × (index + (length (sigs_of (i ∷ is)) + one_if (from_of (i ∷ is))) ≤ 16)
      go (inl g) h =
          let (a, b, c) = h seen (omega (arith, f.0)) g.1 in
          let e1 : eqb i.kind 1 ≡ true = ap (λ k. eqb k 1) g.0 in
          let e0 : eqb i.kind 0 ≡ false = ap (λ k. eqb k 0) g.0 in (
            subst AllSigs (sym (sigs_dkim i is e1)) (good_sig i f.1 good g.0, a),
            subst GoodFrom (sym (from_other i is e0)) b,
            omega (arith, c, ap length (sigs_dkim i is e1), ap one_if (from_other i is e0)),
          )
      go (inr g) h =
          let (a, b, c) = h true (omega (arith, f.0)) g.2 in
          let e1 : eqb i.kind 1 ≡ false = ap (λ k. eqb k 1) g.0 in
          let e0 : eqb i.kind 0 ≡ true = ap (λ k. eqb k 0) g.0 in (
            subst AllSigs (sym (sigs_other i is e1)) a,
            subst GoodFrom (sym (from_spf i is e0)) (good_snd i f.1 good),
            omega (arith, c, ap length (sigs_other i is e1), ap one_if (from_spf i is e0)),
          )

  -- ------------------------------------------------------------------ disposition

  unfoldable pub disp_of : Policy → Bool → Disposition
  disp_of Policy.None true = passed
  disp_of Policy.None false = applied Policy.None
  disp_of Policy.Quarantine a = applied Policy.Quarantine
  disp_of Policy.Reject a = applied Policy.Reject

  disp_word : (p : Policy) (a : Bool) → reported_disposition p a ≡ written_as (disp_of p a)
  unfolding reported_disposition written_as disp_of
  disp_word Policy.None true = refl
  disp_word Policy.None false = refl
  disp_word Policy.Quarantine a = refl
  disp_word Policy.Reject a = refl

  disp_policy : (p : Policy) (a : Bool) → policy_of (disp_of p a) ≡ p
  unfolding policy_of disp_of
  disp_policy Policy.None true = refl
  disp_policy Policy.None false = refl
  disp_policy Policy.Quarantine a = refl
  disp_policy Policy.Reject a = refl

  disp_allowed : (p : Policy) (k s : Bool) → dkim_allowed (disp_of p (k || s)) k × spf_allowed (disp_of p (k || s)) k s
  unfolding dkim_allowed spf_allowed disp_of
  disp_allowed Policy.None true s = (tt, tt)
  disp_allowed Policy.None false true = (tt, refl)
  disp_allowed Policy.None false false = (refl, refl)
  disp_allowed Policy.Quarantine k s = (tt, tt)
  disp_allowed Policy.Reject k s = (tt, tt)

  disp_back : (d : Disposition) (k s : Bool) → dkim_allowed d k → spf_allowed d k s → disp_of (policy_of d) (k || s) ≡ d
  unfolding dkim_allowed spf_allowed disp_of policy_of
  disp_back passed true s a b = refl
  disp_back passed false s a b = ap (disp_of Policy.None) b
  disp_back (applied Policy.None) k s a b = ap (disp_of Policy.None) (λ j. a j || b j)
  disp_back (applied Policy.Quarantine) k s a b = refl
  disp_back (applied Policy.Reject) k s a b = refl

  -- ------------------------------------------------------------------ a line

  unfoldable pub told_of : Line → (Told ws)
  told_of l = record {
    source = l.row.seen.source;
    count = l.row.count;
    disposition = disp_of (row_policy l.row.seen.disposition) (is_set l.row.seen.dkim || is_set l.row.seen.spf);
    dkim = is_set l.row.seen.dkim;
    spf = is_set l.row.seen.spf;
    author = lower l.names.author;
    results = record { signatures = sigs_of l.names.identifiers; from = from_of l.names.identifiers };
  }

  pub entry_parts : (l : Line) → (good_entry ws) l ≡ true → ((good_row ws) l.row ≡ true) × (not (is_nothing (good_set l.names.identifiers)) ≡ true) × (good_line l ≡ true)
  unfolding good_entry
  entry_parts l e =
      let (a, c) = both_true ((good_row ws) l.row && not (is_nothing (good_set l.names.identifiers))) (good_line l) e in
      let (p, q) = both_true ((good_row ws) l.row) (not (is_nothing (good_set l.names.identifiers))) a in
      (p, q, c)

  line_fine : (l : Line) → (good_entry ws) l ≡ true → Fine 0 false l.names.identifiers
  line_fine l e = set_fine l.names.identifiers (entry_parts l e).1

  pub line_written : (l : Line) → (good_entry ws) l ≡ true → record_element l ≡ (record_piece ws) (told_of l)
  unfolding record_element row_element policy_evaluated auth_results record_piece told_of
  line_written l e =
      let s = l.row.seen in
      let w = disp_word (row_policy s.disposition) (is_set s.dkim || is_set s.spf) in
      let fd = flat_dkim l.names.identifiers in
      let fs = (flat_spf 0 l.names.identifiers (line_fine l e)).0 in
      λ j. element "record" (
      element "row" (
      element "source_ip" (Xml.address s.source)
      ++ element "count" (decimal l.row.count)
      ++ element "policy_evaluated" (element "disposition" (w j) ++ element "dkim" (result_of_alignment (is_set s.dkim)) ++ element "spf" (result_of_alignment (is_set s.spf))))
      ++ element "identifiers" (element "header_from" (lower l.names.author))
      ++ element "auth_results" (fd j ++ fs j))

  pub line_said : (l : Line) → (good_entry ws) l ≡ true → said l ≡ (told_said ws) (told_of l)
  unfolding said said_identifiers told_said told_of results_list
  line_said l e =
      let s = l.row.seen in
      let p = disp_policy (row_policy s.disposition) (is_set s.dkim || is_set s.spf) in
      let ld = list_dkim l.names.identifiers in
      let ls = (flat_spf 0 l.names.identifiers (line_fine l e)).1 in
      λ j. record { source = s.source; count = l.row.count; disposition = sym p j; dkim = is_set s.dkim; spf = is_set s.spf; author = lower l.names.author; identifiers = ld j ++ ls j }

  pub row_parts : (r : Row) → (good_row ws) r ≡ true → Addresses.Good r.seen.source × (1 ≤ r.count) × (r.count ≤ ws.counts)
  unfolding good_row Addresses.Good between
  row_parts r e =
      let (a, c) = both_true (eqb (length r.seen.source) 16 && all (between 0 255) r.seen.source) (leb 1 r.count && leb r.count ws.counts) e in
      let (p, q) = both_true (eqb (length r.seen.source) 16) (all (between 0 255) r.seen.source) a in
      let (m, n) = both_true (leb 1 r.count) (leb r.count ws.counts) c in
      ((eqb-true (length r.seen.source) 16 p, q), leb-true 1 r.count m, leb-true r.count ws.counts n)

  pub line_good : (l : Line) → (good_entry ws) l ≡ true → (GoodTold ws) (told_of l)
  unfolding told_of good_line GoodResults
  line_good l e =
      let (a, b, c) = entry_parts l e in
      let (d, f) = both_true (is_domain l.names.author) (all good_identifier l.names.identifiers) c in
      let (m, n, o) = row_parts l.row a in
      let (p, q) = disp_allowed (row_policy l.row.seen.disposition) (is_set l.row.seen.dkim) (is_set l.row.seen.spf) in
      let (r, s, t) = all_sigs 0 false l.names.identifiers (omega arith) (line_fine l e) f in
      record { good_source = m; counted = n; width = o; good_dkim = p; good_spf = q; good_author = name_lower l.names.author d; good_results = (r, s, omega (arith, t)) }

  -- ------------------------------------------------------------------ and back

  unfoldable pub number_in : Policy → ℕ
  number_in Policy.None = 0
  number_in Policy.Quarantine = 1
  number_in Policy.Reject = 2

  pub policy_back : (p : Policy) → row_policy (number_in p) ≡ p
  unfolding row_policy number_in
  policy_back Policy.None = refl
  policy_back Policy.Quarantine = refl
  policy_back Policy.Reject = refl

  unfoldable pub line_of : (Told ws) → Line
  line_of x = record {
    row = record { seen = record { source = x.source; disposition = number_in (policy_of x.disposition); dkim = flag x.dkim; spf = flag x.spf; spare = 0; author = 0; set = 0 }; count = x.count };
    names = record { author = x.author; identifiers = results_list x.results };
  }

  sig_same : (i : Sig) → GoodSig i → sig_of (dkim_of i) ≡ i
  unfolding GoodSig GoodName sig_of dkim_of
  sig_same i g = λ j. record { domain = g.0.1 j; selector = g.1.1 j; outcome = i.outcome }

  snd_same : (i : Snd) → GoodSnd i → snd_of (spf_of i) ≡ i
  unfolding GoodSnd GoodName snd_of spf_of
  snd_same i g = λ j. record { domain = g.0.1 j; outcome = i.outcome }

  dkim_kind : (i : Sig) → ((dkim_of i).kind ≡ 1) × ((dkim_of i).outcome ≡ i.outcome)
  unfolding dkim_of
  dkim_kind i = (refl, refl)

  spf_kind : (i : Snd) → ((spf_of i).kind ≡ 0) × ((spf_of i).outcome ≡ i.outcome)
  unfolding spf_of
  spf_kind i = (refl, refl)

  of_listed : (o : Option Snd) → GoodFrom o → (sigs_of (listed o) ≡ []) × (from_of (listed o) ≡ o)
  unfolding listed GoodFrom
  of_listed None g = (sigs_nil, from_nil)
  of_listed (Some i) g = (sigs_other (spf_of i) [] (ap (λ k. eqb k 1) (spf_kind i).0) ∙ sigs_nil, from_spf (spf_of i) [] (ap (λ k. eqb k 0) (spf_kind i).0) ∙ ap Some (snd_same i g))

  of_list : (is : List Sig) (o : Option Snd) → AllSigs is → GoodFrom o → (sigs_of (map dkim_of is ++ listed o) ≡ is) × (from_of (map dkim_of is ++ listed o) ≡ o)
  unfolding AllSigs
  of_list [] o a g = of_listed o g
  of_list (i ∷ is) o a g =
      let (p, q) = of_list is o a.1 g in
      let rest = map dkim_of is ++ listed o in
      (sigs_dkim (dkim_of i) rest (ap (λ k. eqb k 1) (dkim_kind i).0) ∙ (λ j. sig_same i a.0 j ∷ p j), from_other (dkim_of i) rest (ap (λ k. eqb k 0) (dkim_kind i).0) ∙ q)

  pub told_again : (x : (Told ws)) → (GoodTold ws) x → told_of (line_of x) ≡ x
  unfolding told_of line_of results_list GoodResults GoodName
  told_again x g =
      let (p, q) = of_list x.results.signatures x.results.from g.good_results.0 g.good_results.1 in
      let k = flag_said x.dkim in
      let s = flag_said x.spf in
      let d = (λ j. disp_of (policy_back (policy_of x.disposition) j) (k j || s j)) ∙ disp_back x.disposition x.dkim x.spf g.good_dkim g.good_spf in
      λ j. record { source = x.source; count = x.count; disposition = d j; dkim = k j; spf = s j; author = g.good_author.1 j; results = record { signatures = p j; from = q j } }

  fine_from : (o : Option Snd) (index : ℕ) → GoodFrom o → index + one_if o ≤ 16 → Fine index false (listed o)
  unfolding listed Fine GoodFrom GoodSnd one_if
  fine_from None index g l = tt
  fine_from (Some i) index g l = (omega (arith, l), omega (arith, (spf_kind i).1, g.1), inr ((spf_kind i).0, refl, tt))

  fine_list : (is : List Sig) (o : Option Snd) (index : ℕ) → AllSigs is → GoodFrom o → index + (length is + one_if o) ≤ 16 → Fine index false (map dkim_of is ++ listed o)
  unfolding AllSigs Fine GoodSig
  fine_list [] o index a g l = fine_from o index g (omega (arith, l))
  fine_list (i ∷ is) o index a g l = (omega (arith, l), omega (arith, (dkim_kind i).1, a.0.2), inl ((dkim_kind i).0, fine_list is o (suc index) a.1 g (omega (arith, l))))

  good_of_sig : (i : Sig) → GoodSig i → good_identifier (dkim_of i) ≡ true
  unfolding GoodSig GoodName good_identifier dkim_of
  good_of_sig i g = rw (g.0.0, g.1.0)

  good_of_snd : (i : Snd) → GoodSnd i → good_identifier (spf_of i) ≡ true
  unfolding GoodSnd GoodName good_identifier spf_of
  good_of_snd i g = rw g.0.0

  good_from : (o : Option Snd) → GoodFrom o → all good_identifier (listed o) ≡ true
  unfolding listed GoodFrom all
  good_from None g = refl
  good_from (Some i) g = rw (good_of_snd i g)

  good_list : (is : List Sig) (o : Option Snd) → AllSigs is → GoodFrom o → all good_identifier (map dkim_of is ++ listed o) ≡ true
  unfolding AllSigs all
  good_list [] o a g = good_from o g
  good_list (i ∷ is) o a g = rw (good_of_sig i a.0) (good_list is o a.1 g)

  pub row_good : (r : Row) → Addresses.Good r.seen.source → 1 ≤ r.count → r.count ≤ ws.counts → (good_row ws) r ≡ true
  unfolding good_row Addresses.Good between
  row_good r g m n = rw (eq-eqb (length r.seen.source) 16 g.0, g.1, le-leb 1 r.count m, le-leb r.count ws.counts n)

  pub entry_good : (x : (Told ws)) → (GoodTold ws) x → (good_entry ws) (line_of x) ≡ true
  unfolding good_entry good_line line_of results_list GoodResults GoodName
  entry_good x g =
      let is = map dkim_of x.results.signatures ++ listed x.results.from in
      let row : Row = record { seen = record { source = x.source; disposition = number_in (policy_of x.disposition); dkim = flag x.dkim; spf = flag x.spf; spare = 0; author = 0; set = 0 }; count = x.count } in
      rw (
        row_good row g.good_source g.counted g.width,
        fine_set is (fine_list x.results.signatures x.results.from 0 g.good_results.0 g.good_results.1 (omega (arith, g.good_results.2))),
        g.good_author.0,
        good_list x.results.signatures x.results.from g.good_results.0 g.good_results.1,
      )

  pub line_again : (x : (Told ws)) → (GoodTold ws) x → (record_element (line_of x) ≡ (record_piece ws) x) × (said (line_of x) ≡ (told_said ws) x)
  line_again x g =
      let e = entry_good x g in
      (line_written (line_of x) e ∙ ap (record_piece ws) (told_again x g), line_said (line_of x) e ∙ ap (told_said ws) (told_again x g))
