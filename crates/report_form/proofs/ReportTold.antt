-- The report: what is read whole is what Ask 9 writes.
use mathlib.Core.Path.{◌≡◌, refl, ap, ◌∙◌, subst}
use mathlib.Core.List.{List, [], ◌∷◌, ◌++◌, map, flatten}
use mathlib.Core.Bool.{Bool, true}
use Prim.Native.Nat.{ℕ, ◌≤◌}
use native.Mathlib.Omega.{arith}
use lib.ListN.{length}
use Rattle.octets.specs.Octets.{Octets, octets}
use Rattle.octets.specs.Decimal.{decimal}
use Rattle.domain.specs.Domain.{Domain}
use Rattle.policy.specs.declared.Policy.{Policy}
use Rattle.policy.specs.declared.Mode.{Mode}
use Rattle.reporting.specs.FileName.{good_id}
use Rattle.report.specs.Report.{published_mode, published_testing}
use Rattle.report.specs.Xml.{element, with_entities}
use Rattle.parsing.specs.code.Whole.{Whole}
use Rattle.report_form.specs.ReportForm.{Widths, Said}
use Rattle.report_form.specs.code.ReportReading.{reading_number as number, records_from, report_by}
use Rattle.report_form.proofs.Telling.{Tells, tells_literal, tells_bind, tells_then, tells_give, tells_word}
use Rattle.report_form.proofs.TextBack.{GoodText, tells_text, tells_id}
use Rattle.report_form.proofs.NumberBack.{tells_number}
use Rattle.report_form.proofs.NameBack.{GoodName, tells_name}
use Rattle.report_form.proofs.WordsTold.{policy_text, tells_policy, tells_mode, tells_testing}
use Rattle.report_form.proofs.HeadTold.{GoodExtra, extra_raw, extra_piece, extra_is, tells_extra_or_id, Both, both_raw, policy_piece_sp, policy_piece_np, both_is, tells_policies}
use Rattle.report_form.proofs.RowTold.{Told, GoodTold, told_said, row_text, record_piece, record_text, tells_told, records_text, AllTold, GoodRecords, tells_records}
use Rattle.report.proofs.Regrouping.{Tree, leaf, ◌·◌, whole, along, regroup, lit, val, el}

module _ (ws : Widths) where
  unfoldable pub tells_time : (ends : ℕ → Bool) → Tells (number 0 ws.times ends)
  unfolding tells_number
  tells_time ends = tells_number 0 ws.times ends (omega arith)

  module _ (judged : ℕ → ℕ → Bool) where
    unfoldable pub tells_report : Tells ((report_by ws) judged)
    unfolding report_by tells_text tells_extra_or_id tells_id tells_time tells_number tells_name tells_policy tells_word tells_policies tells_mode tells_testing tells_told tells_records tells_give
    tells_report =
        tells_then _ _ (tells_literal _) (tells_then _ _ tells_text
        (tells_then _ _ (tells_literal "/org_name><email>") (tells_then _ _ tells_text
        (tells_then _ _ (tells_literal "/email><") (tells_then _ _ tells_extra_or_id (tells_then _ _ tells_id
        (tells_then _ _ (tells_literal "/report_id><date_range><begin>") (tells_bind _ _ (tells_time (λ n. true)) (λ b.
        tells_then _ _ (tells_literal "/begin><end>") (tells_bind _ _ (tells_time (judged b)) (λ e.
        tells_then _ _ (tells_literal "/end></date_range></report_metadata><policy_published><domain>") (tells_bind _ _ tells_name (λ d.
        tells_then _ _ (tells_literal "/domain><p>") (tells_bind _ _ tells_policy (λ p.
        tells_then _ _ (tells_literal "</p><") (tells_then _ _ tells_policies (tells_bind _ _ tells_mode (λ m.
        tells_then _ _ (tells_literal "</adkim><aspf>") (tells_bind _ _ tells_mode (λ a.
        tells_then _ _ (tells_literal "</aspf><testing>") (tells_bind _ _ tells_testing (λ t.
        tells_then _ _ (tells_literal "</testing></policy_published><record>") (tells_bind _ _ (tells_told ws) (λ r.
        tells_give ((told_said ws) r) ((records_from ws) 255) ((tells_records ws) 255)))))))))))))))))))))))))

  -- ------------------------------------------------------------------ by its values

  pub record Head : Type 0 where
    pub organization : Octets
    pub email : Octets
    pub contact : Octets
    pub id : Octets
    pub begin : ℕ
    pub end : ℕ
    pub domain : Domain
    pub p : Policy
    pub both : Both
    pub adkim : Mode
    pub aspf : Mode
    pub testing : Bool

  pub record GoodHead (judged : ℕ → ℕ → Bool) (h : Head) : Type 0 where
    pub good_organization : GoodText h.organization
    pub good_email : GoodText h.email
    pub good_contact : GoodExtra h.contact
    pub good_id : good_id h.id ≡ true
    pub begin_width : h.begin ≤ ws.times
    pub end_width : h.end ≤ ws.times
    pub in_order : judged h.begin h.end ≡ true
    pub good_domain : GoodName h.domain

  -- as Ask 9 puts it together: what stands before the policy published, what stands before the records, and the whole
  abbrev pub opening_piece : Head → Octets
  opening_piece h =
      octets "<?xml version=\"1.0\" encoding=\"UTF-8\"?>"
      ++ octets "<feedback xmlns=\"urn:ietf:params:xml:ns:dmarc-2.0\">"
      ++ element "report_metadata" (
      element "org_name" (with_entities h.organization)
      ++ element "email" (with_entities h.email)
      ++ extra_piece h.contact
      ++ element "report_id" h.id
      ++ element "date_range" (element "begin" (decimal h.begin) ++ element "end" (decimal h.end)))

  unfoldable pub front_piece : Head → Octets
  front_piece h =
      opening_piece h
      ++ element "policy_published" (
      element "domain" h.domain
      ++ element "p" (policy_text h.p)
      ++ policy_piece_sp h.both.sp
      ++ policy_piece_np h.both.np
      ++ element "adkim" (published_mode h.adkim)
      ++ element "aspf" (published_mode h.aspf)
      ++ element "testing" (published_testing h.testing))

  unfoldable pub report_piece : Head → List (Told ws) → Octets
  report_piece h xs = front_piece h ++ flatten (map (record_piece ws) xs) ++ octets "</feedback>"

  unfoldable pub trees_compute : Unit {0}
  unfolding whole along lit val el octets element
  trees_compute = tt

  abbrev pub opening : Tree
  opening = lit "<?xml version=\"1.0\" encoding=\"UTF-8\"?><feedback xmlns=\"urn:ietf:params:xml:ns:dmarc-2.0\"><report_metadata><org_name>"

  module _ (h : Head) where
    -- behind the policies
    abbrev pub tail_of : Tree → Tree
    tail_of rest = leaf (published_mode h.adkim) · (lit "</adkim><aspf>" · (leaf (published_mode h.aspf) · (lit "</aspf><testing>" · (leaf (published_testing h.testing) · (lit "</testing></policy_published><record>" · rest)))))

    -- as the program reads it: up to the end, and behind it
    abbrev pub raw_begin : Tree → Tree
    raw_begin rest =
        opening · (val (with_entities h.organization) · (lit "/org_name><email>" · (val (with_entities h.email) · (lit "/email><" · (leaf (extra_raw h.contact) · (val h.id
        · (lit "/report_id><date_range><begin>" · (val (decimal h.begin) · (lit "/begin><end>" · rest)))))))))

    abbrev pub raw_end : Tree → Tree
    raw_end rest =
        lit "/end></date_range></report_metadata><policy_published><domain>" · (val h.domain
        · (lit "/domain><p>" · (leaf (policy_text h.p) · (lit "</p><" · (leaf (both_raw h.both) · tail_of rest)))))

    abbrev pub raw : Tree → Tree
    raw rest = raw_begin (val (decimal h.end) · raw_end rest)

    pub raw_joined : (rest : Tree) → whole (raw_begin (leaf []) · (val (decimal h.end) · raw_end rest)) ≡ whole (raw rest)
    unfolding trees_compute
    raw_joined rest = regroup (raw_begin (leaf []) · (val (decimal h.end) · raw_end rest)) (raw rest) refl

    abbrev before_extra : Tree
    before_extra = opening · (val (with_entities h.organization) · (lit "/org_name><email>" · (val (with_entities h.email) · lit "/email>")))

    abbrev before_policies : Tree
    before_policies =
        val h.id
        · (lit "/report_id><date_range><begin>" · (val (decimal h.begin) · (lit "/begin><end>" · (val (decimal h.end) · (lit "/end></date_range></report_metadata><policy_published><domain>" · (val h.domain
        · (lit "/domain><p>" · (leaf (policy_text h.p) · lit "</p>"))))))))

    -- with a tree for the extra contact, and one for the policies
    abbrev pub mid : Tree → Tree → Tree → Tree
    mid extra policies rest = before_extra · (extra · (before_policies · (policies · tail_of rest)))

    pub first_step : (rest : Tree) → whole (raw rest) ≡ whole (mid (lit "<" · leaf (extra_raw h.contact)) (lit "<" · leaf (both_raw h.both)) rest)
    unfolding trees_compute
    first_step rest = regroup (raw rest) (mid (lit "<" · leaf (extra_raw h.contact)) (lit "<" · leaf (both_raw h.both)) rest) refl

    mid_same : (a b c d : Tree) (rest : Tree) → whole a ≡ whole c → whole b ≡ whole d → whole (mid a b rest) ≡ whole (mid c d rest)
    unfolding whole
    mid_same a b c d rest e f = λ i. whole before_extra ++ (e i ++ (whole before_policies ++ (f i ++ whole (tail_of rest))))

    pub extra_tree : Tree
    extra_tree = leaf (extra_piece h.contact) · lit "<report_id>"

    pub policies_tree : Tree
    policies_tree = (leaf (policy_piece_sp h.both.sp) · leaf (policy_piece_np h.both.np)) · lit "<adkim>"

    pub second_step : (rest : Tree) → whole (mid (lit "<" · leaf (extra_raw h.contact)) (lit "<" · leaf (both_raw h.both)) rest) ≡ whole (mid extra_tree policies_tree rest)
    unfolding whole lit extra_tree policies_tree
    second_step rest = mid_same (lit "<" · leaf (extra_raw h.contact)) (lit "<" · leaf (both_raw h.both)) extra_tree policies_tree rest (extra_is h.contact) (both_is h.both)

    abbrev opening_tree : Tree
    opening_tree =
        lit "<?xml version=\"1.0\" encoding=\"UTF-8\"?>"
        · lit "<feedback xmlns=\"urn:ietf:params:xml:ns:dmarc-2.0\">"
        · el "report_metadata" (
        el "org_name" (leaf (with_entities h.organization))
        · el "email" (leaf (with_entities h.email))
        · leaf (extra_piece h.contact)
        · el "report_id" (leaf h.id)
        · el "date_range" (el "begin" (leaf (decimal h.begin)) · el "end" (leaf (decimal h.end))))

    -- what stands before the policy published: up to the end's last digit, and from the `<` after it
    pub opening_is : (whole (raw_begin (leaf [])) ++ decimal h.end) ++ octets "</end></date_range></report_metadata>" ≡ opening_piece h
    unfolding trees_compute extra_tree
    opening_is =
        let rest = val h.id · (lit "/report_id><date_range><begin>" · (val (decimal h.begin) · (lit "/begin><end>" · (leaf (decimal h.end) · lit "</end></date_range></report_metadata>")))) in
        regroup ((raw_begin (leaf []) · leaf (decimal h.end)) · lit "</end></date_range></report_metadata>") (before_extra · ((lit "<" · leaf (extra_raw h.contact)) · rest)) refl
        ∙ (λ i. whole before_extra ++ (extra_is h.contact i ++ whole rest))
        ∙ regroup (before_extra · (extra_tree · rest)) opening_tree refl

    abbrev front_tree : Tree
    front_tree =
        opening_tree
        · el "policy_published" (
        el "domain" (leaf h.domain)
        · el "p" (leaf (policy_text h.p))
        · leaf (policy_piece_sp h.both.sp)
        · leaf (policy_piece_np h.both.np)
        · el "adkim" (leaf (published_mode h.adkim))
        · el "aspf" (leaf (published_mode h.aspf))
        · el "testing" (leaf (published_testing h.testing)))

    -- and as Ask 9 writes it, a record's text behind `<record>`
    third_step : (x : Octets) (xs : Octets) → whole (mid extra_tree policies_tree (leaf x · (leaf xs · lit "</feedback>"))) ≡ front_piece h ++ ((octets "<record>" ++ x) ++ xs) ++ octets "</feedback>"
    unfolding trees_compute extra_tree policies_tree front_piece
    third_step x xs = regroup (mid extra_tree policies_tree (leaf x · (leaf xs · lit "</feedback>"))) (front_tree · ((lit "<record>" · leaf x) · leaf xs) · lit "</feedback>") refl

  last_step : (h : Head) → whole (mid h (extra_tree h) (policies_tree h) (leaf [])) ≡ front_piece h ++ octets "<record>"
  unfolding trees_compute extra_tree policies_tree front_piece
  last_step h = regroup (mid h (extra_tree h) (policies_tree h) (leaf [])) (front_tree h · lit "<record>") refl

  pub front_is : (h : Head) → whole (raw h (leaf [])) ≡ front_piece h ++ octets "<record>"
  front_is h = first_step h (leaf []) ∙ second_step h (leaf []) ∙ last_step h

  abbrev rest : (Told ws) → List (Told ws) → Tree
  rest x xs = leaf ((row_text ws) x) · (leaf (flatten (map (record_piece ws) xs)) · lit "</feedback>")

  pub report_is : (h : Head) (x : (Told ws)) (xs : List (Told ws)) → whole (raw h (rest x xs)) ≡ report_piece h (x ∷ xs)
  unfolding report_piece flatten
  report_is h x xs =
      first_step h (rest x xs) ∙ second_step h (rest x xs) ∙ third_step h ((row_text ws) x) (flatten (map (record_piece ws) xs))
      ∙ ap (λ z. front_piece h ++ (z ++ flatten (map (record_piece ws) xs)) ++ octets "</feedback>") ((record_text ws) x)

  -- ------------------------------------------------------------------ both ways

  unfoldable pub report_computes : Unit {0}
  unfolding tells_report tells_then tells_bind tells_literal tells_give tells_word tells_text tells_extra_or_id tells_id tells_time tells_number tells_name tells_policy tells_policies tells_mode tells_testing tells_told tells_records
  report_computes = tt

  module _ (judged : ℕ → ℕ → Bool) where
    pub report_into : (h : Head) (x : (Told ws)) (xs : List (Told ws)) → GoodHead judged h → (GoodTold ws) x → (AllTold ws) xs → length xs ≤ 255 → Whole ((report_by ws) judged) (report_piece h (x ∷ xs)) (map (told_said ws) (x ∷ xs)) tt
    unfolding report_computes whole lit val records_text GoodRecords
    report_into h x xs g gx gs l = subst (λ s. Whole ((report_by ws) judged) s (map (told_said ws) (x ∷ xs)) tt) (report_is h x xs) ((tells_report judged).into
        (tt, (h.organization, (tt, (h.email, (tt, (h.contact, (h.id, (tt, (h.begin, (tt, (h.end, (tt, (h.domain, (tt, (h.p, (tt, (h.both, (h.adkim, (tt, (h.aspf, (tt, (h.testing, (tt, (x, xs))))))))))))))))))))))))
        (tt, (g.good_organization, (tt, (g.good_email, (tt, (g.good_contact, (g.good_id, (tt, ((omega arith, g.begin_width, refl), (tt, ((omega arith, g.end_width, g.in_order), (tt, (g.good_domain, (tt, (tt, (tt, (tt, (tt, (tt, (tt, (tt, (tt, (tt, (gx, (gs, l))))))))))))))))))))))))))

    pub record ReadReport (s : Octets) (rs : List Said) : Type 0 where
      pub head : Head
      pub first : (Told ws)
      pub others : List (Told ws)
      pub good_head : GoodHead judged head
      pub good_first : (GoodTold ws) first
      pub good_others : (AllTold ws) others
      pub few : length others ≤ 255
      pub is : s ≡ report_piece head (first ∷ others)
      pub said : rs ≡ map (told_said ws) (first ∷ others)

    pub report_back : (s : Octets) (rs : List Said) (a : Unit {0}) → Whole ((report_by ws) judged) s rs a → ReadReport s rs
    unfolding report_computes whole lit val records_text GoodRecords
    report_back s rs a w =
        let (x, g, e, z, v) = (tells_report judged).back s rs a w in
        let x5 = x.1.1.1.1 in
        let g5 = g.1.1.1.1 in
        let x8 = x5.1.1.1.1 in
        let g8 = g5.1.1.1.1 in
        let x12 = x8.1.1.1.1 in
        let g12 = g8.1.1.1.1 in
        let x16 = x12.1.1.1.1 in
        let x20 = x16.1.1.1.1 in
        let g16 = g12.1.1.1.1 in
        let g20 = g16.1.1.1.1 in
        let rows = x20.1.1.1 in
        let good_rows = g20.1.1.1 in
        let h : Head = record {
          organization = x.1.0;
          email = x.1.1.1.0;
          contact = x5.1.0;
          id = x5.1.1.0;
          begin = x8.0;
          end = x8.1.1.0;
          domain = x12.0;
          p = x12.1.1.0;
          both = x16.0;
          adkim = x16.1.0;
          aspf = x16.1.1.1.0;
          testing = x20.1.0;
        } in
        record {
          head = h;
          first = rows.0;
          others = rows.1;
          good_head = record {
            good_organization = g.1.0;
            good_email = g.1.1.1.0;
            good_contact = g5.1.0;
            good_id = g5.1.1.0;
            begin_width = g8.0.1;
            end_width = g8.1.1.0.1;
            in_order = g8.1.1.0.2;
            good_domain = g12.0;
          };
          good_first = good_rows.0;
          good_others = good_rows.1.0;
          few = good_rows.1.1;
          is = e ∙ report_is h rows.0 rows.1;
          said = z;
        }
