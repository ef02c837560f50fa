-- What Ask 9 writes, by the values that its text tells; and back.
use mathlib.Core.Path.{◌≡◌, refl, ap, ◌∙◌}
use mathlib.Core.List.{List, [], ◌∷◌, ◌++◌, map, flatten}
use mathlib.Core.Bool.{Bool, true, false, ◌&&◌, ◌||◌, not, false≢true}
use Prim.Native.Nat.{ℕ, suc, ◌≤◌}
use native.Mathlib.Omega.{arith}
use lib.Dec.{eqb, leb}
use lib.ListN.{length}
use borrow.Author.Tests.{leb-true, le-leb}
use Rattle.std.specs.Prelude.{if◌then◌else◌, Option, None, Some}
use Rattle.octets.specs.Octets.{Octets, octets, is_empty, all, same, between, lower}
use Rattle.octets.proofs.TextLaws.{same_true, same_self}
use Rattle.octets.specs.Decimal.{decimal}
use Rattle.domain.specs.Domain.{is_domain}
use Rattle.policy.specs.declared.Policy.{Policy}
use Rattle.policy.specs.declared.Psd.{Psd}
use Rattle.policy.specs.declared.Setting.{Setting}
use Rattle.policy.specs.declared.Settings.{Settings}
use Rattle.force.specs.InForce.{usable, as_none, is_set, is_absent}
use Rattle.reporting.specs.FileName.{good_id}
use Rattle.publishing.specs.Publishing.{setting_value}
use Rattle.report.specs.Report.{published_mode, published_testing}
use Rattle.report.specs.Xml
use Rattle.report.specs.Xml.{element, optional_element, with_entities}
use Rattle.report.specs.Report.{Line, date_range, metadata, published, policy_published, record_element, report_text, good_text, good_texts}
use Rattle.report_form.specs.ReportForm.{Widths, said, good_entry, good_lines, good_front, Writing, text_of, good}
use Rattle.report_form.proofs.TextBack.{both_true, not_false, GoodText}
use Rattle.report_form.proofs.NameBack.{GoodName}
use Rattle.report_form.proofs.WordsTold.{policy_text, setting_text}
use Rattle.report_form.proofs.HeadTold.{GoodExtra, extra_piece, policy_piece_sp, policy_piece_np}
use Rattle.report_form.proofs.RowTold.{Told, GoodTold, told_said, record_piece, AllTold}
use Rattle.report_form.specs.ReportClaims.{opening_of, front_of}
use Rattle.report_form.proofs.ReportTold.{opening_piece, front_piece, Head, GoodHead, report_piece}
use Rattle.report_form.proofs.LineLaws.{told_of, line_written, line_said, line_good, line_of, entry_good, line_again, told_again}

module _ (ws : Widths) where
  -- ------------------------------------------------------------------ settings

  unfoldable pub row_policy : Setting → Policy
  row_policy Setting.Absent = Policy.None
  row_policy Setting.Invalid = Policy.None
  row_policy (Setting.Set p) = p

  unfoldable pub policy_if : Setting → Option Policy
  policy_if Setting.Absent = None
  policy_if Setting.Invalid = None
  policy_if (Setting.Set p) = Some p

  p_word : (s : Setting) → is_set s ≡ true → setting_value s ≡ policy_text (row_policy s)
  unfolding is_set row_policy
  p_word Setting.Absent e = absurd (false≢true e)
  p_word Setting.Invalid e = absurd (false≢true e)
  p_word (Setting.Set p) e = setting_text p

  some_policy : (p : Policy) → is_empty (policy_text p) ≡ false
  unfolding policy_text octets
  some_policy Policy.None = refl
  some_policy Policy.Quarantine = refl
  some_policy Policy.Reject = refl

  absent_word : setting_value Setting.Absent ≡ []
  unfolding setting_value
  absent_word = refl

  invalid_word : setting_value Setting.Invalid ≡ []
  unfolding setting_value
  invalid_word = refl

  sp_word : (s : Setting) → optional_element "sp" (setting_value s) ≡ policy_piece_sp (policy_if s)
  unfolding policy_if policy_piece_sp optional_element
  sp_word Setting.Absent = ap (λ z. if is_empty z then [] else element "sp" z) absent_word
  sp_word Setting.Invalid = ap (λ z. if is_empty z then [] else element "sp" z) invalid_word
  sp_word (Setting.Set p) = ap (λ z. if is_empty z then [] else element "sp" z) (setting_text p) ∙ ap (λ b. if b then [] else element "sp" (policy_text p)) (some_policy p)

  np_word : (s : Setting) → optional_element "np" (setting_value s) ≡ policy_piece_np (policy_if s)
  unfolding policy_if policy_piece_np optional_element
  np_word Setting.Absent = ap (λ z. if is_empty z then [] else element "np" z) absent_word
  np_word Setting.Invalid = ap (λ z. if is_empty z then [] else element "np" z) invalid_word
  np_word (Setting.Set p) = ap (λ z. if is_empty z then [] else element "np" z) (setting_text p) ∙ ap (λ b. if b then [] else element "np" (policy_text p)) (some_policy p)

  usable_set : (s : Settings) → usable s ≡ true → is_set s.p ≡ true
  unfolding usable
  usable_set s e = (both_true (is_set s.p) (is_absent s.sp || is_set s.sp) (both_true (is_set s.p && (is_absent s.sp || is_set s.sp)) (is_absent s.np || is_set s.np) e).0).0

  none_set : (s : Settings) → is_set (as_none s).p ≡ true
  unfolding as_none is_set
  none_set s = refl

  -- "all three policies none if not usable": p is always there
  published_set : (s : Settings) → is_set (published s).p ≡ true
  unfolding published
  published_set s = go (usable s) refl
    where
      go : (c : Bool) → usable s ≡ c → is_set (if usable s then s else as_none s).p ≡ true
      go true e = ap (λ b. is_set (if b then s else as_none s).p) e ∙ usable_set s e
      go false e = ap (λ b. is_set (if b then s else as_none s).p) e ∙ none_set s

  -- ------------------------------------------------------------------ the extra contact

  entity_some : (x : ℕ) (r : Octets) → is_empty (Xml.entity x ++ r) ≡ false
  unfolding Xml.entity octets
  entity_some x r = go (eqb x 38) refl (eqb x 60) refl (eqb x 62) refl
    where
      go : (a : Bool) → eqb x 38 ≡ a → (b : Bool) → eqb x 60 ≡ b → (c : Bool) → eqb x 62 ≡ c → is_empty ((if eqb x 38 then octets "&amp;" else if eqb x 60 then octets "&lt;" else if eqb x 62 then octets "&gt;" else x ∷ []) ++ r) ≡ false
      go true e b f c g = rw e
      go false e true f c g = rw (e, f)
      go false e false f true g = rw (e, f, g)
      go false e false f false g = rw (e, f, g)

  extra_word : (v : Octets) → optional_element "extra_contact_info" (with_entities v) ≡ extra_piece v
  unfolding optional_element with_entities flatten extra_piece
  extra_word [] = refl
  extra_word (x ∷ v) = ap (λ b. if b then [] else element "extra_contact_info" (Xml.entity x ++ flatten (map Xml.entity v))) (entity_some x (flatten (map Xml.entity v)))

  -- ------------------------------------------------------------------ the text

  unfoldable pub head_of : Writing → (Head ws)
  head_of w = record {
    organization = w.reporter.organization;
    email = w.reporter.email;
    contact = w.reporter.contact;
    id = w.reporter.id;
    begin = w.reporter.begin;
    end = w.reporter.end;
    domain = w.domain;
    p = row_policy (published w.settings).p;
    both = record { sp = policy_if (published w.settings).sp; np = policy_if (published w.settings).np };
    adkim = (published w.settings).adkim;
    aspf = (published w.settings).aspf;
    testing = (published w.settings).t;
  }

  lines_written : (ls : List Line) → all (good_entry ws) ls ≡ true → flatten (map record_element ls) ≡ flatten (map (record_piece ws) (map (told_of ws) ls))
  unfolding all flatten
  lines_written [] e = refl
  lines_written (l ∷ ls) e =
      let (a, b) = both_true ((good_entry ws) l) (all (good_entry ws) ls) e in
      λ j. (line_written ws) l a j ++ lines_written ls b j

  pub lines_said : (ls : List Line) → all (good_entry ws) ls ≡ true → map said ls ≡ map (told_said ws) (map (told_of ws) ls)
  unfolding all
  lines_said [] e = refl
  lines_said (l ∷ ls) e =
      let (a, b) = both_true ((good_entry ws) l) (all (good_entry ws) ls) e in
      λ j. (line_said ws) l a j ∷ lines_said ls b j

  pub lines_good : (ls : List Line) → all (good_entry ws) ls ≡ true → (AllTold ws) (map (told_of ws) ls)
  unfolding all AllTold
  lines_good [] e = tt
  lines_good (l ∷ ls) e =
      let (a, b) = both_true ((good_entry ws) l) (all (good_entry ws) ls) e in
      ((line_good ws) l a, lines_good ls b)

  pub lines_length : (ls : List Line) → length (map (told_of ws) ls) ≡ length ls
  lines_length [] = refl
  lines_length (l ∷ ls) = ap suc (lines_length ls)

  -- what stands before the policy published
  pub opening_text : (w : Writing) → opening_of w.reporter ≡ (opening_piece ws) (head_of w)
  unfolding opening_of metadata date_range head_of
  opening_text w =
      let by = w.reporter in
      let x = extra_word by.contact in
      λ j.
      octets "<?xml version=\"1.0\" encoding=\"UTF-8\"?>"
      ++ octets "<feedback xmlns=\"urn:ietf:params:xml:ns:dmarc-2.0\">"
      ++ element "report_metadata" (
      element "org_name" (with_entities by.organization)
      ++ element "email" (with_entities by.email)
      ++ x j
      ++ element "report_id" by.id
      ++ element "date_range" (element "begin" (decimal by.begin) ++ element "end" (decimal by.end)))

  -- what stands before the records
  pub front_text : (w : Writing) → front_of w ≡ (front_piece ws) (head_of w)
  unfolding front_of policy_published front_piece head_of
  front_text w =
      let q = published w.settings in
      let pw = p_word q.p (published_set w.settings) in
      let sw = sp_word q.sp in
      let nw = np_word q.np in
      λ j.
      opening_text w j
      ++ element "policy_published" (
      element "domain" w.domain
      ++ element "p" (pw j)
      ++ sw j
      ++ nw j
      ++ element "adkim" (published_mode q.adkim)
      ++ element "aspf" (published_mode q.aspf)
      ++ element "testing" (published_testing q.t))

  pub writing_text : (w : Writing) → all (good_entry ws) w.lines ≡ true → text_of w ≡ (report_piece ws) (head_of w) (map (told_of ws) w.lines)
  unfolding text_of report_text front_of opening_of report_piece
  writing_text w e = λ j. front_text w j ++ lines_written w.lines e j ++ octets "</feedback>"

  -- ------------------------------------------------------------------ what is good

  text_good : (v : Octets) → good_text v ≡ true → is_empty v ≡ false → GoodText v
  unfolding good_text GoodText
  text_good v e f = let (a, b) = both_true (leb (length v) 4096) (all (between 32 126) v) e in (leb-true (length v) 4096 a, b, f)

  extra_good : (v : Octets) → good_text v ≡ true → GoodExtra v
  unfolding GoodExtra
  extra_good [] e = tt
  extra_good (x ∷ v) e = text_good (x ∷ v) e refl

  pub record Parts (w : Writing) : Type 0 where
    pub front : (good_front ws) w.domain w.reporter ≡ true
    pub some : is_empty w.lines ≡ false
    pub few : length w.lines ≤ 256
    pub entries : all (good_entry ws) w.lines ≡ true

  pub good_parts : (w : Writing) → (good ws) w ≡ true → Parts w
  unfolding good good_lines
  good_parts w e =
      let (a, b) = both_true ((good_front ws) w.domain w.reporter) (not (is_empty w.lines) && leb (length w.lines) 256 && all (good_entry ws) w.lines) e in
      let (c, d) = both_true (not (is_empty w.lines) && leb (length w.lines) 256) (all (good_entry ws) w.lines) b in
      let (f, g) = both_true (not (is_empty w.lines)) (leb (length w.lines) 256) c in
      record { front = a; some = not_false (is_empty w.lines) f; few = leb-true (length w.lines) 256 g; entries = d }

  pub front_good : (judged : ℕ → ℕ → Bool) (w : Writing) → (good_front ws) w.domain w.reporter ≡ true → judged w.reporter.begin w.reporter.end ≡ true → (GoodHead ws) judged (head_of w)
  unfolding good_front good_texts head_of GoodName
  front_good judged w e o =
      let by = w.reporter in
      let d = w.domain in
      let texts = not (is_empty by.organization) && not (is_empty by.email) && good_text by.organization && good_text by.email && good_text by.contact in
      let (e1, end_ok) = both_true (is_domain d && same (lower d) d && texts && good_id by.id && leb by.begin ws.times) (leb by.end ws.times) e in
      let (e2, begin_ok) = both_true (is_domain d && same (lower d) d && texts && good_id by.id) (leb by.begin ws.times) e1 in
      let (e3, id_ok) = both_true (is_domain d && same (lower d) d && texts) (good_id by.id) e2 in
      let (e4, texts_ok) = both_true (is_domain d && same (lower d) d) texts e3 in
      let (d_ok, d_low) = both_true (is_domain d) (same (lower d) d) e4 in
      let (t1, contact_ok) = both_true (not (is_empty by.organization) && not (is_empty by.email) && good_text by.organization && good_text by.email) (good_text by.contact) texts_ok in
      let (t2, email_ok) = both_true (not (is_empty by.organization) && not (is_empty by.email) && good_text by.organization) (good_text by.email) t1 in
      let (t3, org_ok) = both_true (not (is_empty by.organization) && not (is_empty by.email)) (good_text by.organization) t2 in
      let (org_some, email_some) = both_true (not (is_empty by.organization)) (not (is_empty by.email)) t3 in
      record {
        good_organization = text_good by.organization org_ok (not_false (is_empty by.organization) org_some);
        good_email = text_good by.email email_ok (not_false (is_empty by.email) email_some);
        good_contact = extra_good by.contact contact_ok;
        good_id = id_ok;
        begin_width = leb-true by.begin ws.times begin_ok;
        end_width = leb-true by.end ws.times end_ok;
        in_order = o;
        good_domain = (d_ok, same_true (lower d) d d_low);
      }

  -- ------------------------------------------------------------------ and back

  unfoldable pub setting_of : Option Policy → Setting
  setting_of None = Setting.Absent
  setting_of (Some p) = Setting.Set p

  unfoldable pub writing_of : (Head ws) → List (Told ws) → Writing
  writing_of h xs = record {
    domain = h.domain;
    settings = record { p = Setting.Set h.p; sp = setting_of h.both.sp; np = setting_of h.both.np; adkim = h.adkim; aspf = h.aspf; psd = Psd.Unset; t = h.testing; reports = false };
    reporter = record { organization = h.organization; email = h.email; contact = h.contact; id = h.id; begin = h.begin; end = h.end };
    lines = map (line_of ws) xs;
  }

  set_is : (p : Policy) → is_set (Setting.Set p) ≡ true
  unfolding is_set
  set_is p = refl

  set_in : (p : Policy) → row_policy (Setting.Set p) ≡ p
  unfolding row_policy
  set_in p = refl

  setting_kept : (o : Option Policy) → (is_absent (setting_of o) || is_set (setting_of o)) ≡ true
  unfolding setting_of is_absent is_set
  setting_kept None = refl
  setting_kept (Some p) = refl

  setting_again : (o : Option Policy) → policy_if (setting_of o) ≡ o
  unfolding setting_of policy_if
  setting_again None = refl
  setting_again (Some p) = refl

  usable_again : (s : Settings) → is_set s.p ≡ true → (is_absent s.sp || is_set s.sp) ≡ true → (is_absent s.np || is_set s.np) ≡ true → published s ≡ s
  unfolding published usable
  usable_again s a b c = rw (a, b, c)

  head_again : (h : (Head ws)) (xs : List (Told ws)) → head_of (writing_of h xs) ≡ h
  unfolding head_of writing_of
  head_again h xs =
      let s : Settings = record { p = Setting.Set h.p; sp = setting_of h.both.sp; np = setting_of h.both.np; adkim = h.adkim; aspf = h.aspf; psd = Psd.Unset; t = h.testing; reports = false } in
      let e : published s ≡ s = usable_again s (set_is h.p) (setting_kept h.both.sp) (setting_kept h.both.np) in
      (λ j. record {
        organization = h.organization;
        email = h.email;
        contact = h.contact;
        id = h.id;
        begin = h.begin;
        end = h.end;
        domain = h.domain;
        p = row_policy (e j).p;
        both = record { sp = policy_if (e j).sp; np = policy_if (e j).np };
        adkim = (e j).adkim;
        aspf = (e j).aspf;
        testing = (e j).t;
      })
      ∙ (λ j. record {
        organization = h.organization;
        email = h.email;
        contact = h.contact;
        id = h.id;
        begin = h.begin;
        end = h.end;
        domain = h.domain;
        p = set_in h.p j;
        both = record { sp = setting_again h.both.sp j; np = setting_again h.both.np j };
        adkim = h.adkim;
        aspf = h.aspf;
        testing = h.testing;
      })

  entries_good : (xs : List (Told ws)) → (AllTold ws) xs → all (good_entry ws) (map (line_of ws) xs) ≡ true
  unfolding AllTold all
  entries_good [] g = refl
  entries_good (x ∷ xs) g = rw ((entry_good ws) x g.0) (entries_good xs g.1)

  lines_again : (xs : List (Told ws)) → (AllTold ws) xs → (flatten (map record_element (map (line_of ws) xs)) ≡ flatten (map (record_piece ws) xs)) × (map said (map (line_of ws) xs) ≡ map (told_said ws) xs)
  unfolding AllTold flatten
  lines_again [] g = (refl, refl)
  lines_again (x ∷ xs) g =
      let (a, b) = (line_again ws) x g.0 in
      let (c, d) = lines_again xs g.1 in
      ((λ j. a j ++ c j), (λ j. b j ∷ d j))

  told_all_again : (xs : List (Told ws)) → (AllTold ws) xs → map (told_of ws) (map (line_of ws) xs) ≡ xs
  unfolding AllTold
  told_all_again [] g = refl
  told_all_again (x ∷ xs) g = λ j. (told_again ws) x g.0 j ∷ told_all_again xs g.1 j

  lines_count : (xs : List (Told ws)) → length (map (line_of ws) xs) ≡ length xs
  lines_count [] = refl
  lines_count (x ∷ xs) = ap suc (lines_count xs)

  pub again_text : (h : (Head ws)) (xs : List (Told ws)) → (AllTold ws) xs → text_of (writing_of h xs) ≡ (report_piece ws) h xs
  unfolding writing_of
  again_text h xs g = writing_text (writing_of h xs) (entries_good xs g) ∙ (λ j. (report_piece ws) (head_again h xs j) (told_all_again xs g j))

  pub again_said : (h : (Head ws)) (xs : List (Told ws)) → (AllTold ws) xs → map said (writing_of h xs).lines ≡ map (told_said ws) xs
  unfolding writing_of
  again_said h xs g = (lines_again xs g).1

  good_of_text : (v : Octets) → GoodText v → (good_text v ≡ true) × (is_empty v ≡ false)
  unfolding good_text GoodText
  good_of_text v g = (rw (le-leb (length v) 4096 g.0, g.1), g.2)

  good_of_extra : (v : Octets) → GoodExtra v → good_text v ≡ true
  unfolding GoodExtra good_text all
  good_of_extra [] g = refl
  good_of_extra (x ∷ v) g = (good_of_text (x ∷ v) g).0

  pub again_front : (judged : ℕ → ℕ → Bool) (h : (Head ws)) (xs : List (Told ws)) → (GoodHead ws) judged h → (good_front ws) (writing_of h xs).domain (writing_of h xs).reporter ≡ true
  unfolding good_front good_texts writing_of GoodName
  again_front judged h xs g =
      let (a, b) = good_of_text h.organization g.good_organization in
      let (c, d) = good_of_text h.email g.good_email in
      rw (
        g.good_domain.0,
        ap (λ z. same z h.domain) g.good_domain.1 ∙ same_self h.domain,
        b,
        d,
        a,
        c,
        good_of_extra h.contact g.good_contact,
        g.good_id,
        le-leb h.begin ws.times g.begin_width,
        le-leb h.end ws.times g.end_width,
      )

  lines_are_good : (ls : List Line) → is_empty ls ≡ false → length ls ≤ 256 → all (good_entry ws) ls ≡ true → (good_lines ws) ls ≡ true
  unfolding good_lines
  lines_are_good ls a b c = rw (a, le-leb (length ls) 256 b, c)

  all_is_good : (w : Writing) → (good_front ws) w.domain w.reporter ≡ true → (good_lines ws) w.lines ≡ true → (good ws) w ≡ true
  unfolding good
  all_is_good w a b = rw (a, b)

  pub again_good : (judged : ℕ → ℕ → Bool) (h : (Head ws)) (x : (Told ws)) (xs : List (Told ws)) → (GoodHead ws) judged h → (GoodTold ws) x → (AllTold ws) xs → length xs ≤ 255 → (good ws) (writing_of h (x ∷ xs)) ≡ true
  unfolding writing_of AllTold
  again_good judged h x xs g gx gs l =
      all_is_good (writing_of h (x ∷ xs)) (again_front judged h (x ∷ xs) g) (lines_are_good (map (line_of ws) (x ∷ xs)) refl (omega (arith, lines_count (x ∷ xs), l)) (entries_good (x ∷ xs) (gx, gs)))
