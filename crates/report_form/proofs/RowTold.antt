-- Records: what is read whole is what Ask 9 writes.
use mathlib.Core.Path.{◌≡◌, refl, sym, ap, ◌∙◌, subst}
use mathlib.Core.List.{List, [], ◌∷◌, ◌++◌, map, flatten, append_assoc}
use mathlib.Core.Bool.{Bool, true, false}
use Prim.Native.Nat.{ℕ, zero, suc, ◌≤◌}
use native.Mathlib.Omega.{arith}
use lib.ListN.{length}
use Rattle.octets.specs.Octets.{Octets, octets}
use Rattle.octets.specs.Decimal.{decimal}
use Rattle.domain.specs.Domain.{Domain}
use Rattle.report.specs.Xml
use Rattle.report.specs.Xml.{element}
use Rattle.report.specs.Report.{result_of_alignment}
use Rattle.parsing.specs.Reads.{Reads, done, give, ◌>>=◌, ◌>>◌}
use Rattle.parsing.specs.code.Whole.{Whole}
use Rattle.report_form.specs.ReportForm.{Widths, Said}
use Rattle.report_form.specs.code.ReportReading.{reading_literal as literal, one_word, Disposition, policy_read as policy_of, reading_number as number, reading_row as row, records_from}
use Rattle.report_form.proofs.WholeLaws.{Cut, whole_bind, whole_cut}
use Rattle.report_form.proofs.Telling.{Tells, whole_done, done_whole, give_into, give_back, tells_done, tells_literal, tells_bind, tells_then, tells_word}
use Rattle.report_form.proofs.NumberBack.{tells_number}
use Rattle.report_form.proofs.NameBack.{GoodName, tells_name}
use Rattle.report_form.proofs.Addresses
use Rattle.report_form.proofs.Addresses.{tells_address}
use Rattle.report_form.proofs.WordsTold.{tells_disposition, written_as, tells_dkim, tells_spf, dkim_allowed, spf_allowed, tells_more, more_text}
use Rattle.report_form.proofs.ResultsTold.{Results, tells_results, results_text, results_list, from_text, dkim_piece, dkim_of, GoodResults}
use Rattle.report.proofs.Regrouping.{leaf, ◌·◌, whole, along, regroup, lit, val, el}

module _ (ws : Widths) where
  unfoldable pub tells_count : Tells (number 1 ws.counts (λ n. true))
  unfolding tells_number
  tells_count = tells_number 1 ws.counts (λ n. true) (omega arith)

  unfoldable pub tells_row : Tells (row ws)
  unfolding row tells_address tells_count tells_number tells_disposition tells_word tells_dkim tells_spf tells_name tells_results
  tells_row =
      tells_then _ _ (tells_literal "<row><source_ip>") (tells_bind _ _ tells_address (λ a.
      tells_then _ _ (tells_literal "/source_ip><count>") (tells_bind _ _ tells_count (λ c.
      tells_then _ _ (tells_literal "/count><policy_evaluated><disposition>") (tells_bind _ _ tells_disposition (λ d.
      tells_then _ _ (tells_literal "</disposition><dkim>") (tells_bind _ _ (tells_dkim d) (λ k.
      tells_then _ _ (tells_literal "</dkim><spf>") (tells_bind _ _ (tells_spf d k) (λ s.
      tells_then _ _ (tells_literal "</spf></policy_evaluated></row><identifiers><header_from>") (tells_bind _ _ tells_name (λ f.
      tells_then _ _ (tells_literal "/header_from></identifiers><auth_results>") (tells_bind _ _ tells_results (λ r.
      tells_then _ _ (tells_literal "</record>") (tells_done _)))))))))))))))

  unfoldable row_computes : Unit {0}
  unfolding tells_row tells_then tells_bind tells_literal tells_done tells_address tells_count tells_number tells_disposition tells_word tells_dkim tells_spf tells_name tells_results
  row_computes = tt

  unfoldable trees_compute : Unit {0}
  unfolding whole along lit val el octets element
  trees_compute = tt

  -- ------------------------------------------------------------------ a record by its values

  pub record Told : Type 0 where
    pub source : Octets
    pub count : ℕ
    pub disposition : Disposition
    pub dkim : Bool
    pub spf : Bool
    pub author : Domain
    pub results : Results

  pub record GoodTold (x : Told) : Type 0 where
    pub good_source : Addresses.Good x.source
    pub counted : 1 ≤ x.count
    pub width : x.count ≤ ws.counts
    pub good_dkim : dkim_allowed x.disposition x.dkim
    pub good_spf : spf_allowed x.disposition x.dkim x.spf
    pub good_author : GoodName x.author
    pub good_results : GoodResults 16 x.results

  unfoldable pub told_said : Told → Said
  told_said x = record { source = x.source; count = x.count; disposition = policy_of x.disposition; dkim = x.dkim; spf = x.spf; author = x.author; identifiers = results_list x.results }

  unfoldable pub record_piece : Told → Octets
  record_piece x = element "record" (
      element "row" (
      element "source_ip" (Xml.address x.source)
      ++ element "count" (decimal x.count)
      ++ element "policy_evaluated" (element "disposition" (written_as x.disposition) ++ element "dkim" (result_of_alignment x.dkim) ++ element "spf" (result_of_alignment x.spf)))
      ++ element "identifiers" (element "header_from" x.author)
      ++ element "auth_results" (flatten (map (λ i. dkim_piece (dkim_of i)) x.results.signatures) ++ from_text x.results.from))

  -- behind `<record>`
  unfoldable pub row_text : Told → Octets
  row_text x = whole (
      lit "<row><source_ip>" · (val (Xml.address x.source) · (lit "/source_ip><count>" · (val (decimal x.count) · (lit "/count><policy_evaluated><disposition>" · (leaf (written_as x.disposition)
      · (lit "</disposition><dkim>" · (leaf (result_of_alignment x.dkim) · (lit "</dkim><spf>" · (leaf (result_of_alignment x.spf) · (lit "</spf></policy_evaluated></row><identifiers><header_from>" · (val x.author
      · (lit "/header_from></identifiers><auth_results>" · ((leaf (flatten (map (λ i. dkim_piece (dkim_of i)) x.results.signatures)) · (leaf (from_text x.results.from) · lit "</auth_results>")) · (lit "</record>" · leaf [])))))))))))))))

  pub record_text : (x : Told) → octets "<record>" ++ row_text x ≡ record_piece x
  unfolding trees_compute row_text record_piece
  record_text x = regroup
      (lit "<record>" · (
      lit "<row><source_ip>" · (val (Xml.address x.source) · (lit "/source_ip><count>" · (val (decimal x.count) · (lit "/count><policy_evaluated><disposition>" · (leaf (written_as x.disposition)
      · (lit "</disposition><dkim>" · (leaf (result_of_alignment x.dkim) · (lit "</dkim><spf>" · (leaf (result_of_alignment x.spf) · (lit "</spf></policy_evaluated></row><identifiers><header_from>" · (val x.author
      · (lit "/header_from></identifiers><auth_results>" · ((leaf (flatten (map (λ i. dkim_piece (dkim_of i)) x.results.signatures)) · (leaf (from_text x.results.from) · lit "</auth_results>")) · (lit "</record>" · leaf []))))))))))))))))
      (el "record" (
      el "row" (
      el "source_ip" (leaf (Xml.address x.source))
      · el "count" (leaf (decimal x.count))
      · el "policy_evaluated" (el "disposition" (leaf (written_as x.disposition)) · el "dkim" (leaf (result_of_alignment x.dkim)) · el "spf" (leaf (result_of_alignment x.spf))))
      · el "identifiers" (el "header_from" (leaf x.author))
      · el "auth_results" (leaf (flatten (map (λ i. dkim_piece (dkim_of i)) x.results.signatures)) · leaf (from_text x.results.from))))
      refl

  pub row_into : (x : Told) → GoodTold x → Whole {R = Said} (row ws) (row_text x) [] (told_said x)
  unfolding row_computes row_text told_said whole lit val results_text
  row_into x g = tells_row.into
      (tt, (x.source, (tt, (x.count, (tt, (x.disposition, (tt, (x.dkim, (tt, (x.spf, (tt, (x.author, (tt, (x.results, (tt, tt)))))))))))))))
      (tt, (g.good_source, (tt, ((g.counted, g.width, refl), (tt, (tt, (tt, (g.good_dkim, (tt, (g.good_spf, (tt, (g.good_author, (tt, (g.good_results, (tt, tt)))))))))))))))

  pub row_back : (s : Octets) (rs : List Said) (a : Said) → Whole {R = Said} (row ws) s rs a → (x : Told) × GoodTold x × (s ≡ row_text x) × (rs ≡ []) × (a ≡ told_said x)
  unfolding row_computes row_text told_said whole lit val results_text
  row_back s rs a w =
      let (x, g, e, z, v) = tells_row.back s rs a w in
      let x2 = x.1.1 in
      let x4 = x2.1.1 in
      let x6 = x4.1.1 in
      let x8 = x6.1.1 in
      let g2 = g.1.1 in
      let g4 = g2.1.1 in
      let g6 = g4.1.1 in
      let g8 = g6.1.1 in
      let x10 = x8.1.1 in
      let g10 = g8.1.1 in
      let x12 = x10.1.1 in
      let g12 = g10.1.1 in (
        record { source = x.1.0; count = x2.1.0; disposition = x4.1.0; dkim = x6.1.0; spf = x8.1.0; author = x10.1.0; results = x12.1.0 },
        record { good_source = g.1.0; counted = g2.1.0.0; width = g2.1.0.1; good_dkim = g6.1.0; good_spf = g8.1.0; good_author = g10.1.0; good_results = g12.1.0 },
        e,
        z,
        v,
      )

  -- a row as one program tells it
  unfoldable pub tells_told : Tells (row ws)
  tells_told = record {
    Data = Told;
    text = row_text;
    rows = λ _. [];
    value = told_said;
    Good = GoodTold;
    into = row_into;
    back = row_back;
  }

  -- ------------------------------------------------------------------ records one after another

  unfoldable pub records_text : List Told → Octets
  records_text xs = flatten (map record_piece xs) ++ octets "</feedback>"

  unfoldable pub AllTold : List Told → Type 0
  AllTold [] = Unit
  AllTold (x ∷ xs) = GoodTold x × AllTold xs

  abbrev pub head : Reads Said Bool
  head = literal "<" >> one_word ("record>", true) (("/feedback>", false) ∷ [])

  unfoldable pub branch : ℕ → Bool → Reads Said (Unit {0})
  branch n true = (row ws) >>= (λ r. give r ((records_from ws) n))
  branch n false = done tt

  pub records_suc : (n : ℕ) → (records_from ws) (suc n) ≡ (head >>= branch n)
  unfolding records_from branch
  records_suc n = ap (λ f. head >>= f) (λ j b. same b j)
    where
      same : (b : Bool) → (elim b as (λ _. Reads Said (Unit {0})) [ true ↦ (row ws) >>= (λ r. give r ((records_from ws) n)) | false ↦ done tt ]) ≡ branch n b
      same true = refl
      same false = refl

  pub records_zero : (records_from ws) zero ≡ literal "</feedback>"
  unfolding records_from
  records_zero = refl

  pub head_into : (b : Bool) → Whole {R = Said} head (octets "<" ++ more_text b) [] b
  unfolding tells_then tells_bind tells_literal tells_more tells_word
  head_into b = (tells_then (literal "<") _ (tells_literal "<") tells_more).into (tt, b) (tt, tt)

  head_back : (s : Octets) (rs : List Said) (b : Bool) → Whole {R = Said} head s rs b → (s ≡ octets "<" ++ more_text b) × (rs ≡ [])
  unfolding tells_then tells_bind tells_literal tells_more tells_word
  head_back s rs b w =
      let (x, g, e, z, v) = (tells_then (literal "<") _ (tells_literal "<") tells_more).back s rs b w in
      (e ∙ ap (λ c. octets "<" ++ more_text c) (sym v), z)

  last_into : Whole {R = Said} (literal "</feedback>") (octets "</feedback>") [] tt
  unfolding tells_literal
  last_into = (tells_literal "</feedback>").into tt tt

  last_back : (s : Octets) (rs : List Said) (a : Unit {0}) → Whole {R = Said} (literal "</feedback>") s rs a → (s ≡ octets "</feedback>") × (rs ≡ [])
  unfolding tells_literal
  last_back s rs a w = let (x, g, e, z, v) = (tells_literal "</feedback>").back s rs a w in (e, z)

  none_text : octets "</feedback>" ≡ records_text []
  unfolding records_text flatten
  none_text = refl

  end_text : (octets "<" ++ octets "/feedback>") ++ [] ≡ octets "</feedback>"
  unfolding octets
  end_text = refl

  pub record_open : octets "<" ++ octets "record>" ≡ octets "<record>"
  unfolding octets
  record_open = refl

  more_records : (x : Told) (xs : List Told) → (octets "<" ++ octets "record>") ++ (row_text x ++ records_text xs) ≡ records_text (x ∷ xs)
  unfolding records_text flatten
  more_records x xs =
      sym (append_assoc (octets "<" ++ octets "record>") (row_text x) (flatten (map record_piece xs) ++ octets "</feedback>"))
      ∙ ap (λ z. z ++ (flatten (map record_piece xs) ++ octets "</feedback>")) (ap (λ z. z ++ row_text x) record_open ∙ record_text x)
      ∙ sym (append_assoc (record_piece x) (flatten (map record_piece xs)) (octets "</feedback>"))

  whole_as : {A : Type 0} (t u : Reads Said A) (s v : Octets) (rs : List Said) (a : A) → t ≡ u → s ≡ v → Whole t s rs a → Whole u v rs a
  whole_as t u s v rs a e f w = subst (λ z. Whole z v rs a) e (subst (λ z. Whole t z rs a) f w)

  pub records_into : (n : ℕ) (xs : List Told) → AllTold xs → length xs ≤ n → Whole ((records_from ws) n) (records_text xs) (map told_said xs) tt
  unfolding AllTold branch more_text
  records_into zero [] g l = whole_as _ _ (octets "</feedback>") _ [] tt (sym records_zero) none_text last_into
  records_into zero (x ∷ xs) g l = absurd (omega (arith, l))
  records_into (suc n) [] g l =
      whole_as _ _ ((octets "<" ++ octets "/feedback>") ++ []) _ [] tt (sym (records_suc n)) (end_text ∙ none_text)
      (whole_bind head (branch n) (octets "<" ++ octets "/feedback>") [] [] [] false tt (head_into false) (whole_done tt))
  records_into (suc n) (x ∷ xs) g l =
      let rest = records_into n xs g.1 (omega (arith, l)) in
      whole_as _ _ ((octets "<" ++ octets "record>") ++ (row_text x ++ records_text xs)) _ (told_said x ∷ map told_said xs) tt (sym (records_suc n)) (more_records x xs)
      (whole_bind head (branch n) (octets "<" ++ octets "record>") (row_text x ++ records_text xs) [] (told_said x ∷ map told_said xs) true tt (head_into true)
      (whole_bind (row ws) (λ r. give r ((records_from ws) n)) (row_text x) (records_text xs) [] (told_said x ∷ map told_said xs) (told_said x) tt (row_into x g.0)
      (give_into (told_said x) ((records_from ws) n) (records_text xs) (map told_said xs) tt rest)))

  pub record ReadRecords (n : ℕ) (s : Octets) (rs : List Said) : Type 0 where
    pub records : List Told
    pub good : AllTold records
    pub few : length records ≤ n
    pub is : s ≡ records_text records
    pub said : rs ≡ map told_said records

  pub records_back : (n : ℕ) (s : Octets) (rs : List Said) → Whole ((records_from ws) n) s rs tt → ReadRecords n s rs
  unfolding AllTold branch more_text
  records_back zero s rs w =
      let (e, z) = last_back s rs tt (subst (λ t. Whole t s rs tt) records_zero w) in
      record { records = []; good = tt; few = omega arith; is = e ∙ none_text; said = z }
  records_back (suc n) s rs w = go (λ u qs. records_back n u qs) c.value c.reads_front c.reads_back
    where
      c : Cut head (branch n) s rs tt
      c = whole_cut head (branch n) s rs tt (subst (λ t. Whole t s rs tt) (records_suc n) w)

      go : ((u : Octets) (qs : List Said) → Whole ((records_from ws) n) u qs tt → ReadRecords n u qs) → (b : Bool) → Whole {R = Said} head c.front c.front_rows b → Whole {R = Said} (branch n b) c.back c.back_rows tt → ReadRecords (suc n) s rs
      go again false f g =
          let (e, z) = head_back c.front c.front_rows false f in
          let (ed, zd, vd) = done_whole {A = Unit {0}} tt c.back c.back_rows tt g in
          record { records = []; good = tt; few = omega arith; is = c.joined ∙ (λ k. e k ++ ed k) ∙ end_text ∙ none_text; said = c.joined_rows ∙ (λ k. z k ++ zd k) }
      go again true f g =
          let (e, z) = head_back c.front c.front_rows true f in
          let d = whole_cut (row ws) (λ r. give r ((records_from ws) n)) c.back c.back_rows tt g in
          let (x, gx, ex, zx, vx) = row_back d.front d.front_rows d.value d.reads_front in
          let (qs, eq, wq) = give_back d.value ((records_from ws) n) d.back d.back_rows tt d.reads_back in
          let r = again d.back qs wq in
          record {
            records = x ∷ r.records;
            good = (gx, r.good);
            few = omega (arith, r.few);
            is = c.joined ∙ (λ k. e k ++ (d.joined ∙ (λ m. ex m ++ r.is m)) k) ∙ more_records x r.records;
            said = c.joined_rows ∙ (λ k. z k ++ (d.joined_rows ∙ (λ m. zx m ++ (eq ∙ (λ j. vx j ∷ r.said j)) m)) k);
          }

  unfoldable pub GoodRecords : ℕ → List Told → Type 0
  GoodRecords n xs = AllTold xs × (length xs ≤ n)

  pub records_good_into : (n : ℕ) (xs : List Told) → GoodRecords n xs → Whole ((records_from ws) n) (records_text xs) (map told_said xs) tt
  unfolding GoodRecords
  records_good_into n xs g = records_into n xs g.0 g.1

  pub records_told : (n : ℕ) (s : Octets) (rs : List Said) (a : Unit {0}) → Whole ((records_from ws) n) s rs a → (xs : List Told) × GoodRecords n xs × (s ≡ records_text xs) × (rs ≡ map told_said xs) × (a ≡ tt)
  unfolding GoodRecords
  records_told n s rs a w = let r = records_back n s rs w in (r.records, (r.good, r.few), r.is, r.said, refl)

  unfoldable pub tells_records : (n : ℕ) → Tells ((records_from ws) n)
  tells_records n = record {
    Data = List Told;
    text = records_text;
    rows = map told_said;
    value = λ _. tt;
    Good = GoodRecords n;
    into = records_good_into n;
    back = records_told n;
  }
