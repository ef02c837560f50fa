-- How many octets the program that reads a report takes at most, generously.
use mathlib.Core.Path.{◌≡◌, refl, sym, ap, ◌∙◌, subst}
use mathlib.Core.List.{List, [], ◌∷◌, ◌++◌}
use mathlib.Core.Bool.{Bool, true, false, ◌&&◌, ◌||◌, not, false≢true, and-false}
use Prim.Native.Nat.{ℕ, zero, suc, ◌+◌, ◌-◌, ◌*◌, ◌^◌, ◌<◌, ◌≤◌}
use Prim.Native.String.{String}
use native.Mathlib.Omega.{arith}
use lib.Dec.{eqb, leb, ltb}
use lib.ListN.{length}
use borrow.Author.Tests.{leb-true, eqb-true, eqb-false}
use Rattle.std.specs.Prelude.{if◌then◌else◌, Option, None, Some}
use Rattle.octets.specs.Octets.{Octets, octets, all, is_digit}
use Rattle.policy.specs.declared.Policy.{Policy}
use Rattle.rows.specs.Lists.{Reported}
use Rattle.parsing.specs.Reads.{Reads, done, give, next, ◌>>=◌, ◌>>◌, octet_where, exactly}
use Rattle.parsing_limit.specs.Limits.{Within}
use Rattle.report_form.specs.ReportForm.{Widths, widths, Said}
use Rattle.report_form.specs.code.ReportReading.{first_is, rest_of, chosen, one_word, reading_literal as literal, policy, mode, outcome, reading_entity as entity, text_octet, text_from}
use Rattle.report_form.specs.code.ReportReading.{text, id_from, id}
use Rattle.report_form.specs.code.ReportReading.{digit_refused, number_refused, digits_more, reading_number as number, name_from, name, dotted, grouped, either, Address, next_number}
use Rattle.report_form.specs.code.ReportReading.{ends_number, goes_on_dotted, goes_on_grouped, with_digit, source_of}
use Rattle.report_form.specs.code.ReportReading.{digits_from, address_from, reading_address as address, passed, applied, Disposition, disposition, only, fail_or_pass, dkim_after, spf_after}
use Rattle.report_form.specs.code.ReportReading.{signature, sender}
use Rattle.report_form.specs.code.ReportReading.{Item, dkim_item, spf_item, no_item, item, results_from, reading_row as row, records_from, extra_or_id, PolicyTag, sp_tag, np_tag, adkim_tag}
use Rattle.report_form.specs.code.ReportReading.{np_then, policies, report_by, reading_report}
use Rattle.std.proofs.lemmas.Option.{none-some}

-- ------------------------------------------------------------------ how programs are put together

within_more : {A : Type 0} (m n : ℕ) (t : Reads Said A) → m ≤ n → Within m t → Within n t
unfolding Within
within_more m n (done a) h w = tt
within_more m n (give r t) h w = within_more m n t h w
within_more zero n (next f k) h w = absurd w
within_more (suc m) zero (next f k) h w = absurd (omega (arith, h))
within_more (suc m) (suc n) (next f k) h w = λ x e. within_more m n (k x) (omega (arith, h)) (w x e)

within_bind : {A B : Type 0} (m n : ℕ) (t : Reads Said A) (f : A → Reads Said B) → Within m t → ((a : A) → Within n (f a)) → Within (m + n) (t >>= f)
unfolding Within ◌>>=◌
within_bind m n (done a) f w h = within_more n (m + n) (f a) (omega arith) (h a)
within_bind m n (give r t) f w h = within_bind m n t f w h
within_bind zero n (next g k) f w h = absurd w
within_bind (suc m) n (next g k) f w h =
    let same : suc (m + n) ≡ suc m + n = omega arith in
    subst (λ l. Within l (next g k >>= f)) same (λ x e. within_bind m n (k x) f (w x e) h)

within_then : {A B : Type 0} (m n : ℕ) (t : Reads Said A) (u : Reads Said B) → Within m t → Within n u → Within (m + n) (t >> u)
unfolding ◌>>◌
within_then m n t u w v = within_bind m n t (λ _. u) w (λ _. v)

within_done : {A : Type 0} (n : ℕ) (a : A) → Within {R = Said} n (done a)
unfolding Within
within_done n a = tt

within_where : {A : Type 0} (n : ℕ) (f : ℕ → Bool) (k : ℕ → Reads Said A) → ((x : ℕ) → Within n (k x)) → Within (suc n) (octet_where f k)
unfolding Within octet_where
within_where n f k h = λ x e. h x

within_elim : {A : Type 0} (n : ℕ) (c : Bool) (t u : Reads Said A) → Within n t → Within n u → Within {R = Said} {A = A} n (elim c as (λ _. Reads Said A) [ true ↦ t | false ↦ u ])
within_elim n true t u w v = w
within_elim n false t u w v = v

within_exactly : (s : Octets) → Within {R = Said} (length s) (exactly s)
unfolding exactly
within_exactly [] = within_done 0 tt
within_exactly (c ∷ s) = within_where (length s) (eqb c) (λ x. exactly s) (λ x. within_exactly s)

-- a literal of no more than 150 octets
within_literal : (s : String) → leb (length (octets s)) 150 ≡ true → Within {R = Said} 150 (literal s)
unfolding literal
within_literal s e = within_more (length (octets s)) 150 (exactly (octets s)) (leb-true (length (octets s)) 150 e) (within_exactly (octets s))

-- ------------------------------------------------------------------ words

within_rest : {A : Type 0} (s : Octets) (a : A) → leb (length s) 150 ≡ true → Within {R = Said} 150 (rest_of s a)
unfolding rest_of ◌>>◌
within_rest [] a e = within_done 150 a
within_rest (c ∷ s) a e =
    let few : length s + 0 ≤ 150 = (let h = leb-true (length (c ∷ s)) 150 e in omega (arith, h)) in
    within_more (length s + 0) 150 (exactly s >>= (λ _. done a)) few (within_bind (length s) 0 (exactly s) (λ _. done a) (within_exactly s) (λ _. within_done 0 a))

both : (a b : Bool) → (a && b) ≡ true → (a ≡ true) × (b ≡ true)
both true b e = (refl, e)
both false b e = absurd (false≢true e)

unfoldable short : {A : Type 0} → String × A → Bool
short w = leb (length (octets w.0)) 150

within_chosen : {A : Type 0} (x : ℕ) (w : String × A) (ws : List (String × A)) → (short w && all short ws) ≡ true → Within {R = Said} 150 (chosen x w ws)
unfolding chosen all short
within_chosen x w [] e = within_rest (octets w.0) w.1 (both (short w) true e).0
within_chosen x w (v ∷ ws) e =
    let (first, others) = both (short w) (short v && all short ws) e in
    within_elim 150 (first_is x (octets w.0)) (rest_of (octets w.0) w.1) (chosen x v ws) (within_rest (octets w.0) w.1 first) (within_chosen x v ws others)

within_word : {A : Type 0} (w : String × A) (ws : List (String × A)) → (short w && all short ws) ≡ true → Within {R = Said} 151 (one_word w ws)
unfolding one_word
within_word w ws e = within_where 150 _ (λ x. chosen x w ws) (λ x. within_chosen x w ws e)

-- ------------------------------------------------------------------ values

within_entity : Within {R = Said} 151 entity
unfolding entity short all octets
within_entity = within_word ("amp;", tt) (("lt;", tt) ∷ ("gt;", tt) ∷ []) refl

within_text : (n : ℕ) (some : Bool) → Within {R = Said} (1 + 152 * n) (text_from n some)
unfolding text_from
within_text zero some = within_where 0 (eqb 60) (λ x. done tt) (λ x. within_done 0 tt)
within_text (suc n) some =
    let same : suc (151 + (1 + 152 * n)) ≡ 1 + 152 * suc n = omega arith in
    subst (λ m. Within {R = Said} m (text_from (suc n) some)) same (within_where (151 + (1 + 152 * n)) (λ x. text_octet x || (some && eqb x 60)) _ (λ x.
    within_elim (151 + (1 + 152 * n)) (eqb x 60) (done tt) _ (within_done _ tt)
    (within_elim (151 + (1 + 152 * n)) (eqb x 38) (entity >> text_from n true) (text_from n true) (within_then 151 (1 + 152 * n) entity (text_from n true) within_entity (within_text n true))
    (within_more (1 + 152 * n) (151 + (1 + 152 * n)) (text_from n true) (omega arith) (within_text n true)))))

within_id : (n : ℕ) (some : Bool) → Within {R = Said} (suc n) (id_from n some)
unfolding id_from
within_id zero some = within_where 0 (eqb 60) (λ x. done tt) (λ x. within_done 0 tt)
within_id (suc n) some = within_where (suc n) _ _ (λ x. within_elim (suc n) (eqb x 60) (done tt) (id_from n true) (within_done (suc n) tt) (within_id n true))

within_name_from : (n label : ℕ) (s : Octets) → Within {R = Said} (suc n) (name_from n label s)
unfolding name_from
within_name_from zero label s = within_where 0 _ (λ x. done s) (λ x. within_done 0 s)
within_name_from (suc n) label s = within_where (suc n) _ _ (λ x. within_elim (suc n) (eqb x 60) (done s) _ (within_done (suc n) s)
    (within_elim (suc n) (eqb x 46) (name_from n 0 (s ++ (x ∷ []))) (name_from n (suc label) (s ++ (x ∷ []))) (within_name_from n 0 (s ++ (x ∷ []))) (within_name_from n (suc label) (s ++ (x ∷ [])))))

-- ------------------------------------------------------------------ numbers

-- with so many digits more a number is over its width
unfoldable over : ℕ → ℕ → ℕ → Type 0
over zero v most = most < v
over (suc k) v most = over k (v * 10) most

over_more : (k v w most : ℕ) → v ≤ w → over k v most → over k w most
unfolding over
over_more zero v w most h o = omega (arith, h, o)
over_more (suc k) v w most h o = over_more k (v * 10) (w * 10) most (omega (arith, h)) o

split : (a b : Bool) → ◌≡◌ {A = Option ℕ} (if a then (if b then None else Some 21) else Some 20) None → (a ≡ true) × (b ≡ true)
split true true e = (refl, refl)
split true false e = absurd (none-some 21 (sym e))
split false b e = absurd (none-some 20 (sym e))

module _ (least most : ℕ) (ends : ℕ → Bool) where
  taken_digit : (value : ℕ) (some : Bool) (x : ℕ) → eqb x 60 ≡ false → number_refused least most ends value some x ≡ None
      → (not (some && eqb value 0) ≡ true) × (leb (value * 10 + (x - 48)) most ≡ true)
  unfolding number_refused digit_refused
  taken_digit value some x q e =
      let (a, b) = split (is_digit x && not (some && eqb value 0) && (some || leb least (x - 48))) (leb (value * 10 + (x - 48)) most) (rw q at e) in
      ((both (is_digit x) (not (some && eqb value 0)) (both (is_digit x && not (some && eqb value 0)) (some || leb least (x - 48)) a).0).1, b)

  abbrev more : (n value x : ℕ) → Bool → Reads Said ℕ
  more n value x b = elim b as (λ _. Reads Said ℕ) [ true ↦ done value | false ↦ digits_more n least most ends (value * 10 + (x - 48)) true ]

  within_digits : (k n value : ℕ) → over k value most → Within {R = Said} (suc k) (digits_more n least most ends value true)
  unfolding Within digits_more over
  within_digits k zero value o = λ x e. tt
  within_digits zero (suc n) value o = λ x e. go x e (eqb x 60) refl
    where
      go : (x : ℕ) → number_refused least most ends value true x ≡ None → (b : Bool) → eqb x 60 ≡ b → Within 0 (more n value x b)
      go x e true q = tt
      go x e false q = absurd (omega (arith, o, leb-true (value * 10 + (x - 48)) most (taken_digit value true x q e).1))
  within_digits (suc k) (suc n) value o = λ x e. go x e (eqb x 60) refl (within_digits k n (value * 10 + (x - 48)) (over_more k (value * 10) (value * 10 + (x - 48)) most (omega arith) o))
    where
      go : (x : ℕ) → number_refused least most ends value true x ≡ None → (b : Bool) → eqb x 60 ≡ b
          → Within {R = Said} (suc k) (digits_more n least most ends (value * 10 + (x - 48)) true) → Within (suc k) (more n value x b)
      go x e true q w = tt
      go x e false q w = w

  within_zero : (n value : ℕ) → eqb value 0 ≡ true → Within {R = Said} 1 (digits_more n least most ends value true)
  unfolding Within digits_more
  within_zero zero value z = λ x e. tt
  within_zero (suc n) value z = λ x e. go x e (eqb x 60) refl
    where
      go : (x : ℕ) → number_refused least most ends value true x ≡ None → (b : Bool) → eqb x 60 ≡ b → Within 0 (more n value x b)
      go x e true q = tt
      go x e false q = let no : false ≡ true = (rw z at (taken_digit value true x q e).0) in absurd (false≢true no)

  within_number : over 20 1 most → Within {R = Said} 22 (number least most ends)
  unfolding Within number digits_more
  within_number o = λ x e. first x (eqb x 60)
    where
      first : (x : ℕ) (b : Bool) → Within 21 (more most 0 x b)
      first x true = tt
      first x false = by (0 * 10 + (x - 48)) (eqb (0 * 10 + (x - 48)) 0) refl
        where
          by : (v : ℕ) (c : Bool) → eqb v 0 ≡ c → Within {R = Said} 21 (digits_more most least most ends v true)
          by v true z = within_more 1 21 (digits_more most least most ends v true) (omega arith) (within_zero most v z)
          by v false z = within_digits 20 most v (over_more 20 1 v most (let no = eqb-false v 0 z in omega (arith, no)) o)

over_times : over 20 1 (2 ^ 64 - 1)
unfolding over
over_times = omega arith

over_counts : over 20 1 (2 ^ 32 - 1)
unfolding over
over_counts = omega arith

-- ------------------------------------------------------------------ addresses

module _ (m : ℕ) (part : Address → ℕ → Reads Said Octets) (within_part : (b : Address) (x : ℕ) → Within m (part b x)) where
  within_digits_from : (n : ℕ) (a : Address) → Within (suc n + m) (digits_from n part a)
  unfolding digits_from
  within_digits_from zero a =
      let same : suc m ≡ 1 + m = omega arith in
      subst (λ k. Within k (digits_from 0 part a)) same (within_where m (ends_number a) (λ x. elim (eqb x 60) [ true ↦ done (source_of a) | false ↦ part a x ]) (λ x.
      within_elim m (eqb x 60) (done (source_of a)) (part a x) (within_done m (source_of a)) (within_part a x)))
  within_digits_from (suc n) a =
      let same : suc (suc n + m) ≡ suc (suc n) + m = omega arith in
      subst (λ k. Within k (digits_from (suc n) part a)) same (within_where (suc n + m) (λ x. ends_number a x || goes_on_dotted a x || goes_on_grouped a x) _ (λ x.
      within_elim (suc n + m) (eqb x 60) (done (source_of a)) _ (within_done (suc n + m) (source_of a))
      (within_elim (suc n + m) (ends_number a x) (part a x) (digits_from n part (with_digit a x))
      (within_more m (suc n + m) (part a x) (omega arith) (within_part a x)) (within_digits_from n (with_digit a x)))))

within_address_from : (n : ℕ) (a : Address) → Within {R = Said} (5 * suc n) (address_from n a)
unfolding address_from
within_address_from zero a = within_digits_from 0 (λ b x. done []) (λ b x. within_done 0 []) 4 a
within_address_from (suc n) a =
    let same : 5 + 5 * suc n ≡ 5 * suc (suc n) = omega arith in
    subst (λ k. Within {R = Said} k (address_from (suc n) a)) same (within_digits_from (5 * suc n) _ (λ b x.
    within_elim (5 * suc n) (eqb x 46) (address_from n (next_number dotted (b.before ++ (b.ten ∷ [])))) (address_from n (next_number grouped (b.before ++ (b.sixteen ∷ []))))
    (within_address_from n (next_number dotted (b.before ++ (b.ten ∷ [])))) (within_address_from n (next_number grouped (b.before ++ (b.sixteen ∷ []))))) 4 a)

within_address : Within {R = Said} 40 address
unfolding address
within_address = within_address_from 7 (next_number either [])

within_name : Within {R = Said} 254 name
unfolding name
within_name = within_name_from 253 0 []

-- ------------------------------------------------------------------ a record

module _ where
  within_outcome : Within {R = Said} 151 outcome
  unfolding outcome short all octets
  within_outcome = within_word _ _ refl

  within_policy : Within {R = Said} 151 policy
  unfolding policy short all octets
  within_policy = within_word _ _ refl

  within_mode : Within {R = Said} 151 mode
  unfolding mode short all octets
  within_mode = within_word _ _ refl

  within_disposition : Within {R = Said} 151 disposition
  unfolding disposition short all octets
  within_disposition = within_word _ _ refl

  within_fail_or_pass : Within {R = Said} 151 fail_or_pass
  unfolding fail_or_pass short all octets
  within_fail_or_pass = within_word _ _ refl

  within_item : Within {R = Said} 151 item
  unfolding item short all octets
  within_item = within_word _ _ refl

within_only : (word : String) (aligned : Bool) → leb (length (octets word)) 150 ≡ true → Within {R = Said} 151 (only word aligned)
unfolding only
within_only word aligned e = within_then 150 1 (literal word) (done aligned) (within_literal word e) (within_done 1 aligned)

within_dkim : (d : Disposition) → Within {R = Said} 151 (dkim_after d)
unfolding dkim_after octets
within_dkim passed = within_fail_or_pass
within_dkim (applied Policy.None) = within_only "fail" false refl
within_dkim (applied Policy.Quarantine) = within_fail_or_pass
within_dkim (applied Policy.Reject) = within_fail_or_pass

within_spf : (d : Disposition) (dkim : Bool) → Within {R = Said} 151 (spf_after d dkim)
unfolding spf_after octets
within_spf passed true = within_fail_or_pass
within_spf passed false = within_only "pass" true refl
within_spf (applied Policy.None) dkim = within_only "fail" false refl
within_spf (applied Policy.Quarantine) dkim = within_fail_or_pass
within_spf (applied Policy.Reject) dkim = within_fail_or_pass

within_signature : Within {R = Said} 1260 signature
unfolding signature octets
within_signature =
    within_then 150 1110 _ _ (within_literal "<domain>" refl) (within_bind 254 856 _ _ within_name (λ d.
    within_then 150 706 _ _ (within_literal "/domain><selector>" refl) (within_bind 254 452 _ _ within_name (λ s.
    within_then 150 302 _ _ (within_literal "/selector><result>" refl) (within_bind 151 151 _ _ within_outcome (λ o.
    within_then 150 1 _ _ (within_literal "</result></dkim>" refl) (within_done 1 _)))))))

within_sender : Within {R = Said} 856 sender
unfolding sender octets
within_sender =
    within_then 150 706 _ _ (within_literal "<domain>" refl) (within_bind 254 452 _ _ within_name (λ d.
    within_then 150 302 _ _ (within_literal "/domain><result>" refl) (within_bind 151 151 _ _ within_outcome (λ o.
    within_then 150 1 _ _ (within_literal "</result></spf></auth_results>" refl) (within_done 1 _)))))

within_results : (n : ℕ) (so_far : List Reported) → Within {R = Said} (151 + 1561 * n) (results_from n so_far)
unfolding results_from octets
within_results zero so_far = within_then 150 1 _ _ (within_literal "</auth_results>" refl) (within_done 1 _)
within_results (suc n) so_far =
    let same : 301 + (1260 + (151 + 1561 * n)) ≡ 151 + 1561 * suc n = omega arith in
    subst (λ k. Within {R = Said} k (results_from (suc n) so_far)) same (within_bind 301 (1260 + (151 + 1561 * n)) (literal "<" >> item) _
    (within_then 150 151 _ _ (within_literal "<" refl) within_item) (λ i. go i (within_results n)))
  where
    go : (i : Item) → ((l : List Reported) → Within {R = Said} (151 + 1561 * n) (results_from n l))
        → Within {R = Said} {A = List Reported} (1260 + (151 + 1561 * n)) (elim i as (λ _. Reads Said (List Reported)) [
          | dkim_item ↦ signature >>= λ s. results_from n (so_far ++ (s ∷ []))
          | spf_item ↦ sender >>= λ s. done (so_far ++ (s ∷ []))
          | no_item ↦ done so_far
        ])
    go dkim_item h = within_bind 1260 (151 + 1561 * n) _ _ within_signature (λ s. h (so_far ++ (s ∷ [])))
    go spf_item h = within_more (856 + 0) (1260 + (151 + 1561 * n)) _ (omega arith) (within_bind 856 0 _ _ within_sender (λ s. within_done 0 _))
    go no_item h = within_done _ _

-- ------------------------------------------------------------------ records, and the report

within_row : Within {R = Said} 30000 (row widths)
unfolding row octets
within_row =
    within_then 150 29850 _ _ (within_literal "<row><source_ip>" refl) (within_bind 40 29810 _ _ within_address (λ a.
    within_then 150 29660 _ _ (within_literal "/source_ip><count>" refl) (within_bind 22 29638 _ _ (within_number 1 widths.counts (λ n. true) over_counts) (λ c.
    within_then 150 29488 _ _ (within_literal "/count><policy_evaluated><disposition>" refl) (within_bind 151 29337 _ _ within_disposition (λ d.
    within_then 150 29187 _ _ (within_literal "</disposition><dkim>" refl) (within_bind 151 29036 _ _ (within_dkim d) (λ k.
    within_then 150 28886 _ _ (within_literal "</dkim><spf>" refl) (within_bind 151 28735 _ _ (within_spf d k) (λ s.
    within_then 150 28585 _ _ (within_literal "</spf></policy_evaluated></row><identifiers><header_from>" refl) (within_bind 254 28331 _ _ within_name (λ f.
    within_then 150 28181 _ _ (within_literal "/header_from></identifiers><auth_results>" refl) (within_bind 25127 3054 _ _ (within_results 16 []) (λ r.
    within_then 150 2904 _ _ (within_literal "</record>" refl) (within_done 2904 _)))))))))))))))

within_give : {A : Type 0} (n : ℕ) (r : Said) (t : Reads Said A) → Within n t → Within n (give r t)
unfolding Within
within_give n r t w = w

within_records : (n : ℕ) → Within (150 + 30301 * n) (records_from widths n)
unfolding records_from octets short all
within_records zero = within_literal "</feedback>" refl
within_records (suc n) =
    let same : 301 + (30000 + (150 + 30301 * n)) ≡ 150 + 30301 * suc n = omega arith in
    subst (λ k. Within k (records_from widths (suc n))) same (within_bind 301 (30000 + (150 + 30301 * n)) (literal "<" >> one_word ("record>", true) (("/feedback>", false) ∷ [])) _
    (within_then 150 151 _ _ (within_literal "<" refl) (within_word ("record>", true) (("/feedback>", false) ∷ []) refl)) (λ more.
    within_elim (30000 + (150 + 30301 * n)) more (row widths >>= (λ r. give r (records_from widths n))) (done tt)
    (within_bind 30000 (150 + 30301 * n) _ _ within_row (λ r. within_give (150 + 30301 * n) r (records_from widths n) (within_records n))) (within_done _ tt)))

within_extra : Within {R = Said} 1000000 extra_or_id
unfolding extra_or_id text octets short all
within_extra = within_bind 151 999849 _ _ (within_word ("extra_contact_info>", true) (("report_id>", false) ∷ []) refl) (λ extra.
    within_elim 999849 extra (text_from 4096 false >> literal "/extra_contact_info><report_id>") (done tt)
    (within_then 622593 377256 _ _ (within_text 4096 false) (within_more 150 377256 _ (omega arith) (within_literal "/extra_contact_info><report_id>" refl))) (within_done _ tt))

within_np : Within {R = Said} 301 np_then
unfolding np_then octets
within_np = within_then 151 150 _ _ within_policy (within_literal "</np><adkim>" refl)

within_policies : Within {R = Said} 1000 policies
unfolding policies octets short all
within_policies = within_bind 151 849 _ _ (within_word ("sp>", sp_tag) (("np>", np_tag) ∷ ("adkim>", adkim_tag) ∷ []) refl) (λ tag. go tag)
  where
    go : (tag : PolicyTag) → Within {R = Said} {A = Unit {0}} 849 (elim tag as (λ _. Reads Said (Unit {0})) [
      | sp_tag ↦ policy >> literal "</sp><" >> one_word ("np>", true) (("adkim>", false) ∷ []) >>= (λ n. elim n [ true ↦ np_then | false ↦ done tt ])
      | np_tag ↦ np_then
      | adkim_tag ↦ done tt
    ])
    go sp_tag = within_bind 452 397 _ _ (within_then 301 151 _ _ (within_then 151 150 _ _ within_policy (within_literal "</sp><" refl)) (within_word ("np>", true) (("adkim>", false) ∷ []) refl)) (λ n.
        within_elim 397 n np_then (done tt) (within_more 301 397 np_then (omega arith) within_np) (within_done 397 tt))
    go np_tag = within_more 301 849 np_then (omega arith) within_np
    go adkim_tag = within_done 849 tt

pub within_report : Within 20000000 reading_report
unfolding reading_report report_by text id octets short all
within_report =
    within_then 150 19999850 _ _ (within_literal _ refl) (
    within_then 622593 19377257 _ _ (within_text 4096 false) (
    within_then 150 19377107 _ _ (within_literal "/org_name><email>" refl) (
    within_then 622593 18754514 _ _ (within_text 4096 false) (
    within_then 150 18754364 _ _ (within_literal "/email><" refl) (
    within_then 1000000 17754364 _ _ within_extra (
    within_then 65 17754299 _ _ (within_id 64 false) (
    within_then 150 17754149 _ _ (within_literal "/report_id><date_range><begin>" refl) (
    within_bind 22 17754127 _ _ (within_number 0 widths.times (λ n. true) over_times) (λ b.
    within_then 150 17753977 _ _ (within_literal "/begin><end>" refl) (
    within_bind 22 17753955 _ _ (within_number 0 widths.times (leb b) over_times) (λ e.
    within_then 150 17753805 _ _ (within_literal "/end></date_range></report_metadata><policy_published><domain>" refl) (
    within_bind 254 17753551 _ _ within_name (λ d.
    within_then 150 17753401 _ _ (within_literal "/domain><p>" refl) (
    within_bind 151 17753250 _ _ within_policy (λ p.
    within_then 150 17753100 _ _ (within_literal "</p><" refl) (
    within_then 1000 17752100 _ _ within_policies (
    within_bind 151 17751949 _ _ within_mode (λ m.
    within_then 150 17751799 _ _ (within_literal "</adkim><aspf>" refl) (
    within_bind 151 17751648 _ _ within_mode (λ a.
    within_then 150 17751498 _ _ (within_literal "</aspf><testing>" refl) (
    within_bind 151 17751347 _ _ (within_word ("n", false) (("y", true) ∷ []) refl) (λ t.
    within_then 150 17751197 _ _ (within_literal "</testing></policy_published><record>" refl) (
    within_bind 30000 17721197 _ _ within_row (λ r.
    within_more 7726905 17721197 _ (omega arith) (within_give 7726905 r (records_from widths 255) (within_records 255))))))))))))))))))))))))))

pub report_bound : (n : ℕ) → 20000000 ≤ n → Within n reading_report
report_bound n h = within_more 20000000 n reading_report h within_report
