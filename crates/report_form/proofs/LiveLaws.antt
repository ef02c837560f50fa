-- The form, begin and end judged apart, is a live program: every octet that it takes leads on to a whole text.
use mathlib.Core.Path.{◌≡◌, refl, sym, ◌∙◌, subst}
use mathlib.Core.List.{List, [], ◌∷◌, ◌++◌}
use mathlib.Core.Logic.{◌⊎◌, inl, inr}
use mathlib.Core.Bool.{Bool, true, false, ◌&&◌, ◌||◌, false≢true, and-false, or-false}
use Prim.Native.Nat.{ℕ, zero, suc, ◌+◌, ◌-◌, ◌*◌, ◌<◌, ◌≤◌}
use Prim.Native.String.{String}
use native.Mathlib.Omega.{arith}
use lib.Dec.{eqb, ltb}
use lib.ListN.{length, length-append}
use borrow.Author.Tests.{le-leb, eq-eqb, eqb-true, ltb-true, ltb-false, lt-ltb}
use Rattle.std.specs.Prelude.{if◌then◌else◌, Option, None, Some}
use Rattle.octets.specs.Octets.{Octets, octets, between, is_letter, is_digit, one_of, any}
use Rattle.domain.specs.Domain.{domain_octet}
use Rattle.reporting.specs.FileName.{alphanumeric}
use Rattle.policy.specs.declared.Policy.{Policy}
use Rattle.rows.specs.Lists.{Reported}
use Rattle.parsing.specs.Reads.{Reads, done, give, next, ◌>>=◌, ◌>>◌, octet_where, exactly}
use Rattle.parsing.specs.code.Whole.{Live}
use Rattle.report_form.specs.ReportForm.{Widths, Said}
use Rattle.report_form.specs.code.ReportReading.{first_is as starts, rest_of, among, chosen, one_word, reading_literal as literal, policy, mode, outcome, text_octet, reading_entity as entity, text_from, text, id_from, id, digit_refused, number_refused, digits_more as number_from, reading_number as number, spelled_octet, name_allows, name_from, name, Kind, either, dotted, grouped, can_be_dotted, can_be_grouped, Address, digit_value, lower_hex as hex_digit, only_zero, goes_on_dotted, goes_on_grouped, last_number, is_last, ends_number, with_digit, next_number, source_of, digits_from, address_from, reading_address as address, passed, applied, Disposition, disposition, only, fail_or_pass, dkim_after, spf_after, signature, sender, Item, dkim_item, spf_item, no_item, item, results_from, reading_row as row, records_from, extra_or_id, PolicyTag as Tag, sp_tag, np_tag, adkim_tag, np_then, policies, report_by, apart}
use Rattle.std.proofs.lemmas.Option.{none-some}

-- ------------------------------------------------------------------ how programs are put together

live_bind : {A B : Type 0} (t : Reads Said A) (f : A → Reads Said B) → Live t → ((a : A) → Live (f a)) → Live (t >>= f)
unfolding Live ◌>>=◌
live_bind (done a) f l h = h a
live_bind (give r t) f l h = live_bind t f l h
live_bind (next refuses k) f l h = (l.0, λ x e. live_bind (k x) f (l.1 x e) h)

live_then : {A B : Type 0} (t : Reads Said A) (u : Reads Said B) → Live t → Live u → Live (t >> u)
unfolding ◌>>◌
live_then t u l m = live_bind t (λ _. u) l (λ _. m)

live_done : {A : Type 0} (a : A) → Live {R = Said} (done a)
unfolding Live
live_done a = tt

-- an octet passes the test, and whichever does leads on
live_where : {A : Type 0} (f : ℕ → Bool) (k : ℕ → Reads Said A) (x : ℕ) → f x ≡ true → ((y : ℕ) → f y ≡ true → Live (k y)) → Live (octet_where f k)
unfolding Live octet_where
live_where f k x e h = ((x, rw e), λ y g. h y (passes y (f y) refl g))
  where
    passes : (y : ℕ) (c : Bool) → f y ≡ c → ◌≡◌ {A = Option ℕ} (if f y then None else Some 20) None → f y ≡ true
    passes y true i g = i
    passes y false i g = let j : ◌≡◌ {A = Option ℕ} (Some 20) None = rw i at g in absurd (none-some 20 (sym j))

live_elim : {A : Type 0} (c : Bool) (t u : Reads Said A) → (c ≡ true → Live t) → (c ≡ false → Live u) → Live {R = Said} {A = A} (elim c as (λ _. Reads Said A) [ true ↦ t | false ↦ u ])
live_elim true t u h i = h refl
live_elim false t u h i = i refl

live_exactly : (s : Octets) → Live {R = Said} (exactly s)
unfolding exactly
live_exactly [] = live_done tt
live_exactly (c ∷ s) = live_where (eqb c) (λ x. exactly s) c (eq-eqb c c refl) (λ y e. live_exactly s)

live_literal : (s : String) → Live {R = Said} (literal s)
unfolding literal
live_literal s = live_exactly (octets s)

-- ------------------------------------------------------------------ words

live_rest : {A : Type 0} (s : Octets) (a : A) → Live {R = Said} (rest_of s a)
unfolding rest_of
live_rest [] a = live_done a
live_rest (c ∷ s) a = live_then (exactly s) (done a) (live_exactly s) (live_done a)

live_chosen : {A : Type 0} (x : ℕ) (w : String × A) (ws : List (String × A)) → Live {R = Said} (chosen x w ws)
unfolding chosen
live_chosen x w [] = live_rest (octets w.0) w.1
live_chosen x w (v ∷ ws) = go (starts x (octets w.0)) refl (live_chosen x v ws)
  where
    go : (c : Bool) → starts x (octets w.0) ≡ c → Live {R = Said} (chosen x v ws) → Live {R = Said} (chosen x w (v ∷ ws))
    go true e l = rw (e, chosen) (live_rest (octets w.0) w.1)
    go false e l = rw (e, chosen) l

-- where some octet begins one
live_word : {A : Type 0} (w : String × A) (ws : List (String × A)) (x : ℕ) → among x (w ∷ ws) ≡ true → Live {R = Said} (one_word w ws)
unfolding one_word
live_word w ws x e = live_where (λ x. among x (w ∷ ws)) (λ x. chosen x w ws) x e (λ y f. live_chosen y w ws)

-- ------------------------------------------------------------------ values

live_entity : Live {R = Said} entity
unfolding entity among starts octets
live_entity = live_word ("amp;", tt) (("lt;", tt) ∷ ("gt;", tt) ∷ []) 97 refl

live_text_from : (n : ℕ) (some : Bool) → Live {R = Said} (text_from n some)
unfolding text_from text_octet between one_of any octets
live_text_from zero some = live_where (eqb 60) (λ x. done tt) 60 refl (λ y e. live_done tt)
live_text_from (suc n) some = live_where _ _ 97 refl (λ y e.
    live_elim (eqb y 60) _ _ (λ f. live_done tt) (λ f.
    live_elim (eqb y 38) _ _ (λ g. live_then entity (text_from n true) live_entity (live_text_from n true)) (λ g. live_text_from n true)))

live_id_from : (n : ℕ) (some : Bool) → Live {R = Said} (id_from n some)
unfolding id_from alphanumeric is_letter is_digit between
live_id_from zero some = live_where (eqb 60) (λ x. done tt) 60 refl (λ y e. live_done tt)
live_id_from (suc n) some = live_where _ _ 97 refl (λ y e. live_elim (eqb y 60) _ _ (λ f. live_done tt) (λ f. live_id_from n true))

-- a number that has a digit can end
live_digits : (n least most value : ℕ) → Live {R = Said} (number_from n least most (λ m. true) value true)
unfolding number_from number_refused Live
live_digits zero least most value = ((60, refl), λ y e. tt)
live_digits (suc n) least most value = ((60, refl), λ y e. live_elim (eqb y 60) _ _ (λ f. live_done value) (λ f. live_digits n least most (value * 10 + (y - 48))))

-- and one that has none can take a 1
live_number : (least most : ℕ) → number_refused least most (λ m. true) 0 false 49 ≡ None → Live {R = Said} (number least most (λ m. true))
unfolding number number_from Live
live_number least most e = ((49, e), λ y f. live_elim (eqb y 60) _ _ (λ g. live_done {A = ℕ} 0) (λ g. live_digits most least most (0 * 10 + (y - 48))))

-- a name can end behind an octet of its label, and go on where there is room
name_ends : (room label : ℕ) → 0 < label → name_allows room label 60 ≡ true
unfolding name_allows
name_ends room label h = lt-ltb 0 label h

name_goes_on : (room label : ℕ) → label < 63 → 0 < room → name_allows room label 97 ≡ true
unfolding name_allows spelled_octet domain_octet is_letter between
name_goes_on room label h i = rw (lt-ltb label 63 h, lt-ltb 0 room i)

both_true : (a b : Bool) → (a && b) ≡ true → (a ≡ true) × (b ≡ true)
both_true true b e = (refl, e)
both_true false b e = absurd (false≢true e)

room_behind_dot : (n label y : ℕ) → name_allows (suc n) label y ≡ true → eqb y 60 ≡ false → eqb y 46 ≡ true → 0 < n
unfolding name_allows
room_behind_dot n label y e f g =
    let h : (ltb 0 label && ltb 1 (suc n)) ≡ true = rw (f, g) at e in
    omega (arith, ltb-true 1 (suc n) (both_true (ltb 0 label) (ltb 1 (suc n)) h).1)

live_name_from : (room label : ℕ) (so_far : Octets) → (0 < label) ⊎ (0 < room) → Live {R = Said} (name_from room label so_far)
unfolding name_from
live_name_from zero zero so_far (inl h) = absurd (omega (arith, h))
live_name_from zero zero so_far (inr h) = absurd (omega (arith, h))
live_name_from zero (suc label) so_far h = live_where (name_allows 0 (suc label)) (λ x. done so_far) 60 (name_ends 0 (suc label) (omega arith)) (λ y e. live_done so_far)
live_name_from (suc n) zero so_far h = live_where (name_allows (suc n) 0) _ 97 (name_goes_on (suc n) 0 (omega arith) (omega arith)) (λ y e.
    live_elim (eqb y 60) _ _ (λ f. live_done so_far) (λ f.
    live_elim (eqb y 46) _ _ (λ g. live_name_from n 0 (so_far ++ (y ∷ [])) (inr (room_behind_dot n 0 y e f g))) (λ g. live_name_from n 1 (so_far ++ (y ∷ [])) (inl (omega arith)))))
live_name_from (suc n) (suc label) so_far h = live_where (name_allows (suc n) (suc label)) _ 60 (name_ends (suc n) (suc label) (omega arith)) (λ y e.
    live_elim (eqb y 60) _ _ (λ f. live_done so_far) (λ f.
    live_elim (eqb y 46) _ _ (λ g. live_name_from n 0 (so_far ++ (y ∷ [])) (inr (room_behind_dot n (suc label) y e f g))) (λ g. live_name_from n (suc (suc label)) (so_far ++ (y ∷ [])) (inl (omega arith)))))

live_name : Live {R = Said} name
unfolding name
live_name = live_name_from 253 0 [] (inr (omega arith))

-- ------------------------------------------------------------------ words

live_policy : Live {R = Said} policy
unfolding policy among starts octets
live_policy = live_word ("none", Policy.None) (("quarantine", Policy.Quarantine) ∷ ("reject", Policy.Reject) ∷ []) 110 refl

live_mode : Live {R = Said} mode
unfolding mode among starts octets
live_mode = live_word _ _ 114 refl

live_outcome : Live {R = Said} outcome
unfolding outcome among starts octets
live_outcome = live_word _ _ 102 refl

live_disposition : Live {R = Said} disposition
unfolding disposition among starts octets
live_disposition = live_word _ _ 112 refl

live_either : Live {R = Said} fail_or_pass
unfolding fail_or_pass among starts octets
live_either = live_word _ _ 102 refl

live_only : (word : String) (aligned : Bool) → Live {R = Said} (only word aligned)
unfolding only
live_only word aligned = live_then (literal word) (done aligned) (live_literal word) (live_done aligned)

live_dkim : (d : Disposition) → Live {R = Said} (dkim_after d)
unfolding dkim_after
live_dkim passed = live_either
live_dkim (applied Policy.None) = live_only "fail" false
live_dkim (applied Policy.Quarantine) = live_either
live_dkim (applied Policy.Reject) = live_either

live_spf : (d : Disposition) (dkim : Bool) → Live {R = Said} (spf_after d dkim)
unfolding spf_after
live_spf passed true = live_either
live_spf passed false = live_only "pass" true
live_spf (applied Policy.None) dkim = live_only "fail" false
live_spf (applied Policy.Quarantine) dkim = live_either
live_spf (applied Policy.Reject) dkim = live_either

live_item : Live {R = Said} item
unfolding item among starts octets
live_item = live_word _ _ 100 refl

live_signature : Live {R = Said} signature
unfolding signature
live_signature =
    live_then _ _ (live_literal "<domain>") (live_bind _ _ live_name (λ d.
    live_then _ _ (live_literal "/domain><selector>") (live_bind _ _ live_name (λ s.
    live_then _ _ (live_literal "/selector><result>") (live_bind _ _ live_outcome (λ o.
    live_then _ _ (live_literal "</result></dkim>") (live_done _)))))))

live_sender : Live {R = Said} sender
unfolding sender
live_sender =
    live_then _ _ (live_literal "<domain>") (live_bind _ _ live_name (λ d.
    live_then _ _ (live_literal "/domain><result>") (live_bind _ _ live_outcome (λ o.
    live_then _ _ (live_literal "</result></spf></auth_results>") (live_done _)))))

live_results : (n : ℕ) (so_far : List Reported) → Live {R = Said} (results_from n so_far)
unfolding results_from
live_results zero so_far = live_then _ _ (live_literal "</auth_results>") (live_done _)
live_results (suc n) so_far = live_bind _ _ (live_then _ _ (live_literal "<") live_item) (λ i. go i (live_results n))
  where
    go : (i : Item) → ((l : List Reported) → Live {R = Said} (results_from n l)) → Live {R = Said} {A = List Reported} (elim i as (λ _. Reads Said (List Reported)) [
      | dkim_item ↦ signature >>= λ s. results_from n (so_far ++ (s ∷ []))
      | spf_item ↦ sender >>= λ s. done (so_far ++ (s ∷ []))
      | no_item ↦ done so_far
    ])
    go dkim_item h = live_bind _ _ live_signature (λ s. h (so_far ++ (s ∷ [])))
    go spf_item h = live_bind _ _ live_sender (λ s. live_done _)
    go no_item h = live_done _

-- ------------------------------------------------------------------ addresses

abbrev IsDotted : Kind → Type 0
IsDotted either = ⊥
IsDotted dotted = Unit
IsDotted grouped = ⊥

abbrev IsEither : Kind → Type 0
IsEither either = Unit
IsEither dotted = ⊥
IsEither grouped = ⊥

-- an open address with so many numbers to come behind the open one
record Open (a : Address) (left : ℕ) : Type 0 where
  size : length a.before + left ≡ 7
  few : IsDotted a.kind → length a.before ≤ 3
  start : IsEither a.kind → length a.before ≡ 0
  fresh : a.digits ≡ 0 → (a.ten ≡ 0) × (a.sixteen ≡ 0)

either_true : (a b : Bool) → (a || b) ≡ true → (a ≡ true) ⊎ (b ≡ true)
either_true true b e = inl refl
either_true false b e = inr e

module _ (a : Address) where
  pub end_colon : 0 < a.digits → can_be_grouped a.kind ≡ true → length a.before < 7 → ends_number a 58 ≡ true
  unfolding ends_number
  end_colon h c l = rw (lt-ltb 0 a.digits h, c, lt-ltb (length a.before) 7 l)

  pub end_dot : 0 < a.digits → can_be_dotted a.kind ≡ true → length a.before < 3 → ends_number a 46 ≡ true
  unfolding ends_number
  end_dot h c l = rw (lt-ltb 0 a.digits h, c, lt-ltb (length a.before) 3 l)

  pub end_whole : 0 < a.digits → is_last a.kind (length a.before) ≡ true → ends_number a 60 ≡ true
  unfolding ends_number
  end_whole h l = rw (lt-ltb 0 a.digits h, l)

  -- a number with a digit can end
  can_end : (left : ℕ) → Open a left → 0 < a.digits → (x : ℕ) × (ends_number a x ≡ true)
  unfolding can_be_dotted can_be_grouped is_last last_number
  can_end left o h = go a.kind refl
    where
      go : (k : Kind) → a.kind ≡ k → (x : ℕ) × (ends_number a x ≡ true)
      go either e = (58, end_colon h (rw e) (omega (arith, o.start (subst IsEither (sym e) tt))))
      go dotted e = by (ltb (length a.before) 3) refl
        where
          by : (c : Bool) → ltb (length a.before) 3 ≡ c → (x : ℕ) × (ends_number a x ≡ true)
          by true f = (46, end_dot h (rw e) (ltb-true (length a.before) 3 f))
          by false f = (60, end_whole h (rw e (eq-eqb (length a.before) 3 (omega (arith, ltb-false (length a.before) 3 f, o.few (subst IsDotted (sym e) tt))))))
      go grouped e = by (ltb (length a.before) 7) refl
        where
          by : (c : Bool) → ltb (length a.before) 7 ≡ c → (x : ℕ) × (ends_number a x ≡ true)
          by true f = (58, end_colon h (rw e) (ltb-true (length a.before) 7 f))
          by false f = (60, end_whole h (rw e (eq-eqb (length a.before) 7 (omega (arith, ltb-false (length a.before) 7 f, o.size)))))

  -- one without can take a 1
  can_begin : (left : ℕ) → Open a left → a.digits ≡ 0 → (ends_number a 49 || goes_on_dotted a 49 || goes_on_grouped a 49) ≡ true
  unfolding ends_number goes_on_dotted goes_on_grouped can_be_dotted can_be_grouped only_zero digit_value hex_digit is_digit between
  can_begin left o e = go a.kind refl
    where
      go : (k : Kind) → a.kind ≡ k → (ends_number a 49 || goes_on_dotted a 49 || goes_on_grouped a 49) ≡ true
      go either f = rw (e, (o.fresh e).0, f)
      go dotted f = rw (e, (o.fresh e).0, f)
      go grouped f = rw (e, (o.fresh e).1, f, and-false)

-- with a digit more it is still such an address
open_more : (a : Address) (x left : ℕ) → Open a left → Open (with_digit a x) left
unfolding with_digit
open_more a x left o = record { size = o.size; few = few_more (goes_on_dotted a x) refl; start = start_more (goes_on_dotted a x) refl; fresh = λ e. absurd (omega (arith, e)) }
  where
    few_more : (c : Bool) → goes_on_dotted a x ≡ c → IsDotted (if goes_on_dotted a x then a.kind else grouped) → length a.before ≤ 3
    few_more true e h = o.few (rw e at h)
    few_more false e h = absurd (rw e at h)

    start_more : (c : Bool) → goes_on_dotted a x ≡ c → IsEither (if goes_on_dotted a x then a.kind else grouped) → length a.before ≡ 0
    start_more true e h = o.start (rw e at h)
    start_more false e h = absurd (rw e at h)

digits_more : (a : Address) (x : ℕ) → (with_digit a x).digits ≡ suc a.digits
unfolding with_digit
digits_more a x = refl

module _ (left : ℕ) (part : Address → ℕ → Reads Said Octets) (live_part : (b : Address) (x : ℕ) → Open b left → ends_number b x ≡ true → eqb x 60 ≡ false → Live (part b x)) where
  live_digits_from : (n : ℕ) (a : Address) → Open a left → n + a.digits ≡ 4 → Live (digits_from n part a)
  unfolding digits_from
  live_digits_from zero a o d =
      let (x, e) = can_end a left o (omega (arith, d)) in
      live_where (ends_number a) _ x e (λ y f. live_elim (eqb y 60) _ _ (λ g. live_done (source_of a)) (λ g. live_part a y o f g))
  live_digits_from (suc n) a o d =
      let (x, e) = witness a.digits refl in
      live_where (λ x. ends_number a x || goes_on_dotted a x || goes_on_grouped a x) _ x e (λ y f.
      live_elim (eqb y 60) _ _ (λ g. live_done (source_of a)) (λ g.
      live_elim (ends_number a y) _ _ (λ h. live_part a y o h g) (λ h. live_digits_from n (with_digit a y) (open_more a y left o) (more y))))
    where
      witness : (k : ℕ) → a.digits ≡ k → (x : ℕ) × ((ends_number a x || goes_on_dotted a x || goes_on_grouped a x) ≡ true)
      witness zero e = (49, can_begin a left o e)
      witness (suc k) e = let (x, f) = can_end a left o (omega (arith, e)) in (x, rw f)

      more : (y : ℕ) → n + (with_digit a y).digits ≡ 4
      more y = omega (arith, d, digits_more a y)

-- behind a `.` or a `:`
few_before : (b : Address) → ends_number b 46 ≡ true → length b.before < 3
unfolding ends_number
few_before b e =
    let c = can_be_dotted b.kind in
    let l = ltb (length b.before) 3 in
    let h : ((c && l) || false) ≡ true = (both_true (ltb 0 b.digits) ((c && l) || false) e).1 in
    ltb-true (length b.before) 3 (both_true c l (sym (or-false (c && l)) ∙ h)).1

open_dotted : (b : Address) (n : ℕ) → Open b (suc n) → ends_number b 46 ≡ true → Open (next_number dotted (b.before ++ (b.ten ∷ []))) n
unfolding next_number
open_dotted b n o e = record { size = omega (arith, o.size, length-append b.before (b.ten ∷ [])); few = λ h. omega (arith, few_before b e, length-append b.before (b.ten ∷ [])); start = λ h. absurd h; fresh = λ f. (refl, refl) }

open_grouped : (b : Address) (n : ℕ) → Open b (suc n) → Open (next_number grouped (b.before ++ (b.sixteen ∷ []))) n
unfolding next_number
open_grouped b n o = record { size = omega (arith, o.size, length-append b.before (b.sixteen ∷ [])); few = λ h. absurd h; start = λ h. absurd h; fresh = λ e. (refl, refl) }

no_digits : (kind : Kind) (before : List ℕ) → (next_number kind before).digits ≡ 0
unfolding next_number
no_digits kind before = refl

live_address_from : (n : ℕ) (a : Address) → Open a n → a.digits ≡ 0 → Live {R = Said} (address_from n a)
unfolding address_from
live_address_from zero a o d = live_digits_from 0 (λ b x. done []) (λ b x p e f. live_done []) 4 a o (omega (arith, d))
live_address_from (suc n) a o d = live_digits_from (suc n) _ (λ b x p e f.
    live_elim (eqb x 46) _ _
    (λ g. live_address_from n (next_number dotted (b.before ++ (b.ten ∷ []))) (open_dotted b n p (subst (λ z. ends_number b z ≡ true) (eqb-true x 46 g) e)) (no_digits dotted (b.before ++ (b.ten ∷ []))))
    (λ g. live_address_from n (next_number grouped (b.before ++ (b.sixteen ∷ []))) (open_grouped b n p) (no_digits grouped (b.before ++ (b.sixteen ∷ []))))) 4 a o (omega (arith, d))

live_address : Live {R = Said} address
unfolding address next_number
live_address = live_address_from 7 (next_number either []) (record { size = refl; few = λ h. absurd h; start = λ h. refl; fresh = λ e. (refl, refl) }) refl

-- ------------------------------------------------------------------ records, and the report

module _ (ws : Widths) (counts : 1 ≤ ws.counts) (times : 1 ≤ ws.times) where
  live_count : Live {R = Said} (number 1 ws.counts (λ n. true))
  unfolding number_refused digit_refused is_digit between
  live_count = live_number 1 ws.counts (rw (le-leb 1 ws.counts counts))

  live_time : Live {R = Said} (number 0 ws.times (λ n. true))
  unfolding number_refused digit_refused is_digit between
  live_time = live_number 0 ws.times (rw (le-leb 1 ws.times times))

  live_row : Live {R = Said} (row ws)
  unfolding row
  live_row =
      live_then _ _ (live_literal "<row><source_ip>") (live_bind _ _ live_address (λ a.
      live_then _ _ (live_literal "/source_ip><count>") (live_bind _ _ live_count (λ c.
      live_then _ _ (live_literal "/count><policy_evaluated><disposition>") (live_bind _ _ live_disposition (λ d.
      live_then _ _ (live_literal "</disposition><dkim>") (live_bind _ _ (live_dkim d) (λ k.
      live_then _ _ (live_literal "</dkim><spf>") (live_bind _ _ (live_spf d k) (λ s.
      live_then _ _ (live_literal "</spf></policy_evaluated></row><identifiers><header_from>") (live_bind _ _ live_name (λ f.
      live_then _ _ (live_literal "/header_from></identifiers><auth_results>") (live_bind _ _ (live_results 16 []) (λ r.
      live_then _ _ (live_literal "</record>") (live_done _)))))))))))))))

  live_give : {A : Type 0} (r : Said) (t : Reads Said A) → Live t → Live (give r t)
  unfolding Live
  live_give r t l = l

  live_records : (n : ℕ) → Live ((records_from ws) n)
  unfolding records_from among starts octets
  live_records zero = live_literal "</feedback>"
  live_records (suc n) = live_bind _ _ (live_then _ _ (live_literal "<") (live_word _ _ 114 refl)) (λ more.
      live_elim more _ _ (λ e. live_bind _ _ live_row (λ r. live_give r ((records_from ws) n) (live_records n))) (λ e. live_done tt))

  live_extra : Live {R = Said} extra_or_id
  unfolding extra_or_id among starts octets text
  live_extra = live_bind _ _ (live_word _ _ 101 refl) (λ extra.
      live_elim extra _ _ (λ e. live_then _ _ (live_text_from 4096 false) (live_literal "/extra_contact_info><report_id>")) (λ e. live_done tt))

  live_np : Live {R = Said} np_then
  unfolding np_then
  live_np = live_then _ _ live_policy (live_literal "</np><adkim>")

  live_policies : Live {R = Said} policies
  unfolding policies among starts octets
  live_policies = live_bind _ _ (live_word _ _ 115 refl) (λ tag. go tag)
    where
      go : (tag : Tag) → Live {R = Said} {A = Unit {0}} (elim tag as (λ _. Reads Said (Unit {0})) [
        | sp_tag ↦ policy >> literal "</sp><" >> one_word ("np>", true) (("adkim>", false) ∷ []) >>= (λ n. elim n [ true ↦ np_then | false ↦ done tt ])
        | np_tag ↦ np_then
        | adkim_tag ↦ done tt
      ])
      go sp_tag = live_bind _ _ (live_then _ _ (live_then _ _ live_policy (live_literal "</sp><")) (live_word _ _ 110 refl)) (λ n. live_elim n _ _ (λ e. live_np) (λ e. live_done tt))
      go np_tag = live_np
      go adkim_tag = live_done tt

  -- "begin and end judged apart"
  pub live_apart : Live (apart ws)
  unfolding apart report_by text id among starts octets
  live_apart =
      live_then _ _ (live_literal _) (live_then _ _ (live_text_from 4096 false)
      (live_then _ _ (live_literal "/org_name><email>") (live_then _ _ (live_text_from 4096 false)
      (live_then _ _ (live_literal "/email><") (live_then _ _ live_extra (live_then _ _ (live_id_from 64 false)
      (live_then _ _ (live_literal "/report_id><date_range><begin>") (live_bind _ _ live_time (λ b.
      live_then _ _ (live_literal "/begin><end>") (live_bind _ _ live_time (λ e.
      live_then _ _ (live_literal "/end></date_range></report_metadata><policy_published><domain>") (live_bind _ _ live_name (λ d.
      live_then _ _ (live_literal "/domain><p>") (live_bind _ _ live_policy (λ p.
      live_then _ _ (live_literal "</p><") (live_then _ _ live_policies (live_bind _ _ live_mode (λ m.
      live_then _ _ (live_literal "</adkim><aspf>") (live_bind _ _ live_mode (λ a.
      live_then _ _ (live_literal "</aspf><testing>") (live_bind _ _ (live_word _ _ 110 refl) (λ t.
      live_then _ _ (live_literal "</testing></policy_published><record>") (live_bind _ _ live_row (λ r.
      live_give r ((records_from ws) 255) (live_records 255)))))))))))))))))))))))))
