-- A program of the form refuses with 20 or 21 alone; and a text that the reader takes so far, the form takes so far.
use mathlib.Core.Path.{◌≡◌, refl, sym, ap, ◌∙◌, subst}
use mathlib.Core.List.{List, [], ◌∷◌, ◌++◌}
use mathlib.Core.Logic.{◌⊎◌, inl, inr}
use mathlib.Core.Bool.{Bool, true, false, ◌&&◌, ◌||◌, not}
use Prim.Native.Nat.{ℕ, zero, suc, ◌+◌, ◌-◌, ◌*◌}
use Prim.Native.String.{String}
use native.Mathlib.Omega.{arith}
use lib.Dec.{eqb, leb}
use lib.ListN.{length}
use Rattle.std.specs.Prelude.{if◌then◌else◌, Option, None, Some}
use Rattle.octets.specs.Octets.{Octets, octets, is_digit}
use Rattle.octets.specs.declared.Refusal.{Refusal}
use Rattle.policy.specs.declared.Policy.{Policy}
use Rattle.rows.specs.Lists.{Reported}
use Rattle.parsing.specs.Reads.{Reads, done, give, next, ◌>>=◌, ◌>>◌, octet_where, exactly, Left, open_at, stuck, run, handing}
use Rattle.report_form.specs.ReportForm.{Widths, Said}
use Rattle.report_form.specs.code.ReportReading.{first_is as starts, rest_of, among, chosen, one_word, reading_literal as literal, policy, mode, outcome, reading_entity as entity, text_from, text, id_from, id, digit_refused, number_refused, digits_more as number_from, reading_number as number, name_from, name, Address, source_of, with_digit, ends_number, next_number, digits_from, address_from, reading_address as address, Disposition, passed, applied, disposition, only, fail_or_pass, dkim_after, spf_after, signature, sender, Item, dkim_item, spf_item, no_item, item, results_from, reading_row as row, records_from, extra_or_id, PolicyTag as Tag, sp_tag, np_tag, adkim_tag, np_then, policies, report_by, either}
use Rattle.parsing.proofs.ReadsLaws.{run_on, run_stuck}
use Rattle.parsing.proofs.ReadsClaimed.{open≢stuck, stuck_injective}
use Rattle.report_form.proofs.ApartLaws.{Stricter}
use Rattle.std.proofs.lemmas.Option.{none-some, same_Some}

-- a program that refuses by numbers of a kind alone
unfoldable pub Sane : (ℕ → Type 0) → {R A : Type 0} → Reads R A → Type 0
Sane P (done a) = Unit
Sane P (give r t) = Sane P t
Sane P (next f k) = ((x n : ℕ) → f x ≡ Some n → P n) × ((x : ℕ) → Sane P (k x))

module _ (P : ℕ → Type 0) (outside : P 20) where
  pub sane_bind : {A B : Type 0} (t : Reads Said A) (f : A → Reads Said B) → Sane P t → ((a : A) → Sane P (f a)) → Sane P (t >>= f)
  unfolding Sane ◌>>=◌
  sane_bind (done a) f s h = h a
  sane_bind (give r t) f s h = sane_bind t f s h
  sane_bind (next g k) f s h = (s.0, λ x. sane_bind (k x) f (s.1 x) h)

  pub sane_then : {A B : Type 0} (t : Reads Said A) (u : Reads Said B) → Sane P t → Sane P u → Sane P (t >> u)
  unfolding ◌>>◌
  sane_then t u s v = sane_bind t (λ _. u) s (λ _. v)

  pub sane_done : {A : Type 0} (a : A) → Sane P {R = Said} (done a)
  unfolding Sane
  sane_done a = tt

  pub sane_where : {A : Type 0} (f : ℕ → Bool) (k : ℕ → Reads Said A) → ((x : ℕ) → Sane P (k x)) → Sane P (octet_where f k)
  unfolding Sane octet_where
  sane_where f k h = (λ x n e. subst P (sym (twenty (f x) n e)) outside, h)
    where
      twenty : (c : Bool) (n : ℕ) → ◌≡◌ {A = Option ℕ} (if c then None else Some 20) (Some n) → n ≡ 20
      twenty true n e = absurd (none-some n e)
      twenty false n e = sym (same_Some 20 n e)

  pub sane_elim : {A : Type 0} (c : Bool) (t u : Reads Said A) → Sane P t → Sane P u → Sane P {R = Said} {A = A} (elim c as (λ _. Reads Said A) [ true ↦ t | false ↦ u ])
  sane_elim true t u h i = h
  sane_elim false t u h i = i

  pub sane_exactly : (s : Octets) → Sane P {R = Said} (exactly s)
  unfolding exactly
  sane_exactly [] = sane_done tt
  sane_exactly (c ∷ s) = sane_where (eqb c) (λ x. exactly s) (λ x. sane_exactly s)

  pub sane_literal : (s : String) → Sane P {R = Said} (literal s)
  unfolding literal
  sane_literal s = sane_exactly (octets s)

  pub sane_rest : {A : Type 0} (s : Octets) (a : A) → Sane P {R = Said} (rest_of s a)
  unfolding rest_of
  sane_rest [] a = sane_done a
  sane_rest (c ∷ s) a = sane_then (exactly s) (done a) (sane_exactly s) (sane_done a)

  pub sane_chosen : {A : Type 0} (x : ℕ) (w : String × A) (ws : List (String × A)) → Sane P {R = Said} (chosen x w ws)
  unfolding chosen
  sane_chosen x w [] = sane_rest (octets w.0) w.1
  sane_chosen x w (v ∷ ws) = sane_elim (starts x (octets w.0)) (rest_of (octets w.0) w.1) (chosen x v ws) (sane_rest (octets w.0) w.1) (sane_chosen x v ws)

  pub sane_word : {A : Type 0} (w : String × A) (ws : List (String × A)) → Sane P {R = Said} (one_word w ws)
  unfolding one_word
  sane_word w ws = sane_where (λ x. among x (w ∷ ws)) (λ x. chosen x w ws) (λ x. sane_chosen x w ws)

  pub sane_text : (n : ℕ) (some : Bool) → Sane P {R = Said} (text_from n some)
  unfolding text_from entity
  sane_text zero some = sane_where (eqb 60) (λ x. done tt) (λ x. sane_done tt)
  sane_text (suc n) some = sane_where _ _ (λ x. sane_elim (eqb x 60) _ _ (sane_done tt) (sane_elim (eqb x 38) _ _ (sane_then _ _ (sane_word _ _) (sane_text n true)) (sane_text n true)))

  pub sane_id : (n : ℕ) (some : Bool) → Sane P {R = Said} (id_from n some)
  unfolding id_from
  sane_id zero some = sane_where (eqb 60) (λ x. done tt) (λ x. sane_done tt)
  sane_id (suc n) some = sane_where _ _ (λ x. sane_elim (eqb x 60) _ _ (sane_done tt) (sane_id n true))

  pub sane_name_from : (room label : ℕ) (so_far : Octets) → Sane P {R = Said} (name_from room label so_far)
  unfolding name_from
  sane_name_from zero label so_far = sane_where _ (λ x. done so_far) (λ x. sane_done so_far)
  sane_name_from (suc n) label so_far = sane_where _ _ (λ x. sane_elim (eqb x 60) _ _ (sane_done so_far) (sane_elim (eqb x 46) _ _ (sane_name_from n 0 (so_far ++ (x ∷ []))) (sane_name_from n (suc label) (so_far ++ (x ∷ [])))))

  pub sane_name : Sane P {R = Said} name
  unfolding name
  sane_name = sane_name_from 253 0 []

  pub sane_address_digits : (n : ℕ) (part : Address → ℕ → Reads Said Octets) → ((b : Address) (x : ℕ) → Sane P (part b x)) → (a : Address) → Sane P (digits_from n part a)
  unfolding digits_from
  sane_address_digits zero part h a = sane_where (ends_number a) _ (λ x. sane_elim (eqb x 60) _ _ (sane_done (source_of a)) (h a x))
  sane_address_digits (suc n) part h a = sane_where _ _ (λ x. sane_elim (eqb x 60) _ _ (sane_done (source_of a)) (sane_elim (ends_number a x) _ _ (h a x) (sane_address_digits n part h (with_digit a x))))

  pub sane_address_from : (n : ℕ) (a : Address) → Sane P {R = Said} (address_from n a)
  unfolding address_from
  sane_address_from zero a = sane_address_digits 4 (λ b x. done []) (λ b x. sane_done []) a
  sane_address_from (suc n) a = sane_address_digits 4 _ (λ b x. sane_elim (eqb x 46) _ _ (sane_address_from n _) (sane_address_from n _)) a

  pub sane_only : (word : String) (aligned : Bool) → Sane P {R = Said} (only word aligned)
  unfolding only
  sane_only word aligned = sane_then (literal word) (done aligned) (sane_literal word) (sane_done aligned)

  pub sane_dkim : (d : Disposition) → Sane P {R = Said} (dkim_after d)
  unfolding dkim_after fail_or_pass
  sane_dkim passed = sane_word _ _
  sane_dkim (applied Policy.None) = sane_only "fail" false
  sane_dkim (applied Policy.Quarantine) = sane_word _ _
  sane_dkim (applied Policy.Reject) = sane_word _ _

  pub sane_spf : (d : Disposition) (dkim : Bool) → Sane P {R = Said} (spf_after d dkim)
  unfolding spf_after fail_or_pass
  sane_spf passed true = sane_word _ _
  sane_spf passed false = sane_only "pass" true
  sane_spf (applied Policy.None) dkim = sane_only "fail" false
  sane_spf (applied Policy.Quarantine) dkim = sane_word _ _
  sane_spf (applied Policy.Reject) dkim = sane_word _ _

  pub sane_signature : Sane P {R = Said} signature
  unfolding signature outcome
  sane_signature =
      sane_then _ _ (sane_literal _) (sane_bind _ _ sane_name (λ d. sane_then _ _ (sane_literal _) (sane_bind _ _ sane_name (λ s.
      sane_then _ _ (sane_literal _) (sane_bind _ _ (sane_word _ _) (λ o. sane_then _ _ (sane_literal _) (sane_done _)))))))

  pub sane_sender : Sane P {R = Said} sender
  unfolding sender outcome
  sane_sender = sane_then _ _ (sane_literal _) (sane_bind _ _ sane_name (λ d. sane_then _ _ (sane_literal _) (sane_bind _ _ (sane_word _ _) (λ o. sane_then _ _ (sane_literal _) (sane_done _)))))

  pub sane_results : (n : ℕ) (so_far : List Reported) → Sane P {R = Said} (results_from n so_far)
  unfolding results_from item
  sane_results zero so_far = sane_then _ _ (sane_literal "</auth_results>") (sane_done _)
  sane_results (suc n) so_far = sane_bind _ _ (sane_then _ _ (sane_literal "<") (sane_word _ _)) (λ i. go i (sane_results n))
    where
      go : (i : Item) → ((l : List Reported) → Sane P {R = Said} (results_from n l)) → Sane P {R = Said} {A = List Reported} (elim i as (λ _. Reads Said (List Reported)) [
        | dkim_item ↦ signature >>= λ s. results_from n (so_far ++ (s ∷ []))
        | spf_item ↦ sender >>= λ s. done (so_far ++ (s ∷ []))
        | no_item ↦ done so_far
      ])
      go dkim_item h = sane_bind _ _ sane_signature (λ s. h (so_far ++ (s ∷ [])))
      go spf_item h = sane_bind _ _ sane_sender (λ s. sane_done _)
      go no_item h = sane_done _

  pub sane_extra : Sane P {R = Said} extra_or_id
  unfolding extra_or_id text
  sane_extra = sane_bind _ _ (sane_word _ _) (λ extra. sane_elim extra _ _ (sane_then _ _ (sane_text 4096 false) (sane_literal _)) (sane_done tt))

  pub sane_np : Sane P {R = Said} np_then
  unfolding np_then policy
  sane_np = sane_then _ _ (sane_word _ _) (sane_literal _)

  pub sane_policies : Sane P {R = Said} policies
  unfolding policies policy
  sane_policies = sane_bind _ _ (sane_word _ _) (λ tag. go tag)
    where
      go : (tag : Tag) → Sane P {R = Said} {A = Unit {0}} (elim tag as (λ _. Reads Said (Unit {0})) [
        | sp_tag ↦ policy >> literal "</sp><" >> one_word ("np>", true) (("adkim>", false) ∷ []) >>= (λ n. elim n [ true ↦ np_then | false ↦ done tt ])
        | np_tag ↦ np_then
        | adkim_tag ↦ done tt
      ])
      go sp_tag = sane_bind _ _ (sane_then _ _ (sane_then _ _ (sane_word _ _) (sane_literal "</sp><")) (sane_word _ _)) (λ n. sane_elim n _ _ sane_np (sane_done tt))
      go np_tag = sane_np
      go adkim_tag = sane_done tt

  module _ (over : P 21) (ws : Widths) where
    digit_numbers : (least most : ℕ) (ends : ℕ → Bool) (value : ℕ) (some : Bool) (x n : ℕ) → number_refused least most ends value some x ≡ Some n → P n
    unfolding number_refused digit_refused
    digit_numbers least most ends value some x n e = go (eqb x 60) (some && ends value) (is_digit x && not (some && eqb value 0) && (some || leb least (x - 48))) (leb (value * 10 + (x - 48)) most) e
      where
        go : (a b c d : Bool) → ◌≡◌ {A = Option ℕ} (if a then (if b then None else Some 20) else if c then if d then None else Some 21 else Some 20) (Some n) → P n
        go true true c d f = absurd (none-some n f)
        go true false c d f = subst P (same_Some 20 n f) outside
        go false b true true f = absurd (none-some n f)
        go false b true false f = subst P (same_Some 21 n f) over
        go false b false d f = subst P (same_Some 20 n f) outside

    pub sane_digits : (m least most : ℕ) (ends : ℕ → Bool) (value : ℕ) (some : Bool) → Sane P {R = Said} (number_from m least most ends value some)
    unfolding number_from Sane
    sane_digits zero least most ends value some = (digit_numbers least most ends value some, λ x. tt)
    sane_digits (suc m) least most ends value some = (digit_numbers least most ends value some, λ x. sane_elim (eqb x 60) _ _ (sane_done value) (sane_digits m least most ends (value * 10 + (x - 48)) true))

    pub sane_number : (least most : ℕ) (ends : ℕ → Bool) → Sane P {R = Said} (number least most ends)
    unfolding number
    sane_number least most ends = sane_digits (suc most) least most ends 0 false

    pub sane_row : Sane P {R = Said} (row ws)
    unfolding row disposition address
    sane_row =
        sane_then _ _ (sane_literal _) (sane_bind _ _ (sane_address_from 7 (next_number either [])) (λ a.
        sane_then _ _ (sane_literal _) (sane_bind _ _ (sane_number 1 ws.counts (λ n. true)) (λ c.
        sane_then _ _ (sane_literal _) (sane_bind _ _ (sane_word _ _) (λ d.
        sane_then _ _ (sane_literal _) (sane_bind _ _ (sane_dkim d) (λ k.
        sane_then _ _ (sane_literal _) (sane_bind _ _ (sane_spf d k) (λ s.
        sane_then _ _ (sane_literal _) (sane_bind _ _ sane_name (λ f.
        sane_then _ _ (sane_literal _) (sane_bind _ _ (sane_results 16 []) (λ r.
        sane_then _ _ (sane_literal _) (sane_done _)))))))))))))))

    pub sane_give : {A : Type 0} (r : Said) (t : Reads Said A) → Sane P t → Sane P (give r t)
    unfolding Sane
    sane_give r t s = s

    pub sane_records : (n : ℕ) → Sane P ((records_from ws) n)
    unfolding records_from
    sane_records zero = sane_literal "</feedback>"
    sane_records (suc n) = sane_bind _ _ (sane_then _ _ (sane_literal "<") (sane_word _ _)) (λ more. sane_elim more _ _ (sane_bind _ _ sane_row (λ r. sane_give r ((records_from ws) n) (sane_records n))) (sane_done tt))

    pub sane_report : (judged : ℕ → ℕ → Bool) → Sane P ((report_by ws) judged)
    unfolding report_by text id policy mode
    sane_report judged =
        sane_then _ _ (sane_literal _) (sane_then _ _ (sane_text 4096 false) (sane_then _ _ (sane_literal _) (sane_then _ _ (sane_text 4096 false)
        (sane_then _ _ (sane_literal _) (sane_then _ _ sane_extra (sane_then _ _ (sane_id 64 false)
        (sane_then _ _ (sane_literal _) (sane_bind _ _ (sane_number 0 ws.times (λ n. true)) (λ b.
        sane_then _ _ (sane_literal _) (sane_bind _ _ (sane_number 0 ws.times (judged b)) (λ e.
        sane_then _ _ (sane_literal _) (sane_bind _ _ sane_name (λ d.
        sane_then _ _ (sane_literal _) (sane_bind _ _ (sane_word _ _) (λ p.
        sane_then _ _ (sane_literal _) (sane_then _ _ sane_policies (sane_bind _ _ (sane_word _ _) (λ m.
        sane_then _ _ (sane_literal _) (sane_bind _ _ (sane_word _ _) (λ a.
        sane_then _ _ (sane_literal _) (sane_bind _ _ (sane_word _ _) (λ t.
        sane_then _ _ (sane_literal _) (sane_bind _ _ sane_row (λ r. sane_give r ((records_from ws) 255) (sane_records 255)))))))))))))))))))))))))

module _ {R A : Type 0} where
  pub stuck_number : (t : Reads R A) (at : ℕ) (s : Octets) (q : Refusal) → Sane (λ n. (n ≡ 20) ⊎ (n ≡ 21)) t → (run at t s).reader.left ≡ stuck q → (q.number ≡ 20) ⊎ (q.number ≡ 21)
  unfolding Sane run handing
  stuck_number (done a) at [] q h e = absurd (open≢stuck e)
  stuck_number (done a) at (x ∷ s) q h e = inl (sym (ap (λ z. z.number) (stuck_injective e)))
  stuck_number (give r t) at s q h e = stuck_number t at s q h e
  stuck_number (next f k) at [] q h e = absurd (open≢stuck e)
  stuck_number (next f k) at (x ∷ s) q h e = go (f x) refl (stuck_number (k x) (suc at) s q (h.1 x))
    where
      go : (o : Option ℕ) → f x ≡ o → ((run (suc at) (k x) s).reader.left ≡ stuck q → (q.number ≡ 20) ⊎ (q.number ≡ 21)) → (q.number ≡ 20) ⊎ (q.number ≡ 21)
      go None i m = m (sym (ap (λ z. z.reader.left) (run_on at f k x s i)) ∙ e)
      go (Some n) i m = subst (λ z. (z ≡ 20) ⊎ (z ≡ 21)) (ap (λ z. z.number) (stuck_injective (sym (ap (λ z. z.reader.left) (run_stuck at f k x s n i)) ∙ e))) (h.0 x n i)

  program_in : Reads R A → Left R A → Reads R A
  program_in d (open_at t) = t
  program_in d (stuck q) = d

  pub open_injective : {t u : Reads R A} → ◌≡◌ {A = Left R A} (open_at t) (open_at u) → t ≡ u
  unfolding program_in
  open_injective {t} e = ap (program_in t) e

  -- what the first takes, the second takes
  pub record Along (u : Reads R A) (at : ℕ) (s : Octets) (t' : Reads R A) (taken : ℕ) : Type 0 where
    pub left : Reads R A
    pub related : Stricter t' left
    pub still_open : (run at u s).reader.left ≡ open_at left
    pub place : taken ≡ at + length s

  pub strict_open : (t u : Reads R A) (at : ℕ) (s : Octets) (t' : Reads R A) → Stricter t u → (run at t s).reader.left ≡ open_at t' → Along u at s t' (run at t s).reader.taken
  unfolding Stricter run handing
  strict_open (done a) (done b) at [] t' h e = record { left = done b; related = subst (λ z. Stricter z (done b)) (open_injective e) h; still_open = refl; place = omega arith }
  strict_open (done a) (done b) at (x ∷ s) t' h e = absurd (open≢stuck (sym e))
  strict_open (done a) (give r u) at s t' h e = absurd h
  strict_open (done a) (next g l) at s t' h e = absurd h
  strict_open (give r t) (done b) at s t' h e = absurd h
  strict_open (give r t) (give w u) at s t' h e = let c = strict_open t u at s t' h e in record { left = c.left; related = c.related; still_open = c.still_open; place = c.place }
  strict_open (give r t) (next g l) at s t' h e = absurd h
  strict_open (next f k) (done b) at s t' h e = absurd h
  strict_open (next f k) (give w u) at s t' h e = absurd h
  strict_open (next f k) (next g m) at [] t' h e = record { left = next g m; related = subst (λ z. Stricter z (next g m)) (open_injective e) h; still_open = refl; place = omega arith }
  strict_open (next f k) (next g m) at (x ∷ s) t' h e = go (f x) refl (h.0 x) (strict_open (k x) (m x) (suc at) s t')
    where
      go : (o : Option ℕ) → f x ≡ o → (f x ≡ g x) ⊎ ((x ≡ 60) × (f x ≡ Some 20)) → (Stricter (k x) (m x) → (run (suc at) (k x) s).reader.left ≡ open_at t' → Along (m x) (suc at) s t' (run (suc at) (k x) s).reader.taken)
          → Along (next g m) at (x ∷ s) t' (run at (next f k) (x ∷ s)).reader.taken
      go None i (inl j) r =
          let c = r (h.1 x i) (sym (ap (λ z. z.reader.left) (run_on at f k x s i)) ∙ e) in
          record {
            left = c.left;
            related = c.related;
            still_open = ap (λ z. z.reader.left) (run_on at g m x s (sym j ∙ i)) ∙ c.still_open;
            place = ap (λ z. z.reader.taken) (run_on at f k x s i) ∙ c.place ∙ omega arith;
          }
      go None i (inr j) r = absurd (none-some 20 (sym i ∙ j.1))
      go (Some n) i j r = absurd (open≢stuck (sym e ∙ ap (λ z. z.reader.left) (run_stuck at f k x s n i)))
