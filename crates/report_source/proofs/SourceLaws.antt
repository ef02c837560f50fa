-- Laws of one octet of an open address.
use mathlib.Core.Path.{◌≡◌, refl, sym, ap, ◌∙◌, subst}
use mathlib.Core.List.{List, [], ◌∷◌, ◌++◌}
use mathlib.Core.Logic.{◌⊎◌, inl, inr}
use mathlib.Core.Bool.{Bool, true, false, ◌&&◌, ◌||◌, not, false≢true}
use Prim.Native.Nat.{ℕ, zero, suc, ◌+◌, ◌*◌, ◌≤◌, ◌<◌}
use native.Mathlib.Omega.{arith}
use lib.Dec.{eqb, leb, ltb}
use lib.ListN.{length, length-append}
use borrow.Author.Tests.{lt-ltb, le-ltb, le-leb, lt-leb, eq-eqb, ne_eqb, leb-true, ltb-true, eqb-true, eqb-false}
use Rattle.std.specs.Prelude.{if◌then◌else◌, Ok, Err}
use Rattle.report_steps.specs.declared.Refusal.{Refusal}
use Rattle.report_steps.specs.code.Steps.{refusal_number}
use Rattle.report_source.specs.declared.SourceTurn.{SourceTurn}
use Rattle.octets.specs.Octets.{is_digit, between}
use Rattle.parsing_steps.specs.Stepping.{on, step_of}
use Rattle.parsing_steps.proofs.StepLaws.{where_no}
use Rattle.report_form.specs.code.ReportReading.{grouped, can_be_dotted, can_be_grouped, digit_value, lower_hex, goes_on_dotted, goes_on_grouped, is_last, ends_number, with_digit, next_number}
use Rattle.report_states.specs.Standing.{address_left}
use Rattle.report_address.specs.code.Addresses.{kind_of, address_of, only_zero_in, dotted_on, grouped_on, ends_in}
use Rattle.report_address.proofs.AddressTests.{dotted_is, grouped_is, ends_is}
use Rattle.report_address.proofs.AddressSteps.{refused_full, refused_digit, ended_less, next_dot, next_colon, digit_more}
use Rattle.report_source.specs.code.Sources.{limit, fits_kind, is_sound, no_octet, source_left, five_zeros, source_turn, grown, number_ended, Sources, number_told, Turns}

both : (a b : Bool) → (a && b) ≡ true → (a ≡ true) × (b ≡ true)
both true b e = (refl, e)
both false b e = absurd (false≢true e)

-- ------------------------------------------------------------------ limits

pub limit_least : (d : ℕ) → 5 ≤ d → 0 ≡ limit d
unfolding limit
limit_least (suc (suc (suc (suc (suc d))))) h = refl
limit_least zero h = absurd (omega (arith, h))
limit_least (suc zero) h = absurd (omega (arith, h))
limit_least (suc (suc zero)) h = absurd (omega (arith, h))
limit_least (suc (suc (suc zero))) h = absurd (omega (arith, h))
limit_least (suc (suc (suc (suc zero)))) h = absurd (omega (arith, h))

pub limit_small : (d : ℕ) → d < 4 → limit d ≤ 4096
unfolding limit
limit_small zero h = omega arith
limit_small (suc zero) h = omega arith
limit_small (suc (suc zero)) h = omega arith
limit_small (suc (suc (suc zero))) h = omega arith
limit_small (suc (suc (suc (suc d)))) h = absurd (omega (arith, h))

limit_next : (d : ℕ) → d < 4 → limit (d + 1) ≡ limit d * 16
unfolding limit
limit_next zero h = refl
limit_next (suc zero) h = refl
limit_next (suc (suc zero)) h = refl
limit_next (suc (suc (suc zero))) h = refl
limit_next (suc (suc (suc (suc d)))) h = absurd (omega (arith, h))

-- ------------------------------------------------------------------ digits

low_value : (x : ℕ) → is_digit x ≡ true → digit_value x ≤ 9
unfolding is_digit between digit_value
low_value x e = let (a, b) = both (leb 48 x) (leb x 57) e in rw e (omega (arith, leb-true 48 x a, leb-true x 57 b))

high_value : (x : ℕ) → is_digit x ≡ false → between 97 102 x ≡ true → digit_value x ≤ 15
unfolding digit_value between
high_value x f g = let (a, b) = both (leb 97 x) (leb x 102) g in rw f (omega (arith, leb-true 97 x a, leb-true x 102 b))

pub hex_value : (x : ℕ) → lower_hex x ≡ true → digit_value x ≤ 15
unfolding lower_hex
hex_value x e = go (is_digit x) refl
  where
    go : (b : Bool) → is_digit x ≡ b → digit_value x ≤ 15
    go true f = let h = low_value x f in omega (arith, h)
    go false f = high_value x f (ap (λ b. b || between 97 102 x) (sym f) ∙ e)

dotted_digit : (kind digits ten sixteen x : ℕ) → dotted_on kind digits ten sixteen x ≡ true → is_digit x ≡ true
unfolding dotted_on
dotted_digit kind digits ten sixteen x e =
    let (a, b) = both (can_be_dotted (kind_of kind) && is_digit x && not (only_zero_in digits sixteen)) (leb (ten * 10 + digit_value x) 255) e in
    let (c, d) = both (can_be_dotted (kind_of kind) && is_digit x) (not (only_zero_in digits sixteen)) a in
    (both (can_be_dotted (kind_of kind)) (is_digit x) c).1

pub dotted_value : (kind digits ten sixteen x : ℕ) → dotted_on kind digits ten sixteen x ≡ true → (digit_value x ≤ 15) × (ten * 10 + digit_value x ≤ 255)
unfolding dotted_on
dotted_value kind digits ten sixteen x e =
    let (a, b) = both (can_be_dotted (kind_of kind) && is_digit x && not (only_zero_in digits sixteen)) (leb (ten * 10 + digit_value x) 255) e in
    let h = low_value x (dotted_digit kind digits ten sixteen x e) in
    (omega (arith, h), leb-true (ten * 10 + digit_value x) 255 b)

grouped_hex : (kind : ℕ) (five : Bool) (digits sixteen x : ℕ) → grouped_on kind five digits sixteen x ≡ true → lower_hex x ≡ true
unfolding grouped_on
grouped_hex kind five digits sixteen x e =
    let (a, b) = both (can_be_grouped (kind_of kind) && lower_hex x && not (only_zero_in digits sixteen)) (not (five && eqb (sixteen * 16 + digit_value x) 65535)) e in
    let (c, d) = both (can_be_grouped (kind_of kind) && lower_hex x) (not (only_zero_in digits sixteen)) a in
    (both (can_be_grouped (kind_of kind)) (lower_hex x) c).1

pub grouped_value : (kind : ℕ) (five : Bool) (digits sixteen x : ℕ) → grouped_on kind five digits sixteen x ≡ true → digit_value x ≤ 15
grouped_value kind five digits sixteen x e = hex_value x (grouped_hex kind five digits sixteen x e)

no_less_digit : (x : ℕ) → is_digit x ≡ true → x ≡ 60 → ⊥
unfolding is_digit between
no_less_digit x e f = false≢true (rw f at e)

no_less_hex : (x : ℕ) → lower_hex x ≡ true → x ≡ 60 → ⊥
unfolding lower_hex is_digit between
no_less_hex x e f = false≢true (rw f at e)

-- ------------------------------------------------------------------ numbers that some text leads to

module _ (kind numbers ten : ℕ) where
  fits_more : (more : ℕ) → more ≤ 255 → fits_kind kind numbers ten ≡ true → fits_kind kind numbers more ≡ true
  unfolding fits_kind
  fits_more more h e = go (eqb kind 0) (eqb kind 1) e
    where
      go : (a b : Bool) → (if a then eqb numbers 0 && leb ten 255 else if b then leb numbers 3 && leb ten 255 else leb numbers 7) ≡ true → (if a then eqb numbers 0 && leb more 255 else if b then leb numbers 3 && leb more 255 else leb numbers 7) ≡ true
      go true b f = rw ((both (eqb numbers 0) (leb ten 255) f).0, le-leb more 255 h)
      go false true f = rw ((both (leb numbers 3) (leb ten 255) f).0, le-leb more 255 h)
      go false false f = f

  fits_few : fits_kind kind numbers ten ≡ true → numbers ≤ 7
  unfolding fits_kind
  fits_few e = go (eqb kind 0) (eqb kind 1) e
    where
      go : (a b : Bool) → (if a then eqb numbers 0 && leb ten 255 else if b then leb numbers 3 && leb ten 255 else leb numbers 7) ≡ true → numbers ≤ 7
      go true b f = let h = eqb-true numbers 0 (both (eqb numbers 0) (leb ten 255) f).0 in omega (arith, h)
      go false true f = let h = leb-true numbers 3 (both (leb numbers 3) (leb ten 255) f).0 in omega (arith, h)
      go false false f = leb-true numbers 7 f

sound_parts : (kind numbers digits ten sixteen : ℕ) → is_sound kind numbers digits ten sixteen ≡ true → (fits_kind kind numbers ten ≡ true) × (sixteen < limit digits) × (ten < limit digits)
unfolding is_sound
sound_parts kind numbers digits ten sixteen e =
    let (a, b) = both (fits_kind kind numbers ten && ltb sixteen (limit digits)) (ltb ten (limit digits)) e in
    let (c, d) = both (fits_kind kind numbers ten) (ltb sixteen (limit digits)) a in
    (c, ltb-true sixteen (limit digits) d, ltb-true ten (limit digits) b)

pub sound_below : (kind numbers digits ten sixteen : ℕ) → is_sound kind numbers digits ten sixteen ≡ true → (ten < limit digits) × (sixteen < limit digits)
sound_below kind numbers digits ten sixteen e = let (a, b, c) = sound_parts kind numbers digits ten sixteen e in (c, b)

from_parts : (kind numbers digits ten sixteen : ℕ) → fits_kind kind numbers ten ≡ true → sixteen < limit digits → ten < limit digits → is_sound kind numbers digits ten sixteen ≡ true
unfolding is_sound
from_parts kind numbers digits ten sixteen a b c = rw (a, lt-ltb sixteen (limit digits) b, lt-ltb ten (limit digits) c)

-- ------------------------------------------------------------------ where a number ends

dot_few : (kind numbers digits x : ℕ) → ends_in kind numbers digits x ≡ true → x ≡ 46 → numbers < 3
unfolding ends_in
dot_few kind numbers digits x e f = go (ltb 0 digits) (can_be_dotted (kind_of kind)) (ltb numbers 3) refl (rw f at e)
  where
    go : (a b c : Bool) → ltb numbers 3 ≡ c → (a && ((b && c) || false)) ≡ true → numbers < 3
    go a b true g h = ltb-true numbers 3 g
    go true true false g h = absurd (false≢true h)
    go true false false g h = absurd (false≢true h)
    go false b false g h = absurd (false≢true h)

colon_few : (kind numbers digits x : ℕ) → ends_in kind numbers digits x ≡ true → (x ≡ 60 → ⊥) → (x ≡ 46 → ⊥) → (x ≡ 58) × (numbers < 7)
unfolding ends_in
colon_few kind numbers digits x e f g = go (ltb 0 digits) (eqb x 58) refl (can_be_grouped (kind_of kind)) (ltb numbers 7) refl (rw (ne_eqb x 60 f, ne_eqb x 46 g) at e)
  where
    go : (a d : Bool) → eqb x 58 ≡ d → (b c : Bool) → ltb numbers 7 ≡ c → (a && (d && b && c)) ≡ true → (x ≡ 58) × (numbers < 7)
    go true true i true true j h = (eqb-true x 58 i, ltb-true numbers 7 j)
    go true true i true false j h = absurd (false≢true h)
    go true true i false c j h = absurd (false≢true h)
    go true false i b c j h = absurd (false≢true h)
    go false d i b c j h = absurd (false≢true h)

-- a dot ends no group, and a colon no number of a dotted address
dot_grouped : (kind numbers digits x : ℕ) → (kind ≡ 0 → ⊥) → (kind ≡ 1 → ⊥) → x ≡ 46 → ends_in kind numbers digits x ≡ true → ⊥
unfolding ends_in can_be_dotted kind_of
dot_grouped kind numbers digits x a b i e = go (ltb 0 digits) (rw (i, ne_eqb kind 0 a, ne_eqb kind 1 b) at e)
  where
    go : (c : Bool) → (c && false) ≡ true → ⊥
    go true h = false≢true h
    go false h = false≢true h

colon_dotted : (kind numbers digits x : ℕ) → kind ≡ 1 → x ≡ 58 → ends_in kind numbers digits x ≡ true → ⊥
unfolding ends_in can_be_grouped kind_of
colon_dotted kind numbers digits x a i e = go (ltb 0 digits) (rw (i, a) at e)
  where
    go : (c : Bool) → (c && false) ≡ true → ⊥
    go true h = false≢true h
    go false h = false≢true h

-- ------------------------------------------------------------------ an octet

module _ (kind digits ten sixteen : ℕ) (before : List ℕ) where
  left_sound : is_sound kind (length before) digits ten sixteen ≡ true → source_left kind digits ten sixteen before ≡ address_left (address_of kind digits ten sixteen before)
  unfolding source_left
  left_sound e = rw e

  left_none : is_sound kind (length before) digits ten sixteen ≡ false → source_left kind digits ten sixteen before ≡ no_octet
  unfolding source_left
  left_none e = rw e

module _ (kind numbers : ℕ) (five : Bool) (digits ten sixteen x : ℕ) where
  pub says_unsound : is_sound kind numbers digits ten sixteen ≡ false → Sources kind numbers five digits ten sixteen x 20 0 0 0 0 0
  unfolding source_turn no_octet
  says_unsound e before h f = ap (λ t. step_of t x) (left_none kind digits ten sixteen before (ap (λ n. is_sound kind n digits ten sixteen) h ∙ e)) ∙ where_no (λ y. false) _ x refl

  module _ (e : is_sound kind numbers digits ten sixteen ≡ true) where
    module _ (before : List ℕ) (h : length before ≡ numbers) where
      sound : source_left kind digits ten sixteen before ≡ address_left (address_of kind digits ten sixteen before)
      sound = left_sound kind digits ten sixteen before (ap (λ n. is_sound kind n digits ten sixteen) h ∙ e)

      ends : (b : Bool) → ends_in kind numbers digits x ≡ b → ends_number (address_of kind digits ten sixteen before) x ≡ b
      ends b g = sym (ends_is kind digits ten sixteen before x) ∙ ap (λ n. ends_in kind n digits x) h ∙ g

      grouped_by : (b : Bool) → five_zeros before ≡ five → grouped_on kind five digits sixteen x ≡ b → goes_on_grouped (address_of kind digits ten sixteen before) x ≡ b
      unfolding five_zeros
      grouped_by b f g = sym (grouped_is kind digits ten sixteen before x) ∙ ap (λ v. grouped_on kind v digits sixteen x) f ∙ g

    pub says_full : ends_in kind numbers digits x ≡ false → 4 ≤ digits → Sources kind numbers five digits ten sixteen x 20 0 0 0 0 0
    unfolding source_turn address_of
    says_full g l before h f = ap (λ t. step_of t x) (sound before h) ∙ refused_full (address_of kind digits ten sixteen before) x (ends before h false g) l

    pub says_outside : ends_in kind numbers digits x ≡ false → dotted_on kind digits ten sixteen x ≡ false → grouped_on kind five digits sixteen x ≡ false → Sources kind numbers five digits ten sixteen x 20 0 0 0 0 0
    unfolding source_turn
    says_outside g i j before h f =
        ap (λ t. step_of t x) (sound before h)
        ∙ refused_digit (address_of kind digits ten sixteen before) x (ends before h false g) (sym (dotted_is kind digits ten sixteen before x) ∙ i) (grouped_by before h false f j)

    pub says_ended : ends_in kind numbers digits x ≡ true → x ≡ 60 → Sources kind numbers five digits ten sixteen x 1 0 0 0 0 0
    unfolding source_turn
    says_ended g i before h f = ap (λ t. step_of t x) (sound before h) ∙ ended_less (address_of kind digits ten sixteen before) x (ends before h true g) i

    next_left : (k v : ℕ) (before : List ℕ) → ((k ≡ 1) × (length before < 3)) ⊎ ((k ≡ 2) × (length before < 7)) → source_left k 0 0 0 (before ++ (v ∷ [])) ≡ address_left (address_of k 0 0 0 (before ++ (v ∷ [])))
    unfolding limit fits_kind
    next_left k v before (inl (i, j)) = left_sound k 0 0 0 (before ++ (v ∷ [])) (from_parts k (length (before ++ (v ∷ []))) 0 0 0 (rw (i, length-append before (v ∷ []), le-leb (length before + 1) 3 (omega (arith, j)))) (omega arith) (omega arith))
    next_left k v before (inr (i, j)) = left_sound k 0 0 0 (before ++ (v ∷ [])) (from_parts k (length (before ++ (v ∷ []))) 0 0 0 (rw (i, length-append before (v ∷ []), le-leb (length before + 1) 7 (omega (arith, j)))) (omega arith) (omega arith))

    pub says_dot : ends_in kind numbers digits x ≡ true → x ≡ 46 → Sources kind numbers five digits ten sixteen x 2 1 0 0 0 ten
    unfolding source_turn address_of kind_of next_number
    says_dot g i before h f =
        let few = dot_few kind numbers digits x g i in
        ap (λ t. step_of t x) (sound before h) ∙ next_dot (address_of kind digits ten sixteen before) x (ends before h true g) i (omega (arith, few, h)) ∙ ap on (sym (next_left 1 ten before (inl (refl, omega (arith, few, h)))))

    pub says_colon : ends_in kind numbers digits x ≡ true → (x ≡ 60 → ⊥) → (x ≡ 46 → ⊥) → Sources kind numbers five digits ten sixteen x 2 2 0 0 0 sixteen
    unfolding source_turn address_of kind_of next_number
    says_colon g i j before h f =
        let (colon, few) = colon_few kind numbers digits x g i j in
        ap (λ t. step_of t x) (sound before h) ∙ next_colon (address_of kind digits ten sixteen before) x (ends before h true g) colon (omega (arith, few, h)) ∙ ap on (sym (next_left 2 sixteen before (inr (refl, omega (arith, few, h)))))

    -- a digit more
    abbrev tens : ℕ
    tens = ten * 10 + digit_value x

    abbrev sixteens : ℕ
    sixteens = sixteen * 16 + digit_value x

    more_sound : (k : ℕ) → digits < 4 → digit_value x ≤ 15 → fits_kind k numbers tens ≡ true → is_sound k numbers (digits + 1) tens sixteens ≡ true
    more_sound k l v g =
        let (a, b, c) = sound_parts kind numbers digits ten sixteen e in
        let next = limit_next digits l in
        from_parts k numbers (digits + 1) tens sixteens g (omega (arith, next, b, v)) (omega (arith, next, c, v))

    pub says_dotted : ends_in kind numbers digits x ≡ false → digits < 4 → dotted_on kind digits ten sixteen x ≡ true → Sources kind numbers five digits ten sixteen x 0 kind (digits + 1) tens sixteens 0
    unfolding source_turn with_digit address_of
    says_dotted g l i before h f =
        let (a, b, c) = sound_parts kind numbers digits ten sixteen e in
        let (v, few) = dotted_value kind digits ten sixteen x i in
        let one : suc digits ≡ digits + 1 = omega arith in
        let goes : goes_on_dotted (address_of kind digits ten sixteen before) x ≡ true = sym (dotted_is kind digits ten sixteen before x) ∙ i in
        ap (λ t. step_of t x) (sound before h)
        ∙ digit_more (address_of kind digits ten sixteen before) x (ends before h false g) (no_less_digit x (dotted_digit kind digits ten sixteen x i)) l (rw goes refl)
        ∙ (λ j. on (address_left (record { kind = if goes j then kind_of kind else grouped; before = before; digits = one j; ten = tens; sixteen = sixteens })))
        ∙ ap on (sym (left_sound kind (digits + 1) tens sixteens before (ap (λ n. is_sound kind n (digits + 1) tens sixteens) h ∙ more_sound kind l v (fits_more kind numbers ten tens few a))))

    fits_two : numbers ≤ 7 → fits_kind 2 numbers tens ≡ true
    unfolding fits_kind
    fits_two q = le-leb numbers 7 q

    pub says_grouped : ends_in kind numbers digits x ≡ false → digits < 4 → dotted_on kind digits ten sixteen x ≡ false → grouped_on kind five digits sixteen x ≡ true → Sources kind numbers five digits ten sixteen x 0 2 (digits + 1) tens sixteens 0
    unfolding source_turn with_digit address_of kind_of
    says_grouped g l i p before h f =
        let (a, b, c) = sound_parts kind numbers digits ten sixteen e in
        let v = grouped_value kind five digits sixteen x p in
        let one : suc digits ≡ digits + 1 = omega arith in
        let goes : goes_on_dotted (address_of kind digits ten sixteen before) x ≡ false = sym (dotted_is kind digits ten sixteen before x) ∙ i in
        ap (λ t. step_of t x) (sound before h)
        ∙ digit_more (address_of kind digits ten sixteen before) x (ends before h false g) (no_less_hex x (grouped_hex kind five digits sixteen x p)) l (rw (goes, grouped_by before h true f p) refl)
        ∙ (λ j. on (address_left (record { kind = if goes j then kind_of kind else grouped; before = before; digits = one j; ten = tens; sixteen = sixteens })))
        ∙ ap on (sym (left_sound 2 (digits + 1) tens sixteens before (ap (λ n. is_sound 2 n (digits + 1) tens sixteens) h ∙ more_sound 2 l v (fits_two (fits_few kind numbers ten a)))))

-- ------------------------------------------------------------------ as the code says them

module _ (kind numbers ten : ℕ) where
  pub stands_some : kind ≡ 0 → (numbers ≡ 0 → ⊥) → false ≡ fits_kind kind numbers ten
  unfolding fits_kind
  stands_some e f = rw (e, ne_eqb numbers 0 f) refl

  pub stands_first : kind ≡ 0 → numbers ≡ 0 → leb ten 255 ≡ fits_kind kind numbers ten
  unfolding fits_kind
  stands_first e f = rw (e, f) refl

  pub stands_many : kind ≡ 1 → 3 < numbers → false ≡ fits_kind kind numbers ten
  unfolding fits_kind
  stands_many e f = rw (e, lt-leb numbers 3 f) refl

  pub stands_dotted : kind ≡ 1 → numbers ≤ 3 → leb ten 255 ≡ fits_kind kind numbers ten
  unfolding fits_kind
  stands_dotted e f = rw (e, le-leb numbers 3 f) refl

  pub stands_grouped : (kind ≡ 0 → ⊥) → (kind ≡ 1 → ⊥) → leb numbers 7 ≡ fits_kind kind numbers ten
  unfolding fits_kind
  stands_grouped e f = rw (ne_eqb kind 0 e, ne_eqb kind 1 f) refl

module _ (kind numbers digits ten sixteen : ℕ) where
  pub open_none : fits_kind kind numbers ten ≡ false → false ≡ is_sound kind numbers digits ten sixteen
  unfolding is_sound
  open_none e = rw e refl

  pub open_over : (below : ℕ) → below ≡ limit digits → fits_kind kind numbers ten ≡ true → below ≤ sixteen → false ≡ is_sound kind numbers digits ten sixteen
  unfolding is_sound
  open_over below q e f = rw (e, sym q, le-ltb sixteen below f) refl

  pub open_by : (below : ℕ) → below ≡ limit digits → fits_kind kind numbers ten ≡ true → sixteen < below → ltb ten below ≡ is_sound kind numbers digits ten sixteen
  unfolding is_sound
  open_by below q e f = rw (e, sym q, lt-ltb sixteen below f) refl

pub ended_at_less : (ten sixteen x : ℕ) → x ≡ 60 → SourceTurn.Ended ≡ number_ended ten sixteen x
unfolding number_ended
ended_at_less ten sixteen x e = rw (eq-eqb x 60 e) refl

pub ended_at_dot : (ten sixteen x : ℕ) → (x ≡ 60 → ⊥) → x ≡ 46 → SourceTurn.Number 1 ten ≡ number_ended ten sixteen x
unfolding number_ended
ended_at_dot ten sixteen x e f = rw (ne_eqb x 60 e, eq-eqb x 46 f) refl

pub ended_at_colon : (ten sixteen x : ℕ) → (x ≡ 60 → ⊥) → (x ≡ 46 → ⊥) → SourceTurn.Number 2 sixteen ≡ number_ended ten sixteen x
unfolding number_ended
ended_at_colon ten sixteen x e f = rw (ne_eqb x 60 e, ne_eqb x 46 f) refl

pub grown_by : (kind digits ten sixteen x v : ℕ) → v ≡ digit_value x → SourceTurn.More (record { kind = kind; digits = digits + 1; ten = ten * 10 + v; sixteen = sixteen * 16 + v }) ≡ grown kind digits ten sixteen x
unfolding grown
grown_by kind digits ten sixteen x v e = λ j. SourceTurn.More (record { kind = kind; digits = digits + 1; ten = ten * 10 + e j; sixteen = sixteen * 16 + e j })

less_last : (kind numbers digits x : ℕ) → ends_in kind numbers digits x ≡ true → x ≡ 60 → is_last (kind_of kind) numbers ≡ true
unfolding ends_in
less_last kind numbers digits x e f = go (ltb 0 digits) (is_last (kind_of kind) numbers) refl (rw f at e)
  where
    go : (a b : Bool) → is_last (kind_of kind) numbers ≡ b → (a && (b || false || false)) ≡ true → is_last (kind_of kind) numbers ≡ true
    go a true g h = g
    go true false g h = absurd (false≢true h)
    go false false g h = absurd (false≢true h)

-- a turn that is refused, and a digit more
pub is_refused : (kind numbers : ℕ) (five : Bool) (digits ten sixteen x : ℕ) → Sources kind numbers five digits ten sixteen x 20 0 0 0 0 0 → Turns kind numbers five digits ten sixteen x (Err Refusal.Outside)
unfolding Turns refusal_number
is_refused kind numbers five digits ten sixteen x h = h

pub is_grown : (kind numbers : ℕ) (five : Bool) (digits ten sixteen x k : ℕ) → eqb k 1 ≡ eqb kind 1
    → Sources kind numbers five digits ten sixteen x 0 k (digits + 1) (ten * 10 + digit_value x) (sixteen * 16 + digit_value x) 0 → Turns kind numbers five digits ten sixteen x (Ok (grown k digits ten sixteen x))
unfolding grown Turns
is_grown kind numbers five digits ten sixteen x k q h = (h, q)

-- a group goes on no dotted address
pub not_dotted_kind : (kind : ℕ) (five : Bool) (digits sixteen x : ℕ) → grouped_on kind five digits sixteen x ≡ true → eqb 2 1 ≡ eqb kind 1
unfolding grouped_on can_be_grouped kind_of
not_dotted_kind kind five digits sixteen x e = go (eqb kind 1) refl
  where
    go : (b : Bool) → eqb kind 1 ≡ b → eqb 2 1 ≡ eqb kind 1
    go true q = absurd (false≢true (rw (eqb-true kind 1 q) at e))
    go false q = sym q

-- where a number of a dotted address, or of one of groups, ends
fits_octet : (kind numbers ten : ℕ) → fits_kind kind numbers ten ≡ true → kind ≡ 1 → ten ≤ 255
unfolding fits_kind
fits_octet kind numbers ten e q = leb-true ten 255 (both (leb numbers 3) (leb ten 255) (rw q at e)).1

told_dot : (kind numbers digits ten sixteen x : ℕ) → is_sound kind numbers digits ten sixteen ≡ true → ends_in kind numbers digits x ≡ true → x ≡ 46 → number_told kind numbers ten sixteen 1 ten
unfolding number_told fits_kind
told_dot kind numbers digits ten sixteen x e g i = go (eqb kind 0) refl (eqb kind 1) refl
  where
    few : numbers < 3
    few = dot_few kind numbers digits x g i

    fits : fits_kind kind numbers ten ≡ true
    fits = (sound_parts kind numbers digits ten sixteen e).0

    go : (a : Bool) → eqb kind 0 ≡ a → (b : Bool) → eqb kind 1 ≡ b → number_told kind numbers ten sixteen 1 ten
    go true p b q = let (m, n) = both (eqb numbers 0) (leb ten 255) (rw (eqb-true kind 0 p) at fits) in inl (refl, refl, leb-true ten 255 n, few, inr (eqb-true numbers 0 m))
    go false p true q = inl (refl, refl, fits_octet kind numbers ten fits (eqb-true kind 1 q), few, inl (eqb-true kind 1 q))
    go false p false q = absurd (dot_grouped kind numbers digits x (eqb-false kind 0 p) (eqb-false kind 1 q) i g)

told_colon : (kind numbers digits ten sixteen x : ℕ) → ends_in kind numbers digits x ≡ true → (x ≡ 60 → ⊥) → (x ≡ 46 → ⊥) → number_told kind numbers ten sixteen 2 sixteen
unfolding number_told
told_colon kind numbers digits ten sixteen x g i j =
    let (colon, few) = colon_few kind numbers digits x g i j in
    inr (refl, refl, few, λ q. colon_dotted kind numbers digits x q colon g)

-- where a number ends, by `end_number`
module _ (kind numbers : ℕ) (five : Bool) (digits ten sixteen x : ℕ) (e : is_sound kind numbers digits ten sixteen ≡ true) (g : ends_in kind numbers digits x ≡ true) where
  abbrev Turned : SourceTurn → Type 0
  Turned t = Turns kind numbers five digits ten sixteen x (Ok t)

  pub turns_ended : Turned (number_ended ten sixteen x)
  unfolding Turns
  turns_ended = go (eqb x 60) refl (eqb x 46) refl
    where
      go : (a : Bool) → eqb x 60 ≡ a → (b : Bool) → eqb x 46 ≡ b → Turned (number_ended ten sixteen x)
      go true p b q = subst Turned (ended_at_less ten sixteen x (eqb-true x 60 p)) (says_ended kind numbers five digits ten sixteen x e g (eqb-true x 60 p), less_last kind numbers digits x g (eqb-true x 60 p), fits_octet kind numbers ten (sound_parts kind numbers digits ten sixteen e).0)
      go false p true q = subst Turned (ended_at_dot ten sixteen x (eqb-false x 60 p) (eqb-true x 46 q)) (says_dot kind numbers five digits ten sixteen x e g (eqb-true x 46 q), told_dot kind numbers digits ten sixteen x e g (eqb-true x 46 q))
      go false p false q = subst Turned (ended_at_colon ten sixteen x (eqb-false x 60 p) (eqb-false x 46 q)) (says_colon kind numbers five digits ten sixteen x e g (eqb-false x 60 p) (eqb-false x 46 q), told_colon kind numbers digits ten sixteen x g (eqb-false x 60 p) (eqb-false x 46 q))
