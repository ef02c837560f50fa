-- A number that is read is one in decimal, within its width.
use mathlib.Core.Path.{◌≡◌, refl, sym, ap, ◌∙◌, subst}
use mathlib.Core.List.{List, [], ◌∷◌, ◌++◌, append_assoc, append-nil}
use mathlib.Core.Bool.{Bool, true, false, ◌&&◌, ◌||◌, not, true≢false, false≢true}
use Prim.Native.Nat.{ℕ, zero, suc, ◌+◌, ◌-◌, ◌*◌, ◌/◌, ◌%◌, ◌≤◌, ◌<◌}
use native.Mathlib.Omega.{arith}
use lib.Dec.{eqb, leb}
use lib.ListN.{length, length-append}
use borrow.Author.Tests.{leb-true, eqb-true}
use Rattle.std.specs.Prelude.{if◌then◌else◌, Option, None, Some}
use Rattle.octets.specs.Octets.{Octets, is_digit, between}
use Rattle.octets.specs.Decimal.{decimal}
use Rattle.octets.proofs.DecimalLaws.{decimal_one, decimal_more, length_one}
use Rattle.parsing.specs.Reads.{Reads, done, next}
use Rattle.parsing.specs.code.Whole.{Whole}
use Rattle.report_form.specs.ReportForm.{Said}
use Rattle.report_form.specs.code.ReportReading.{digit_refused, number_refused, digits_more as number_from, reading_number as number}
use Rattle.report_form.proofs.NumberLaws.{decimal_few, whole_number}
use Rattle.report_form.proofs.Telling.{Tells, done_whole}
use Rattle.report_form.proofs.TextBack.{both_true}
use Rattle.std.proofs.lemmas.Option.{none-some}

next_whole : {A : Type 0} (refuses : ℕ → Option ℕ) (k : ℕ → Reads Said A) (s : Octets) (rs : List Said) (a : A) → Whole (next refuses k) s rs a → (x : ℕ) × (u : Octets) × (s ≡ x ∷ u) × (refuses x ≡ None) × Whole (k x) u rs a
unfolding Whole
next_whole refuses k s rs a w = w

pub digit_range : (x : ℕ) → is_digit x ≡ true → (48 ≤ x) × (x ≤ 57)
unfolding is_digit between
digit_range x g = let (a, b) = both_true (leb 48 x) (leb x 57) g in (leb-true 48 x a, leb-true x 57 b)

module _ (least most : ℕ) (ends : ℕ → Bool) (small : least ≤ 1) where
  -- a digit that is taken
  pub taken_digit : (value : ℕ) (some : Bool) (x : ℕ) → eqb x 60 ≡ false → number_refused least most ends value some x ≡ None
      → (d : ℕ) × (x ≡ 48 + d) × (d < 10) × (some ≡ true → 0 < value) × (some ≡ false → least ≤ d) × (value * 10 + d ≤ most)
  unfolding number_refused digit_refused
  taken_digit value some x e f = go (is_digit x && not (some && eqb value 0) && (some || leb least (x - 48))) refl (leb (value * 10 + (x - 48)) most) refl
    where
      f' : ◌≡◌ {A = Option ℕ} (if is_digit x && not (some && eqb value 0) && (some || leb least (x - 48)) then if leb (value * 10 + (x - 48)) most then None else Some 21 else Some 20) None
      f' = rw e at f

      positive : (c : Bool) → some ≡ c → not (some && eqb value 0) ≡ true → some ≡ true → 0 < value
      positive true p h q = by (eqb value 0) refl
        where
          by : (b : Bool) → eqb value 0 ≡ b → 0 < value
          by true i = let j : false ≡ true = rw (p, i) at h in absurd (false≢true j)
          by false i = nonzero value i
            where
              nonzero : (v : ℕ) → eqb v 0 ≡ false → 0 < v
              nonzero zero k = absurd (false≢true (sym k))
              nonzero (suc v) k = omega arith
      positive false p h q = absurd (false≢true (sym p ∙ q))

      go : (b : Bool) → (is_digit x && not (some && eqb value 0) && (some || leb least (x - 48))) ≡ b → (c : Bool) → leb (value * 10 + (x - 48)) most ≡ c
          → (d : ℕ) × (x ≡ 48 + d) × (d < 10) × (some ≡ true → 0 < value) × (some ≡ false → least ≤ d) × (value * 10 + d ≤ most)
      go false g c h = let j : ◌≡◌ {A = Option ℕ} (Some 20) None = rw g at f' in absurd (none-some 20 (sym j))
      go true g false h = let j : ◌≡◌ {A = Option ℕ} (Some 21) None = rw (g, h) at f' in absurd (none-some 21 (sym j))
      go true g true h =
          let (r, c) = both_true (is_digit x && not (some && eqb value 0)) (some || leb least (x - 48)) g in
          let (a, b) = both_true (is_digit x) (not (some && eqb value 0)) r in
          let (low, high) = digit_range x a in
          (x - 48, omega (arith, low), omega (arith, low, high), positive some refl b, (λ q. leb-true least (x - 48) (subst (λ z. (z || leb least (x - 48)) ≡ true) q c)), leb-true (value * 10 + (x - 48)) most h)

  -- a number, and the `<` after it: so many digits before, and those to come
  pub record Counted (value : ℕ) (some : Bool) (s : Octets) (rs : List Said) (a : ℕ) : Type 0 where
    pub digits : Octets
    pub is : s ≡ digits ++ (60 ∷ [])
    pub whole : (some ≡ true → decimal a ≡ decimal value ++ digits) × (some ≡ false → decimal a ≡ digits)
    pub large : least ≤ a
    pub fits : a ≤ most
    pub ended : ends a ≡ true
    pub bare : rs ≡ []

  -- what is known before
  pub record Before (n value : ℕ) (some : Bool) : Type 0 where
    pub room : (some ≡ true → length (decimal value) + n ≡ suc most) × (some ≡ false → n ≡ suc most)
    pub nothing_yet : some ≡ false → value ≡ 0
    pub least_before : some ≡ true → least ≤ value
    pub most_before : some ≡ true → value ≤ most

  at_mark : (n value : ℕ) (some : Bool) (s u : Octets) (rs : List Said) (a x : ℕ) → Before n value some → s ≡ x ∷ u → eqb x 60 ≡ true → number_refused least most ends value some x ≡ None
      → Whole {R = Said} (done value) u rs a → Counted value some s rs a
  unfolding number_refused
  at_mark n value some s u rs a x b e f g w = go some refl (ends value) refl
    where
      go : (c : Bool) → some ≡ c → (d : Bool) → ends value ≡ d → Counted value some s rs a
      go true p true q =
          let (i, j, k) = done_whole value u rs a w in
          record {
            digits = [];
            is = e ∙ (λ m. eqb-true x 60 f m ∷ i m);
            whole = (λ _. ap decimal (sym k) ∙ sym (append-nil (decimal value)), λ z. absurd (false≢true (sym z ∙ p)));
            large = subst (λ z. least ≤ z) k (b.least_before p);
            fits = subst (λ z. z ≤ most) k (b.most_before p);
            ended = ap ends (sym k) ∙ q;
            bare = j;
          }
      go true p false q = let j : ◌≡◌ {A = Option ℕ} (Some 20) None = rw (f, p, q) at g in absurd (none-some 20 (sym j))
      go false p d q = let j : ◌≡◌ {A = Option ℕ} (Some 20) None = rw (f, p) at g in absurd (none-some 20 (sym j))

  -- a digit more
  digits_of : (value d : ℕ) → 0 < value → d < 10 → decimal (value * 10 + d) ≡ decimal value ++ ((48 + d) ∷ [])
  digits_of value d h i =
      let j : (value * 10 + d) / 10 ≡ value = omega (arith, i) in
      let k : (value * 10 + d) % 10 ≡ d = omega (arith, i) in
      decimal_more (value * 10 + d) (omega (arith, h)) ∙ (λ m. decimal (j m) ++ ((48 + k m) ∷ []))

  pub before_more : (n value : ℕ) (some : Bool) (d : ℕ) → Before (suc n) value some → d < 10 → (some ≡ true → 0 < value) → (some ≡ false → least ≤ d) → value * 10 + d ≤ most → Before n (value * 10 + d) true
  before_more n value some d b h p l m = go some refl
    where
      none : true ≡ false → ⊥
      none z = true≢false z

      go : (c : Bool) → some ≡ c → Before n (value * 10 + d) true
      go true q = record {
        room = ((λ _. omega (arith, b.room.0 q, ap length (digits_of value d (p q) h), length-append (decimal value) ((48 + d) ∷ []))), λ z. absurd (none z));
        nothing_yet = λ z. absurd (none z);
        least_before = λ _. omega (arith, small, p q);
        most_before = λ _. m;
      }
      go false q =
          let zero_yet = b.nothing_yet q in
          let same : value * 10 + d ≡ d = omega (arith, zero_yet) in
          record {
            room = ((λ _. omega (arith, b.room.1 q, ap (λ z. length (decimal z)) same, length_one d h)), λ z. absurd (none z));
            nothing_yet = λ z. absurd (none z);
            least_before = λ _. omega (arith, l q, same);
            most_before = λ _. m;
          }

  counted_more : (value : ℕ) (some : Bool) (s u : Octets) (rs : List Said) (a x d : ℕ) → (some ≡ false → value ≡ 0) → s ≡ x ∷ u → x ≡ 48 + d → d < 10 → (some ≡ true → 0 < value)
      → Counted (value * 10 + d) true u rs a → Counted value some s rs a
  counted_more value some s u rs a x d z e f h p c = record {
    digits = (48 + d) ∷ c.digits;
    is = e ∙ (λ m. f m ∷ c.is m);
    whole = (
      λ q. c.whole.0 refl ∙ ap (λ l. l ++ c.digits) (digits_of value d (p q) h) ∙ append_assoc (decimal value) ((48 + d) ∷ []) c.digits,
      λ q.
          let same : value * 10 + d ≡ d = omega (arith, z q) in
          c.whole.0 refl ∙ ap (λ v. decimal v ++ c.digits) same ∙ ap (λ l. l ++ c.digits) (decimal_one d h),
    );
    large = c.large;
    fits = c.fits;
    ended = c.ended;
    bare = c.bare;
  }

  -- no room for a digit more: no number has more digits than itself and one
  pub too_long : (value d : ℕ) → length (decimal value) + 0 ≡ suc most → 0 < value → d < 10 → value * 10 + d ≤ most → ⊥
  too_long value d l p h m =
      let few : length (decimal (value * 10 + d)) ≤ suc (value * 10 + d) = decimal_few (value * 10 + d) in
      absurd (omega (arith, few, m, l, ap length (digits_of value d p h), length-append (decimal value) ((48 + d) ∷ [])))

  pub number_back : (n value : ℕ) (some : Bool) (s : Octets) (rs : List Said) (a : ℕ) → Before n value some → Whole {R = Said} (number_from n least most ends value some) s rs a → Counted value some s rs a
  unfolding number_from
  number_back zero value some s rs a b w = go (eqb x 60) refl some refl
    where
      cut : (x : ℕ) × (u : Octets) × (s ≡ x ∷ u) × (number_refused least most ends value some x ≡ None) × Whole {R = Said} (done value) u rs a
      cut = next_whole (number_refused least most ends value some) (λ x. done value) s rs a w

      x : ℕ
      x = cut.0

      go : (c : Bool) → eqb x 60 ≡ c → (d : Bool) → some ≡ d → Counted value some s rs a
      go true e d f = at_mark zero value some s cut.1 rs a x b cut.2 e cut.3 cut.4
      go false e true f = let (d, i, j, k, l, m) = taken_digit value some x e cut.3 in absurd (too_long value d (b.room.0 f) (k f) j m)
      go false e false f = let h = b.room.1 f in absurd (omega (arith, h))
  number_back (suc n) value some s rs a b w = go (λ v u. number_back n v true u rs a) (eqb x 60) refl
    where
      cut : (x : ℕ) × (u : Octets) × (s ≡ x ∷ u) × (number_refused least most ends value some x ≡ None)
          × Whole {R = Said} (elim (eqb x 60) as (λ _. Reads Said ℕ) [ true ↦ done value | false ↦ number_from n least most ends (value * 10 + (x - 48)) true ]) u rs a
      cut = next_whole (number_refused least most ends value some) _ s rs a w

      x : ℕ
      x = cut.0

      go : ((v : ℕ) (u : Octets) → Before n v true → Whole {R = Said} (number_from n least most ends v true) u rs a → Counted v true u rs a) → (c : Bool) → eqb x 60 ≡ c → Counted value some s rs a
      go more true e = at_mark (suc n) value some s cut.1 rs a x b cut.2 e cut.3 (rw e at cut.4)
      go more false e =
          let (d, i, j, k, l, m) = taken_digit value some x e cut.3 in
          let v : x - 48 ≡ d = omega (arith, i) in
          let u = cut.1 in
          let r : Whole {R = Said} (number_from n least most ends (value * 10 + (x - 48)) true) u rs a = rw e at cut.4 in
          counted_more value some s u rs a x d b.nothing_yet cut.2 i j k
          (more (value * 10 + d) u (before_more n value some d b j k l m) (subst (λ z. Whole {R = Said} (number_from n least most ends (value * 10 + z) true) u rs a) v r))

  pub number_told : (s : Octets) (rs : List Said) (a : ℕ) → Whole {R = Said} (number least most ends) s rs a
      → (x : ℕ) × ((least ≤ x) × (x ≤ most) × (ends x ≡ true)) × (s ≡ decimal x ++ (60 ∷ [])) × (rs ≡ []) × (a ≡ x)
  unfolding number
  number_told s rs a w =
      let c = number_back (suc most) 0 false s rs a (record { room = ((λ z. absurd (true≢false (sym z))), λ _. refl); nothing_yet = λ _. refl; least_before = λ z. absurd (true≢false (sym z)); most_before = λ z. absurd (true≢false (sym z)) }) w in
      (a, (c.large, c.fits, c.ended), c.is ∙ ap (λ l. l ++ (60 ∷ [])) (sym (c.whole.1 refl)), c.bare, refl)

  unfoldable pub tells_number : Tells (number least most ends)
  tells_number = record {
    Data = ℕ;
    text = λ x. decimal x ++ (60 ∷ []);
    rows = λ _. [];
    value = λ x. x;
    Good = λ x. (least ≤ x) × (x ≤ most) × (ends x ≡ true);
    into = λ x g. whole_number least most ends small x g.0 g.1 g.2;
    back = number_told;
  }
