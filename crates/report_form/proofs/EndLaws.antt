-- Where the reader refuses what the form takes: at the `<` after an end below begin.
use mathlib.Core.Path.{◌≡◌, refl, sym, ap, ◌∙◌, subst}
use mathlib.Core.List.{List, [], ◌∷◌, ◌++◌, append_assoc, append-nil}
use mathlib.Core.Logic.{◌⊎◌, inl, inr}
use mathlib.Core.Bool.{Bool, true, false, ◌&&◌, true≢false}
use Prim.Native.Nat.{ℕ, zero, suc, ◌+◌, ◌-◌, ◌*◌, ◌^◌, ◌/◌, ◌%◌, ◌<◌, ◌≤◌}
use native.Mathlib.Omega.{arith}
use lib.Dec.{eqb, leb}
use lib.ListN.{length, take, get_or}
use borrow.Author.Tests.{eqb-true, leb-false}
use Rattle.std.specs.Prelude.{if◌then◌else◌, Option, None, Some}
use Rattle.octets.specs.Octets.{Octets, octets}
use Rattle.octets.specs.Decimal.{decimal}
use Rattle.octets.proofs.DecimalLaws.{decimal_one, decimal_more}
use Rattle.octets.specs.declared.Refusal.{Refusal}
use Rattle.parsing.specs.Reads.{Reads, done, give, next, ◌>>=◌, ◌>>◌, exactly, stuck, run, handing}
use Rattle.parsing.specs.code.Whole.{Whole, Begun, Live}
use Rattle.report_form.specs.ReportForm.{widths, Said}
use Rattle.report_form.specs.code.ReportReading.{reading_literal as literal, number_refused, digits_more as number_from, reading_number as number, report_by, apart, reading_report as report}
use Rattle.parsing.proofs.ReadsLaws.{run_on, run_stuck}
use Rattle.parsing.proofs.ReadsClaimed.{open≢stuck, stuck_injective, begun_give, begun_give_back, begun_next, begun_next_back, begun_done, done_begun, live_begun}
use Rattle.report_form.proofs.LiveLaws.{live_apart}
use Rattle.report_form.proofs.ApartLaws.{at_end, not_at_end}
use Rattle.report_form.proofs.WholeLaws.{exactly_whole}
use Rattle.report_form.proofs.NumberBack.{taken_digit, number_told}
use Rattle.report.proofs.Regrouping.{leaf, ◌·◌, whole, along, regroup, lit}
use Rattle.std.proofs.lemmas.Option.{none-some, same_Some}

-- an end below begin, just read
pub record Below (pre : Octets) : Type 0 where
  pub front : Octets
  pub begin : ℕ
  pub end : ℕ
  pub written : pre ≡ front ++ octets "<begin>" ++ decimal begin ++ octets "</begin><end>" ++ decimal end
  pub below : end < begin

-- behind a text, the first program refuses what the second does, and perhaps a `<` after an end below begin
unfoldable Close : {A : Type 0} → Octets → Reads Said A → Reads Said A → Type 0
Close pre (done a) (done b) = a ≡ b
Close pre (done a) (give q u) = ⊥
Close pre (done a) (next g l) = ⊥
Close pre (give r t) (done b) = ⊥
Close pre (give r t) (give q u) = Close pre t u
Close pre (give r t) (next g l) = ⊥
Close pre (next f k) (done b) = ⊥
Close pre (next f k) (give q u) = ⊥
Close pre (next f k) (next g l) = ((x : ℕ) → (f x ≡ g x) ⊎ ((x ≡ 60) × (f x ≡ Some 20) × Below pre)) × ((x : ℕ) → f x ≡ None → Close (pre ++ (x ∷ [])) (k x) (l x))

close_refl : {A : Type 0} (t : Reads Said A) (pre : Octets) → Close pre t t
unfolding Close
close_refl (done a) pre = refl
close_refl (give r t) pre = close_refl t pre
close_refl (next f k) pre = (λ x. inl refl, λ x e. close_refl (k x) (pre ++ (x ∷ [])))

close_after : {A B : Type 0} (t : Reads Said A) (f g : A → Reads Said B) (pre : Octets) → ((a : A) (v : Octets) (rs : List Said) → Whole t v rs a → Close (pre ++ v) (f a) (g a)) → Close pre (t >>= f) (t >>= g)
unfolding Close ◌>>=◌ Whole
close_after (done a) f g pre h = subst (λ z. Close z (f a) (g a)) (append-nil pre) (h a [] [] (refl, refl, refl))
close_after (give r t) f g pre h = close_after t f g pre (λ a v rs w. h a v (r ∷ rs) (rs, refl, w))
close_after (next m k) f g pre h = (λ x. inl refl, λ x e. close_after (k x) f g (pre ++ (x ∷ [])) (λ a v rs w. subst (λ z. Close z (f a) (g a)) (sym (append_assoc pre (x ∷ []) v)) (h a (x ∷ v) rs (x, v, refl, e, w))))

close_then : {A B : Type 0} (t : Reads Said A) (f g : Reads Said B) (pre : Octets) → ((a : A) (v : Octets) (rs : List Said) → Whole t v rs a → Close (pre ++ v) f g) → Close pre (t >> f) (t >> g)
unfolding ◌>>◌
close_then t f g pre h = close_after t (λ _. f) (λ _. g) pre h

-- and then the same
close_bind : {A B : Type 0} (t u : Reads Said A) (f : A → Reads Said B) (pre : Octets) → Close pre t u → Close pre (t >>= f) (u >>= f)
unfolding Close ◌>>=◌
close_bind (done a) (done b) f pre c = subst (λ z. Close pre (f a) (f z)) c (close_refl (f a) pre)
close_bind (done a) (give q u) f pre c = absurd c
close_bind (done a) (next g l) f pre c = absurd c
close_bind (give r t) (done b) f pre c = absurd c
close_bind (give r t) (give q u) f pre c = close_bind t u f pre c
close_bind (give r t) (next g l) f pre c = absurd c
close_bind (next m k) (done b) f pre c = absurd c
close_bind (next m k) (give q u) f pre c = absurd c
close_bind (next m k) (next n l) f pre c = (c.0, λ x e. close_bind (k x) (l x) f (pre ++ (x ∷ [])) (c.1 x e))

-- ------------------------------------------------------------------ the end

close_elim : {A : Type 0} (c : Bool) (pre : Octets) (t u v : Reads Said A) → (c ≡ false → Close pre u v) → Close {A = A} pre (elim c as (λ _. Reads Said A) [ true ↦ t | false ↦ u ]) (elim c as (λ _. Reads Said A) [ true ↦ t | false ↦ v ])
close_elim true pre t u v h = close_refl t pre
close_elim false pre t u v h = h refl

module _ (front : Octets) (b : ℕ) where
  abbrev before_end : Octets
  before_end = front ++ octets "<begin>" ++ decimal b ++ octets "</begin><end>"

  close_test : (most value : ℕ) (some : Bool) (pre : Octets) (x : ℕ) → (some ≡ true → pre ≡ before_end ++ decimal value)
      → (number_refused 0 most (leb b) value some x ≡ number_refused 0 most (λ n. true) value some x) ⊎ ((x ≡ 60) × (number_refused 0 most (leb b) value some x ≡ Some 20) × Below pre)
  close_test most value some pre x h = go (eqb x 60) refl some refl (leb b value) refl
    where
      go : (c : Bool) → eqb x 60 ≡ c → (d : Bool) → some ≡ d → (e : Bool) → leb b value ≡ e
          → (number_refused 0 most (leb b) value some x ≡ number_refused 0 most (λ n. true) value some x) ⊎ ((x ≡ 60) × (number_refused 0 most (leb b) value some x ≡ Some 20) × Below pre)
      go false c d s e f = inl (not_at_end 0 most (leb b) value some x c ∙ sym (not_at_end 0 most (λ n. true) value some x c))
      go true c false s e f = inl (at_end 0 most (leb b) value some x c ∙ ap (λ z. if z && leb b value then None else Some 20) s ∙ sym (ap (λ z. if z && true then None else Some 20) s) ∙ sym (at_end 0 most (λ n. true) value some x c))
      go true c true s true f = inl (at_end 0 most (leb b) value some x c ∙ ap (λ z. if some && z then None else Some 20) f ∙ sym (at_end 0 most (λ n. true) value some x c))
      go true c true s false f = inr (
        eqb-true x 60 c,
        at_end 0 most (leb b) value some x c ∙ (λ j. if s j && f j then None else Some 20),
        record { front = front; begin = b; end = value; written = h s; below = leb-false b value f },
      )

  more_digits : (value d : ℕ) → 0 < value → d < 10 → decimal (value * 10 + d) ≡ decimal value ++ ((48 + d) ∷ [])
  more_digits value d h i =
      let j : (value * 10 + d) / 10 ≡ value = omega (arith, i) in
      let k : (value * 10 + d) % 10 ≡ d = omega (arith, i) in
      decimal_more (value * 10 + d) (omega (arith, h)) ∙ (λ m. decimal (j m) ++ ((48 + k m) ∷ []))

  longer : (most value : ℕ) (some : Bool) (pre : Octets) (x : ℕ) → (some ≡ true → pre ≡ before_end ++ decimal value) → (some ≡ false → (pre ≡ before_end) × (value ≡ 0)) → eqb x 60 ≡ false
      → number_refused 0 most (leb b) value some x ≡ None → pre ++ (x ∷ []) ≡ before_end ++ decimal (value * 10 + (x - 48))
  longer most value some pre x h z e f = go some refl
    where
      t : (d : ℕ) × (x ≡ 48 + d) × (d < 10) × (some ≡ true → 0 < value) × (some ≡ false → 0 ≤ d) × (value * 10 + d ≤ most)
      t = taken_digit 0 most (leb b) (omega arith) value some x e f

      d : ℕ
      d = t.0

      same : x - 48 ≡ d
      same = omega (arith, t.1)

      go : (c : Bool) → some ≡ c → pre ++ (x ∷ []) ≡ before_end ++ decimal (value * 10 + (x - 48))
      go true s =
          (λ j. h s j ++ (t.1 j ∷ [])) ∙ append_assoc before_end (decimal value) ((48 + d) ∷ []) ∙ ap (λ l. before_end ++ l) (sym (more_digits value d (t.3 s) t.2) ∙ ap (λ y. decimal (value * 10 + y)) (sym same))
      go false s =
          let v : d ≡ value * 10 + (x - 48) = omega (arith, (z s).1, same) in
          (λ j. (z s).0 j ++ (t.1 j ∷ [])) ∙ ap (λ l. before_end ++ l) (sym (decimal_one d t.2) ∙ ap decimal v)

  close_digits : (n most value : ℕ) (some : Bool) (pre : Octets) → (some ≡ true → pre ≡ before_end ++ decimal value) → (some ≡ false → (pre ≡ before_end) × (value ≡ 0))
      → Close pre (number_from n 0 most (leb b) value some) (number_from n 0 most (λ m. true) value some)
  unfolding number_from Close
  close_digits zero most value some pre h z = ((λ x. close_test most value some pre x h), λ x e. refl)
  close_digits (suc n) most value some pre h z = (
    (λ x. close_test most value some pre x h),
    λ x e. close_elim (eqb x 60) (pre ++ (x ∷ [])) _ _ _ (λ f. close_digits n most (value * 10 + (x - 48)) true (pre ++ (x ∷ [])) (λ _. longer most value some pre x h z f e) (λ q. absurd (true≢false q))),
  )

-- ------------------------------------------------------------------ the whole program

literal_is : (s : Octets) (v : Octets) (rs : List Said) (a : Unit {0}) → Whole {R = Said} (exactly s) v rs a → v ≡ s
literal_is s v rs a w = (exactly_whole s v rs w).0

before_is : (pre : Octets) (b : ℕ) → ((pre ++ octets "/report_id><date_range><begin>") ++ (decimal b ++ (60 ∷ []))) ++ octets "/begin><end>" ≡ (pre ++ octets "/report_id><date_range>") ++ octets "<begin>" ++ decimal b ++ octets "</begin><end>"
unfolding whole along lit octets
before_is pre b = regroup
    (((leaf pre · lit "/report_id><date_range><begin>") · (leaf (decimal b) · leaf (60 ∷ []))) · lit "/begin><end>")
    ((leaf pre · lit "/report_id><date_range>") · lit "<begin>" · leaf (decimal b) · lit "</begin><end>")
    refl

close_end : {B : Type 0} (pre : Octets) (b : ℕ) (v8 v9 v10 : Octets) (f : ℕ → Reads Said B) → v8 ≡ octets "/report_id><date_range><begin>" → v9 ≡ decimal b ++ (60 ∷ []) → v10 ≡ octets "/begin><end>"
    → Close (((pre ++ v8) ++ v9) ++ v10) (number 0 (2 ^ 64 - 1) (leb b) >>= f) (number 0 (2 ^ 64 - 1) (λ m. true) >>= f)
unfolding number
close_end pre b v8 v9 v10 f e g h = close_bind _ _ f (((pre ++ v8) ++ v9) ++ v10) (close_digits (pre ++ octets "/report_id><date_range>") b (suc (2 ^ 64 - 1)) (2 ^ 64 - 1) 0 false (((pre ++ v8) ++ v9) ++ v10)
    (λ q. absurd (true≢false (sym q))) (λ _. ((λ j. ((pre ++ e j) ++ g j) ++ h j) ∙ before_is pre b, refl)))

close_report : Close [] report (apart widths)
unfolding report apart report_by literal
close_report =
    close_then _ _ _ _ (λ _ v1 _ _. close_then _ _ _ _ (λ _ v2 _ _. close_then _ _ _ _ (λ _ v3 _ _. close_then _ _ _ _ (λ _ v4 _ _. close_then _ _ _ _ (λ _ v5 _ _. close_then _ _ _ _ (λ _ v6 _ _. close_then _ _ _ _ (λ _ v7 _ _.
    close_then _ _ _ _ (λ _ v8 r8 w8. close_after _ _ _ _ (λ b v9 r9 w9.
    close_then _ _ _ _ (λ _ v10 r10 w10.
    let (c, i, e, z, same) = number_told 0 (2 ^ 64 - 1) (λ n. true) (omega arith) v9 r9 b w9 in
    close_end ((((((([] ++ v1) ++ v2) ++ v3) ++ v4) ++ v5) ++ v6) ++ v7) b v8 v9 v10 _ (literal_is _ v8 r8 tt w8) (e ∙ ap (λ n. decimal n ++ (60 ∷ [])) (sym same)) (literal_is _ v10 r10 tt w10)))))))))))

-- ------------------------------------------------------------------ the place of a refusal

module _ {A : Type 0} where
  record Refuses (u : Reads Said A) (pre s : Octets) (p : ℕ) : Type 0 where
    inside : p < length s
    before : Begun u (take p s)
    there : (Begun u (take (suc p) s) → ⊥) ⊎ ((get_or s p 0 ≡ 60) × Below (pre ++ take p s))

  close_place : (t u : Reads Said A) (at : ℕ) (pre s : Octets) (q : Refusal) → Close pre t u → Live u → (run at t s).reader.left ≡ stuck q → (p : ℕ) × (q.place ≡ at + p) × Refuses u pre s p
  unfolding Close Live run handing
  close_place (done a) (done b) at pre [] q h l e = absurd (open≢stuck e)
  close_place (done a) (done b) at pre (x ∷ s) q h l e = (0, omega (arith, ap (λ z. z.place) (stuck_injective e)), record { inside = omega arith; before = begun_done b; there = inl (done_begun b x []) })
  close_place (done a) (give r u) at pre s q h l e = absurd h
  close_place (done a) (next g k) at pre s q h l e = absurd h
  close_place (give r t) (done b) at pre s q h l e = absurd h
  close_place (give r t) (give w u) at pre s q h l e =
      let (p, i, c) = close_place t u at pre s q h l e in (
        p,
        i,
        record {
          inside = c.inside;
          before = begun_give w u (take p s) c.before;
          there = elim c.there [ inl n ↦ inl (λ b. n (begun_give_back w u (take (suc p) s) b)) | inr n ↦ inr n ];
        },
      )
  close_place (give r t) (next g k) at pre s q h l e = absurd h
  close_place (next f k) (done b) at pre s q h l e = absurd h
  close_place (next f k) (give w u) at pre s q h l e = absurd h
  close_place (next f k) (next g m) at pre [] q h l e = absurd (open≢stuck e)
  close_place (next f k) (next g m) at pre (x ∷ s) q h l e = go (f x) refl (h.0 x) (close_place (k x) (m x) (suc at) (pre ++ (x ∷ [])) s q)
    where
      Later : Type 0
      Later = Close (pre ++ (x ∷ [])) (k x) (m x) → Live (m x) → (run (suc at) (k x) s).reader.left ≡ stuck q → (p : ℕ) × (q.place ≡ suc at + p) × Refuses (m x) (pre ++ (x ∷ [])) s p

      go : (o : Option ℕ) → f x ≡ o → (f x ≡ g x) ⊎ ((x ≡ 60) × (f x ≡ Some 20) × Below pre) → Later → (p : ℕ) × (q.place ≡ at + p) × Refuses (next g m) pre (x ∷ s) p
      go None i (inl j) r =
          let taken : g x ≡ None = sym j ∙ i in
          let (p, n, c) = r (h.1 x i) (l.1 x taken) (sym (ap (λ z. z.reader.left) (run_on at f k x s i)) ∙ e) in (
            suc p,
            omega (arith, n),
            record {
              inside = omega (arith, c.inside);
              before = begun_next g m x (take p s) taken c.before;
              there = elim c.there [
                | inl y ↦ inl (λ b. y (begun_next_back g m x (take (suc p) s) b).1)
                | inr y ↦ inr (y.0, subst Below (append_assoc pre (x ∷ []) (take p s)) y.1)
              ];
            },
          )
      go None i (inr j) r = absurd (none-some 20 (sym i ∙ j.1))
      go (Some n) i (inl j) r =
          let same = stuck_injective (sym (ap (λ z. z.reader.left) (run_stuck at f k x s n i)) ∙ e) in (
            0,
            omega (arith, ap (λ z. z.place) same),
            record {
              inside = omega arith;
              before = live_begun (next g m) l;
              there = inl (λ b. none-some n (sym (begun_next_back g m x [] b).0 ∙ sym j ∙ i));
            },
          )
      go (Some n) i (inr j) r =
          let same = stuck_injective (sym (ap (λ z. z.reader.left) (run_stuck at f k x s n i)) ∙ e) in (
            0,
            omega (arith, ap (λ z. z.place) same),
            record {
              inside = omega arith;
              before = live_begun (next g m) l;
              there = inr (j.0, subst Below (sym (append-nil pre)) j.2);
            },
          )

pub end_place : (s : Octets) (q : Refusal) → (run 0 report s).reader.left ≡ stuck q
    → (q.place < length s) × Begun (apart widths) (take q.place s) × ((Begun (apart widths) (take (suc q.place) s) → ⊥) ⊎ ((get_or s q.place 0 ≡ 60) × Below (take q.place s)))
end_place s q e =
    let (p, i, c) = close_place report (apart widths) 0 [] s q close_report (live_apart widths (omega arith) (omega arith)) e in
    let same : p ≡ q.place = omega (arith, i) in
    subst (λ z. (z < length s) × Begun (apart widths) (take z s) × ((Begun (apart widths) (take (suc z) s) → ⊥) ⊎ ((get_or s z 0 ≡ 60) × Below (take z s)))) same (c.inside, c.before, c.there)

-- ------------------------------------------------------------------ the same refusal

module _ {A : Type 0} where
  -- the second refuses the same, or the octet is a `<` after an end below begin
  close_stuck : (t u : Reads Said A) (at : ℕ) (pre s : Octets) (q : Refusal) → Close pre t u → (run at t s).reader.left ≡ stuck q
      → ((run at u s).reader.left ≡ stuck q) ⊎ ((q.number ≡ 20) × (p : ℕ) × (q.place ≡ at + p) × (get_or s p 0 ≡ 60) × Below (pre ++ take p s))
  unfolding Close run handing
  close_stuck (done a) (done b) at pre [] q h e = absurd (open≢stuck e)
  close_stuck (done a) (done b) at pre (x ∷ s) q h e = inl (ap stuck (stuck_injective e))
  close_stuck (done a) (give r u) at pre s q h e = absurd h
  close_stuck (done a) (next g k) at pre s q h e = absurd h
  close_stuck (give r t) (done b) at pre s q h e = absurd h
  close_stuck (give r t) (give w u) at pre s q h e = close_stuck t u at pre s q h e
  close_stuck (give r t) (next g k) at pre s q h e = absurd h
  close_stuck (next f k) (done b) at pre s q h e = absurd h
  close_stuck (next f k) (give w u) at pre s q h e = absurd h
  close_stuck (next f k) (next g m) at pre [] q h e = absurd (open≢stuck e)
  close_stuck (next f k) (next g m) at pre (x ∷ s) q h e = go (f x) refl (h.0 x) (close_stuck (k x) (m x) (suc at) (pre ++ (x ∷ [])) s q)
    where
      Same : Type 0
      Same = ((run at (next g m) (x ∷ s)).reader.left ≡ stuck q) ⊎ ((q.number ≡ 20) × (p : ℕ) × (q.place ≡ at + p) × (get_or (x ∷ s) p 0 ≡ 60) × Below (pre ++ take p (x ∷ s)))

      Later : Type 0
      Later = Close (pre ++ (x ∷ [])) (k x) (m x) → (run (suc at) (k x) s).reader.left ≡ stuck q
          → ((run (suc at) (m x) s).reader.left ≡ stuck q) ⊎ ((q.number ≡ 20) × (p : ℕ) × (q.place ≡ suc at + p) × (get_or s p 0 ≡ 60) × Below ((pre ++ (x ∷ [])) ++ take p s))

      go : (o : Option ℕ) → f x ≡ o → (f x ≡ g x) ⊎ ((x ≡ 60) × (f x ≡ Some 20) × Below pre) → Later → Same
      go None i (inl j) r = on (r (h.1 x i) (sym (ap (λ z. z.reader.left) (run_on at f k x s i)) ∙ e))
        where
          on : ((run (suc at) (m x) s).reader.left ≡ stuck q) ⊎ ((q.number ≡ 20) × (p : ℕ) × (q.place ≡ suc at + p) × (get_or s p 0 ≡ 60) × Below ((pre ++ (x ∷ [])) ++ take p s)) → Same
          on (inl y) = inl (ap (λ z. z.reader.left) (run_on at g m x s (sym j ∙ i)) ∙ y)
          on (inr (a, p, b, c, d)) = inr (a, suc p, omega (arith, b), c, subst Below (append_assoc pre (x ∷ []) (take p s)) d)
      go None i (inr j) r = absurd (none-some 20 (sym i ∙ j.1))
      go (Some n) i (inl j) r = inl (ap (λ z. z.reader.left) (run_stuck at g m x s n (sym j ∙ i)) ∙ sym (ap (λ z. z.reader.left) (run_stuck at f k x s n i)) ∙ e)
      go (Some n) i (inr j) r =
          let same = stuck_injective (sym (ap (λ z. z.reader.left) (run_stuck at f k x s n i)) ∙ e) in
          inr (sym (ap (λ z. z.number) same) ∙ same_Some n 20 (sym i ∙ j.1), 0, omega (arith, ap (λ z. z.place) same), j.0, subst Below (sym (append-nil pre)) j.2)

pub end_stuck : (s : Octets) (q : Refusal) → (run 0 report s).reader.left ≡ stuck q
    → ((run 0 (apart widths) s).reader.left ≡ stuck q) ⊎ ((q.number ≡ 20) × (p : ℕ) × (q.place ≡ 0 + p) × (get_or s p 0 ≡ 60) × Below ([] ++ take p s))
end_stuck s q e = close_stuck report (apart widths) 0 [] s q close_report e
