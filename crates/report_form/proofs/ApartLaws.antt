-- The reader is the form with one refusal more: an end below begin, at the `<` after it.
use mathlib.Core.Path.{◌≡◌, refl, sym, ap, ◌∙◌, subst}
use mathlib.Core.List.{[], ◌∷◌}
use mathlib.Core.Logic.{◌⊎◌, inl, inr}
use mathlib.Core.Bool.{Bool, true, false, ◌&&◌}
use Prim.Native.Nat.{ℕ, zero, suc, ◌+◌, ◌-◌, ◌*◌, ◌^◌, ◌<◌}
use native.Mathlib.Omega.{arith}
use lib.Dec.{eqb, leb}
use lib.ListN.{length, take, get_or}
use borrow.Author.Tests.{eqb-true}
use Rattle.std.specs.Prelude.{if◌then◌else◌, Option, None, Some}
use Rattle.octets.specs.Octets.{Octets}
use Rattle.octets.specs.declared.Refusal.{Refusal}
use Rattle.parsing.specs.Reads.{Reads, done, give, next, ◌>>=◌, ◌>>◌, stuck, run, handing}
use Rattle.parsing.specs.code.Whole.{Begun, Live}
use Rattle.report_form.specs.ReportForm.{widths, Said}
use Rattle.report_form.specs.code.ReportReading.{number_refused, digit_refused, digits_more as number_from, reading_number as number, report_by, apart, reading_report as report}
use Rattle.parsing.proofs.ReadsLaws.{run_on, run_stuck}
use Rattle.parsing.proofs.ReadsClaimed.{open≢stuck, stuck_injective, begun_give, begun_give_back, begun_next, begun_next_back, begun_done, done_begun, live_begun}
use Rattle.report_form.proofs.LiveLaws.{live_apart}
use Rattle.std.proofs.lemmas.Option.{none-some, same_Some}

-- the first program refuses what the second does, and perhaps some `<` more, with 20
unfoldable pub Stricter : {R A : Type 0} → Reads R A → Reads R A → Type 0
Stricter (done a) (done b) = a ≡ b
Stricter (done a) (give q u) = ⊥
Stricter (done a) (next g l) = ⊥
Stricter (give r t) (done b) = ⊥
Stricter (give r t) (give q u) = Stricter t u
Stricter (give r t) (next g l) = ⊥
Stricter (next f k) (done b) = ⊥
Stricter (next f k) (give q u) = ⊥
Stricter (next f k) (next g l) = ((x : ℕ) → (f x ≡ g x) ⊎ ((x ≡ 60) × (f x ≡ Some 20))) × ((x : ℕ) → f x ≡ None → Stricter (k x) (l x))

stricter_refl : {R A : Type 0} (t : Reads R A) → Stricter t t
unfolding Stricter
stricter_refl (done a) = refl
stricter_refl (give r t) = stricter_refl t
stricter_refl (next f k) = (λ x. inl refl, λ x e. stricter_refl (k x))

stricter_bind : {R A B : Type 0} (t u : Reads R A) (f g : A → Reads R B) → Stricter t u → ((a : A) → Stricter (f a) (g a)) → Stricter (t >>= f) (u >>= g)
unfolding Stricter ◌>>=◌
stricter_bind (done a) (done b) f g s h = subst (λ c. Stricter (f a) (g c)) s (h a)
stricter_bind (done a) (give q u) f g s h = absurd s
stricter_bind (done a) (next m l) f g s h = absurd s
stricter_bind (give r t) (done b) f g s h = absurd s
stricter_bind (give r t) (give q u) f g s h = stricter_bind t u f g s h
stricter_bind (give r t) (next m l) f g s h = absurd s
stricter_bind (next m k) (done b) f g s h = absurd s
stricter_bind (next m k) (give q u) f g s h = absurd s
stricter_bind (next m k) (next n l) f g s h = (s.0, λ x e. stricter_bind (k x) (l x) f g (s.1 x e) h)

-- one program, and then another
stricter_after : {R A B : Type 0} (t : Reads R A) (f g : A → Reads R B) → ((a : A) → Stricter (f a) (g a)) → Stricter (t >>= f) (t >>= g)
stricter_after t f g h = stricter_bind t t f g (stricter_refl t) h

stricter_then : {R A B : Type 0} (t : Reads R A) (u v : Reads R B) → Stricter u v → Stricter (t >> u) (t >> v)
unfolding ◌>>◌
stricter_then t u v h = stricter_after t (λ _. u) (λ _. v) (λ _. h)

-- ------------------------------------------------------------------ a number with a test at its end

pub at_end : (least most : ℕ) (ends : ℕ → Bool) (value : ℕ) (some : Bool) (x : ℕ) → eqb x 60 ≡ true → number_refused least most ends value some x ≡ (if some && ends value then None else Some 20)
unfolding number_refused
at_end least most ends value some x e = rw e

pub not_at_end : (least most : ℕ) (ends : ℕ → Bool) (value : ℕ) (some : Bool) (x : ℕ) → eqb x 60 ≡ false → number_refused least most ends value some x ≡ digit_refused least most value some x
unfolding number_refused
not_at_end least most ends value some x e = rw e

stricter_digit : (least most : ℕ) (ends : ℕ → Bool) (value : ℕ) (some : Bool) (x : ℕ)
    → (number_refused least most ends value some x ≡ number_refused least most (λ n. true) value some x) ⊎ ((x ≡ 60) × (number_refused least most ends value some x ≡ Some 20))
stricter_digit least most ends value some x = go (eqb x 60) refl some (ends value) refl
  where
    go : (c : Bool) → eqb x 60 ≡ c → (d e : Bool) → ends value ≡ e
        → (number_refused least most ends value d x ≡ number_refused least most (λ n. true) value d x) ⊎ ((x ≡ 60) × (number_refused least most ends value d x ≡ Some 20))
    go false c d e f = inl (not_at_end least most ends value d x c ∙ sym (not_at_end least most (λ n. true) value d x c))
    go true c false e f = inl (at_end least most ends value false x c ∙ sym (at_end least most (λ n. true) value false x c))
    go true c true true f = inl (at_end least most ends value true x c ∙ ap (λ b. if b then None else Some 20) f ∙ sym (at_end least most (λ n. true) value true x c))
    go true c true false f = inr (eqb-true x 60 c, at_end least most ends value true x c ∙ ap (λ b. if b then None else Some 20) f)

stricter_elim : {A : Type 0} (c : Bool) (t u v : Reads Said A) → Stricter u v → Stricter {R = Said} {A = A} (elim c as (λ _. Reads Said A) [ true ↦ t | false ↦ u ]) (elim c as (λ _. Reads Said A) [ true ↦ t | false ↦ v ])
stricter_elim true t u v h = stricter_refl t
stricter_elim false t u v h = h

stricter_digits : (n least most : ℕ) (ends : ℕ → Bool) (value : ℕ) (some : Bool) → Stricter {R = Said} (number_from n least most ends value some) (number_from n least most (λ m. true) value some)
unfolding number_from Stricter
stricter_digits zero least most ends value some = (stricter_digit least most ends value some, λ x e. refl)
stricter_digits (suc n) least most ends value some = (stricter_digit least most ends value some, λ x e. stricter_elim (eqb x 60) _ _ _ (stricter_digits n least most ends (value * 10 + (x - 48)) true))

pub stricter_report : Stricter report (apart widths)
unfolding report apart report_by number
stricter_report =
    stricter_then _ _ _ (stricter_then _ _ _ (stricter_then _ _ _ (stricter_then _ _ _ (stricter_then _ _ _ (stricter_then _ _ _ (stricter_then _ _ _ (stricter_then _ _ _
    (stricter_after _ _ _ (λ b. stricter_then _ _ _ (stricter_bind _ _ _ _ (stricter_digits (suc (2 ^ 64 - 1)) 0 (2 ^ 64 - 1) (leb b) 0 false) (λ e. stricter_refl _)))))))))))

-- ------------------------------------------------------------------ the place of a refusal

module _ {R A : Type 0} where
  record Refuses (u : Reads R A) (s : Octets) (q : Refusal) (p : ℕ) : Type 0 where
    pub inside : p < length s
    pub before : Begun u (take p s)
    pub there : (Begun u (take (suc p) s) → ⊥) ⊎ ((get_or s p 0 ≡ 60) × (q.number ≡ 20))

  refuses_later : (f g : ℕ → Option ℕ) (l : ℕ → Reads R A) (x : ℕ) (s : Octets) (q : Refusal) (p : ℕ) → g x ≡ None → Refuses (l x) s q p → Refuses (next g l) (x ∷ s) q (suc p)
  refuses_later f g l x s q p e h = record {
    inside = omega (arith, h.inside);
    before = begun_next g l x (take p s) e h.before;
    there = elim h.there [ inl n ↦ inl (λ b. n (begun_next_back g l x (take (suc p) s) b).1) | inr n ↦ inr n ];
  }

  strict_place : (t u : Reads R A) (at : ℕ) (s : Octets) (q : Refusal) → Stricter t u → Live u → (run at t s).reader.left ≡ stuck q → (p : ℕ) × (q.place ≡ at + p) × Refuses u s q p
  unfolding Stricter Live run handing
  strict_place (done a) (done b) at [] q h l e = absurd (open≢stuck e)
  strict_place (done a) (done b) at (x ∷ s) q h l e = (0, omega (arith, ap (λ z. z.place) (stuck_injective e)), record { inside = omega arith; before = begun_done b; there = inl (done_begun b x []) })
  strict_place (done a) (give r u) at s q h l e = absurd h
  strict_place (done a) (next g k) at s q h l e = absurd h
  strict_place (give r t) (done b) at s q h l e = absurd h
  strict_place (give r t) (give w u) at s q h l e =
      let (p, i, c) = strict_place t u at s q h l e in (
        p,
        i,
        record {
          inside = c.inside;
          before = begun_give w u (take p s) c.before;
          there = elim c.there [ inl n ↦ inl (λ b. n (begun_give_back w u (take (suc p) s) b)) | inr n ↦ inr n ];
        },
      )
  strict_place (give r t) (next g k) at s q h l e = absurd h
  strict_place (next f k) (done b) at s q h l e = absurd h
  strict_place (next f k) (give w u) at s q h l e = absurd h
  strict_place (next f k) (next g m) at [] q h l e = absurd (open≢stuck e)
  strict_place (next f k) (next g m) at (x ∷ s) q h l e = go (f x) refl (h.0 x) (strict_place (k x) (m x) (suc at) s q)
    where
      Later : Type 0
      Later = Stricter (k x) (m x) → Live (m x) → (run (suc at) (k x) s).reader.left ≡ stuck q → (p : ℕ) × (q.place ≡ suc at + p) × Refuses (m x) s q p

      go : (o : Option ℕ) → f x ≡ o → (f x ≡ g x) ⊎ ((x ≡ 60) × (f x ≡ Some 20)) → Later → (p : ℕ) × (q.place ≡ at + p) × Refuses (next g m) (x ∷ s) q p
      go None i (inl j) r =
          let taken : g x ≡ None = sym j ∙ i in
          let (p, n, c) = r (h.1 x i) (l.1 x taken) (sym (ap (λ z. z.reader.left) (run_on at f k x s i)) ∙ e) in
          (suc p, omega (arith, n), refuses_later f g m x s q p taken c)
      go None i (inr j) r = absurd (none-some 20 (sym i ∙ j.1))
      go (Some n) i (inl j) r =
          let same = stuck_injective (sym (ap (λ z. z.reader.left) (run_stuck at f k x s n i)) ∙ e) in (
            0,
            omega (arith, ap (λ z. z.place) same),
            record {
              inside = omega arith;
              before = live_begun (next g m) l;
              there = inl (λ b. none-some n (sym (begun_next_back g m x [] b).0 ∙ sym j ∙ i));
            },
          )
      go (Some n) i (inr j) r =
          let same = stuck_injective (sym (ap (λ z. z.reader.left) (run_stuck at f k x s n i)) ∙ e) in (
            0,
            omega (arith, ap (λ z. z.place) same),
            record {
              inside = omega arith;
              before = live_begun (next g m) l;
              there = inr (j.0, sym (ap (λ z. z.number) same) ∙ same_Some n 20 (sym i ∙ j.1));
            },
          )

-- a refusal of the reader: what stands before its place begins a text of the form, and with the octet there none does, or that octet is a `<` refused 20
pub report_place : (s : Octets) (q : Refusal) → (run 0 report s).reader.left ≡ stuck q
    → (q.place < length s) × Begun (apart widths) (take q.place s) × ((Begun (apart widths) (take (suc q.place) s) → ⊥) ⊎ ((get_or s q.place 0 ≡ 60) × (q.number ≡ 20)))
report_place s q e =
    let (p, i, c) = strict_place report (apart widths) 0 s q stricter_report (live_apart widths (omega arith) (omega arith)) e in
    let same : p ≡ q.place = omega (arith, i) in
    subst (λ z. (z < length s) × Begun (apart widths) (take z s) × ((Begun (apart widths) (take (suc z) s) → ⊥) ⊎ ((get_or s z 0 ≡ 60) × (q.number ≡ 20)))) same (c.inside, c.before, c.there)
