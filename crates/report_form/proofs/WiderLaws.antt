-- Of the form with wider numbers: it takes the digit that takes a number over its width, and refuses whatever else is refused.
use mathlib.Core.Path.{◌≡◌, refl, sym, ap, ◌∙◌, subst}
use mathlib.Core.List.{[], ◌∷◌}
use mathlib.Core.Logic.{◌⊎◌, inl, inr}
use mathlib.Core.Bool.{Bool, true, false, ◌&&◌, ◌||◌, not, true≢false}
use Prim.Native.Nat.{ℕ, zero, suc, ◌+◌, ◌-◌, ◌*◌, ◌≤◌}
use Prim.Native.String.{String}
use native.Mathlib.Omega.{arith}
use lib.Dec.{eqb, leb}
use lib.ListN.{take}
use borrow.Author.Tests.{le-leb, leb-true}
use Rattle.std.specs.Prelude.{if◌then◌else◌, Option, None, Some}
use Rattle.octets.specs.Octets.{Octets, is_digit}
use Rattle.octets.specs.declared.Refusal.{Refusal}
use Rattle.parsing.specs.Reads.{Reads, done, give, next, ◌>>=◌, ◌>>◌, stuck, run, handing}
use Rattle.parsing.specs.code.Whole.{Begun, Live}
use Rattle.parsing.proofs.ReadsLaws.{run_on, run_stuck}
use Rattle.parsing.proofs.ReadsClaimed.{open≢stuck, stuck_injective, begun_give, begun_give_back, begun_next, begun_next_back, done_begun, live_begun}
use Rattle.report_form.specs.ReportForm.{Widths, Said}
use Rattle.report_form.specs.code.ReportReading.{reading_literal as literal, text, id, digit_refused, number_refused, digits_more as number_from, reading_number as number, next_number, either, reading_address as address, disposition, policy, mode, reading_row as row, records_from, report_by, apart}
use Rattle.report_form.proofs.TextBack.{both_true}
use Rattle.report_form.proofs.NumberBack.{taken_digit, digit_range, Before, before_more, too_long}
use Rattle.report_form.proofs.NumbersLaws.{Sane, sane_then, sane_done, sane_literal, sane_word, sane_text, sane_id, sane_name, sane_address_from, sane_dkim, sane_spf, sane_results, sane_extra, sane_policies}
use Rattle.std.proofs.lemmas.Option.{none-some, same_Some}

-- ------------------------------------------------------------------ one program beside another

-- an octet: both say the same, and not 21; or the first says 21 and the second takes it
unfoldable pub Beside : Option ℕ → Option ℕ → Type 0
Beside o p = ((o ≡ p) × (o ≡ Some 21 → ⊥)) ⊎ ((o ≡ Some 21) × (p ≡ None))

unfoldable pub Wider : {R A : Type 0} → Reads R A → Reads R A → Type 0
Wider (done a) (done b) = a ≡ b
Wider (done a) (give q u) = ⊥
Wider (done a) (next g l) = ⊥
Wider (give r t) (done b) = ⊥
Wider (give r t) (give q u) = Wider t u
Wider (give r t) (next g l) = ⊥
Wider (next f k) (done b) = ⊥
Wider (next f k) (give q u) = ⊥
Wider (next f k) (next g l) = ((x : ℕ) → Beside (f x) (g x)) × ((x : ℕ) → f x ≡ None → Wider (k x) (l x))

-- "20 text outside the form" and no other number
abbrev pub Plain : {R A : Type 0} → Reads R A → Type 0
Plain t = Sane (λ n. n ≡ 20) t

not_over : (o : Option ℕ) → ((n : ℕ) → o ≡ Some n → n ≡ 20) → o ≡ Some 21 → ⊥
not_over o h e = absurd (omega (arith, h 21 e))

wider_plain : {R A : Type 0} (t : Reads R A) → Plain t → Wider t t
unfolding Wider Beside Sane
wider_plain (done a) p = refl
wider_plain (give r t) p = wider_plain t p
wider_plain (next f k) p = (λ x. inl (refl, not_over (f x) (p.0 x)), λ x e. wider_plain (k x) (p.1 x))

wider_bind : {R A B : Type 0} (t u : Reads R A) (f g : A → Reads R B) → Wider t u → ((a : A) → Wider (f a) (g a)) → Wider (t >>= f) (u >>= g)
unfolding Wider ◌>>=◌
wider_bind (done a) (done b) f g s h = subst (λ c. Wider (f a) (g c)) s (h a)
wider_bind (done a) (give q u) f g s h = absurd s
wider_bind (done a) (next m l) f g s h = absurd s
wider_bind (give r t) (done b) f g s h = absurd s
wider_bind (give r t) (give q u) f g s h = wider_bind t u f g s h
wider_bind (give r t) (next m l) f g s h = absurd s
wider_bind (next m k) (done b) f g s h = absurd s
wider_bind (next m k) (give q u) f g s h = absurd s
wider_bind (next m k) (next n l) f g s h = (s.0, λ x e. wider_bind (k x) (l x) f g (s.1 x e) h)

wider_after : {A B : Type 0} (t : Reads Said A) (f g : A → Reads Said B) → Plain t → ((a : A) → Wider (f a) (g a)) → Wider (t >>= f) (t >>= g)
wider_after t f g p h = wider_bind t t f g (wider_plain t p) h

wider_then : {A B : Type 0} (t : Reads Said A) (u v : Reads Said B) → Plain t → Wider u v → Wider (t >> u) (t >> v)
unfolding ◌>>◌
wider_then t u v p h = wider_after t (λ _. u) (λ _. v) p (λ _. h)

wider_elim : {A : Type 0} (c : Bool) (t u v : Reads Said A) → Wider t t → (c ≡ false → Wider u v) → Wider {R = Said} {A = A} (elim c as (λ _. Reads Said A) [ true ↦ t | false ↦ u ]) (elim c as (λ _. Reads Said A) [ true ↦ t | false ↦ v ])
wider_elim true t u v g h = g
wider_elim false t u v g h = h refl

-- ------------------------------------------------------------------ a number

module _ (least most wide : ℕ) (ends : ℕ → Bool) (small : least ≤ 1) (room : most * 10 + 9 ≤ wide) where
  beside_digit : (value : ℕ) (some : Bool) (x : ℕ) → (some ≡ true → value ≤ most) → (some ≡ false → value ≡ 0)
      → Beside (number_refused least most ends value some x) (number_refused least wide ends value some x)
  unfolding number_refused digit_refused Beside
  beside_digit value some x m z = go (eqb x 60) (some && ends value) (is_digit x && not (some && eqb value 0) && (some || leb least (x - 48))) refl (leb (value * 10 + (x - 48)) most) refl
    where
      low : is_digit x ≡ true → value ≤ most → value * 10 + (x - 48) ≤ wide
      low d v = let (a, b) = digit_range x d in omega (arith, a, b, v, room)

      few : (c : Bool) → some ≡ c → value ≤ most
      few true e = m e
      few false e = omega (arith, z e)

      go : (a b c : Bool) → (is_digit x && not (some && eqb value 0) && (some || leb least (x - 48))) ≡ c → (d : Bool) → leb (value * 10 + (x - 48)) most ≡ d
          → Beside (if a then (if b then None else Some 20) else if c then if d then None else Some 21 else Some 20)
          (if a then (if b then None else Some 20) else if c then if leb (value * 10 + (x - 48)) wide then None else Some 21 else Some 20)
      go true true c e d f = inl (refl, λ g. none-some 21 g)
      go true false c e d f = inl (refl, λ g. let h : ◌≡◌ {A = ℕ} 20 21 = same_Some 20 21 g in absurd (omega (arith, h)))
      go false b false e d f = inl (refl, λ g. let h : ◌≡◌ {A = ℕ} 20 21 = same_Some 20 21 g in absurd (omega (arith, h)))
      go false b true e true f =
          let l : leb (value * 10 + (x - 48)) wide ≡ true = le-leb (value * 10 + (x - 48)) wide (omega (arith, leb-true (value * 10 + (x - 48)) most f, room)) in
          rw l (inl (refl, λ g. none-some 21 g))
      go false b true e false f =
          let (p, q) = both_true (is_digit x && not (some && eqb value 0)) (some || leb least (x - 48)) e in
          let (i, j) = both_true (is_digit x) (not (some && eqb value 0)) p in
          let l : leb (value * 10 + (x - 48)) wide ≡ true = le-leb (value * 10 + (x - 48)) wide (low i (few some refl)) in
          rw l (inr (refl, refl))

  -- the fuel of the first is enough, so that of the second is
  wider_digits : (n m value : ℕ) (some : Bool) → n ≤ m → Before least most ends small n value some
      → Wider {R = Said} (number_from n least most ends value some) (number_from m least wide ends value some)
  unfolding number_from Wider
  wider_digits zero zero value some l b = (beside value some b, λ x e. refl)
    where
      beside : (value : ℕ) (some : Bool) → Before least most ends small zero value some → (x : ℕ) → Beside (number_refused least most ends value some x) (number_refused least wide ends value some x)
      beside v c a x = beside_digit v c x a.most_before a.nothing_yet
  wider_digits zero (suc m) value some l b = ((λ x. beside_digit value some x b.most_before b.nothing_yet), λ x e. last x e (eqb x 60) refl)
    where
      last : (x : ℕ) → number_refused least most ends value some x ≡ None → (c : Bool) → eqb x 60 ≡ c
          → Wider {R = Said} (done value) (elim c as (λ _. Reads Said ℕ) [ true ↦ done value | false ↦ number_from m least wide ends (value * 10 + (x - 48)) true ])
      last x e true f = refl
      last x e false f = over some refl
        where
          over : (c : Bool) → some ≡ c → Wider {R = Said} (done value) (number_from m least wide ends (value * 10 + (x - 48)) true)
          over true g = let (d, i, j, k, h, t) = taken_digit least most ends small value some x f e in absurd (too_long least most ends small value d (b.room.0 g) (k g) j t)
          over false g = absurd (omega (arith, b.room.1 g))
  wider_digits (suc n) zero value some l b = absurd (omega (arith, l))
  wider_digits (suc n) (suc m) value some l b = (
    (λ x. beside_digit value some x b.most_before b.nothing_yet),
    λ x e.
        wider_elim (eqb x 60) (done value) _ _ refl (λ f. more x e f (wider_digits n m (value * 10 + (x - 48)) true (omega (arith, l)))),
  )
    where
      more : (x : ℕ) → number_refused least most ends value some x ≡ None → eqb x 60 ≡ false
          → (Before least most ends small n (value * 10 + (x - 48)) true → Wider {R = Said} (number_from n least most ends (value * 10 + (x - 48)) true) (number_from m least wide ends (value * 10 + (x - 48)) true))
          → Wider {R = Said} (number_from n least most ends (value * 10 + (x - 48)) true) (number_from m least wide ends (value * 10 + (x - 48)) true)
      more x e f h =
          let (d, i, j, k, g, t) = taken_digit least most ends small value some x f e in
          let v : d ≡ x - 48 = omega (arith, i) in
          h (subst (λ z. Before least most ends small n (value * 10 + z) true) v (before_more least most ends small n value some d b j k g t))

  wider_number : Wider {R = Said} (number least most ends) (number least wide ends)
  unfolding number
  wider_number = wider_digits (suc most) (suc wide) 0 false (omega (arith, room)) (record {
    room = ((λ z. absurd (true≢false (sym z))), λ _. refl);
    nothing_yet = λ _. refl;
    least_before = λ z. absurd (true≢false (sym z));
    most_before = λ z. absurd (true≢false (sym z));
  })

-- ------------------------------------------------------------------ the form

module _ (ws wide : Widths) (counts : ws.counts * 10 + 9 ≤ wide.counts) (times : ws.times * 10 + 9 ≤ wide.times) where
  abbrev P : ℕ → Type 0
  P n = n ≡ 20

  lit : (s : String) → Plain {R = Said} (literal s)
  lit s = sane_literal P refl s

  wider_row : Wider {R = Said} (row ws) (row wide)
  unfolding row disposition address
  wider_row =
      wider_then _ _ _ (lit _) (wider_after _ _ _ (sane_address_from P refl 7 (next_number either [])) (λ a.
      wider_then _ _ _ (lit _) (wider_bind _ _ _ _ (wider_number 1 ws.counts wide.counts (λ n. true) (omega arith) counts) (λ c.
      wider_then _ _ _ (lit _) (wider_after _ _ _ (sane_word P refl _ _) (λ d.
      wider_then _ _ _ (lit _) (wider_after _ _ _ (sane_dkim P refl d) (λ k.
      wider_then _ _ _ (lit _) (wider_after _ _ _ (sane_spf P refl d k) (λ s.
      wider_then _ _ _ (lit _) (wider_after _ _ _ (sane_name P refl) (λ f.
      wider_then _ _ _ (lit _) (wider_after _ _ _ (sane_results P refl 16 []) (λ r.
      wider_then _ _ _ (lit _) (wider_plain _ (sane_done P refl _))))))))))))))))

  wider_give : {A : Type 0} (r : Said) (t u : Reads Said A) → Wider t u → Wider (give r t) (give r u)
  unfolding Wider
  wider_give r t u h = h

  wider_end : {A : Type 0} (a : A) → Wider {R = Said} (done a) (done a)
  unfolding Wider
  wider_end a = refl

  wider_choice : {A : Type 0} (c : Bool) (t u v : Reads Said A) → Wider t v → Wider u u → Wider {R = Said} {A = A} (elim c as (λ _. Reads Said A) [ true ↦ t | false ↦ u ]) (elim c as (λ _. Reads Said A) [ true ↦ v | false ↦ u ])
  wider_choice true t u v g h = g
  wider_choice false t u v g h = h

  wider_records : (n : ℕ) → Wider (records_from ws n) (records_from wide n)
  unfolding records_from
  wider_records zero = wider_plain _ (lit "</feedback>")
  wider_records (suc n) = wider_after _ _ _ (sane_then P refl _ _ (lit "<") (sane_word P refl _ _)) (λ more.
      wider_choice more _ _ _ (wider_bind _ _ _ _ wider_row (λ r. wider_give r _ _ (wider_records n))) (wider_end tt))

  pub wider_apart : Wider (apart ws) (apart wide)
  unfolding apart report_by text id policy mode
  wider_apart =
      wider_then _ _ _ (lit _) (wider_then _ _ _ (sane_text P refl 4096 false) (wider_then _ _ _ (lit _) (wider_then _ _ _ (sane_text P refl 4096 false)
      (wider_then _ _ _ (lit _) (wider_then _ _ _ (sane_extra P refl) (wider_then _ _ _ (sane_id P refl 64 false)
      (wider_then _ _ _ (lit _) (wider_bind _ _ _ _ (wider_number 0 ws.times wide.times (λ n. true) (omega arith) times) (λ b.
      wider_then _ _ _ (lit _) (wider_bind _ _ _ _ (wider_number 0 ws.times wide.times (λ n. true) (omega arith) times) (λ e.
      wider_then _ _ _ (lit _) (wider_after _ _ _ (sane_name P refl) (λ d.
      wider_then _ _ _ (lit _) (wider_after _ _ _ (sane_word P refl _ _) (λ p.
      wider_then _ _ _ (lit _) (wider_then _ _ _ (sane_policies P refl) (wider_after _ _ _ (sane_word P refl _ _) (λ m.
      wider_then _ _ _ (lit _) (wider_after _ _ _ (sane_word P refl _ _) (λ a.
      wider_then _ _ _ (lit _) (wider_after _ _ _ (sane_word P refl _ _) (λ t.
      wider_then _ _ _ (lit _) (wider_bind _ _ _ _ wider_row (λ r. wider_give r _ _ (wider_records 255)))))))))))))))))))))))))

-- ------------------------------------------------------------------ which number

module _ {R A : Type 0} where
  -- 20 where the second can't have the octet either, 21 where it can
  unfoldable pub Which : Reads R A → Octets → ℕ → ℕ → Type 0
  Which u s number p = ((number ≡ 20) × (Begun u (take (suc p) s) → ⊥)) ⊎ ((number ≡ 21) × Begun u (take (suc p) s))

  pub wider_which : (t u : Reads R A) (at : ℕ) (s : Octets) (q : Refusal) → Wider t u → Live u → Sane (λ n. (n ≡ 20) ⊎ (n ≡ 21)) t → (run at t s).reader.left ≡ stuck q
      → (p : ℕ) × (q.place ≡ at + p) × Which u s q.number p
  unfolding Wider Beside Live Sane run handing Which
  wider_which (done a) (done b) at [] q h l n e = absurd (open≢stuck e)
  wider_which (done a) (done b) at (x ∷ s) q h l n e = (0, omega (arith, ap (λ z. z.place) (stuck_injective e)), inl (sym (ap (λ z. z.number) (stuck_injective e)), done_begun b x []))
  wider_which (done a) (give r u) at s q h l n e = absurd h
  wider_which (done a) (next g k) at s q h l n e = absurd h
  wider_which (give r t) (done b) at s q h l n e = absurd h
  wider_which (give r t) (give w u) at s q h l n e =
      let (p, i, c) = wider_which t u at s q h l n e in
      (p, i, elim c [ inl y ↦ inl (y.0, λ b. y.1 (begun_give_back w u (take (suc p) s) b)) | inr y ↦ inr (y.0, begun_give w u (take (suc p) s) y.1) ])
  wider_which (give r t) (next g k) at s q h l n e = absurd h
  wider_which (next f k) (done b) at s q h l n e = absurd h
  wider_which (next f k) (give w u) at s q h l n e = absurd h
  wider_which (next f k) (next g m) at [] q h l n e = absurd (open≢stuck e)
  wider_which (next f k) (next g m) at (x ∷ s) q h l n e = go (f x) refl (h.0 x) (wider_which (k x) (m x) (suc at) s q)
    where
      Later : Type 0
      Later = Wider (k x) (m x) → Live (m x) → Sane (λ n. (n ≡ 20) ⊎ (n ≡ 21)) (k x) → (run (suc at) (k x) s).reader.left ≡ stuck q → (p : ℕ) × (q.place ≡ suc at + p) × Which (m x) s q.number p

      go : (o : Option ℕ) → f x ≡ o → ((f x ≡ g x) × (f x ≡ Some 21 → ⊥)) ⊎ ((f x ≡ Some 21) × (g x ≡ None)) → Later → (p : ℕ) × (q.place ≡ at + p) × Which (next g m) (x ∷ s) q.number p
      go None i (inl j) r =
          let taken : g x ≡ None = sym j.0 ∙ i in
          let (p, o, c) = r (h.1 x i) (l.1 x taken) (n.1 x) (sym (ap (λ z. z.reader.left) (run_on at f k x s i)) ∙ e) in
          (suc p, omega (arith, o), elim c [ inl y ↦ inl (y.0, λ b. y.1 (begun_next_back g m x (take (suc p) s) b).1) | inr y ↦ inr (y.0, begun_next g m x (take (suc p) s) taken y.1) ])
      go None i (inr j) r = absurd (none-some 21 (sym i ∙ j.0))
      go (Some v) i j r =
          let same = stuck_injective (sym (ap (λ z. z.reader.left) (run_stuck at f k x s v i)) ∙ e) in
          (0, omega (arith, ap (λ z. z.place) same), by j (n.0 x v i))
        where
          is : v ≡ q.number
          is = ap (λ z. z.number) (stuck_injective (sym (ap (λ z. z.reader.left) (run_stuck at f k x s v i)) ∙ e))

          by : ((f x ≡ g x) × (f x ≡ Some 21 → ⊥)) ⊎ ((f x ≡ Some 21) × (g x ≡ None)) → (v ≡ 20) ⊎ (v ≡ 21) → Which (next g m) (x ∷ s) q.number 0
          by (inl y) (inl z) = inl (sym is ∙ z, λ b. none-some v (sym (begun_next_back g m x [] b).0 ∙ sym y.0 ∙ i))
          by (inl y) (inr z) = absurd (y.1 (i ∙ ap Some z))
          by (inr y) z = inr (sym is ∙ same_Some v 21 (sym i ∙ y.0), begun_next g m x [] y.1 (live_begun (m x) (l.1 x y.1)))
