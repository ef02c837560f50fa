-- The proofs of what is claimed of every reading program.
use Rattle.std.specs.Prelude.{Option, None, Some}
use mathlib.Core.Path.{◌≡◌, refl, sym, ap, ◌∙◌, subst}
use mathlib.Core.List.{List, [], ◌∷◌, ◌++◌, flatten, cons≢nil, head-eq_of_cons-eq, tail-eq_of_cons-eq}
use mathlib.Core.Logic.{inl, inr}
use Prim.Native.Nat.{ℕ, suc, ◌+◌, ◌<◌}
use native.Mathlib.Omega.{arith}
use lib.ListN.{length, take}
use Rattle.octets.specs.Octets.{Octets}
use Rattle.octets.specs.Refusing.{ok, not_ok, refusal}
use Rattle.octets.specs.declared.Refusal.{Refusal}
use Rattle.parsing.specs.Reads.{Reads, done, give, next, Left, open_at, stuck, Reader, handing, run, feed, feed_all, ended, closed}
use Rattle.parsing.specs.Claims.{new, Parts}
use Rattle.parsing.specs.code.Whole.{Whole, Begun, Live, Reading}
use Rattle.parsing.proofs.RefusingLaws.{ok≢not-ok, ok_injective, refused_injective}
use Rattle.parsing.proofs.ReadsLaws.{run_on, run_stuck, feed_stuck, feed_settled, feed_flat, feed_append, then_feed, after_rows}
use Rattle.std.proofs.lemmas.Option.{none-some}

module _ {R A : Type 0} where
  -- ---------------------------------------------------------------- telling apart

  abbrev IsOpen : Left R A → Type 0
  IsOpen (open_at t) = Unit
  IsOpen (stuck q) = ⊥

  pub open≢stuck : {t : Reads R A} {q : Refusal} → ◌≡◌ {A = Left R A} (open_at t) (stuck q) → ⊥
  open≢stuck e = subst IsOpen e tt

  abbrev IsDone : Left R A → Type 0
  IsDone (stuck q) = ⊥
  IsDone (open_at (done a)) = Unit
  IsDone (open_at (give r t)) = ⊥
  IsDone (open_at (next f k)) = ⊥

  refusal_in : Refusal → Left R A → Refusal
  refusal_in d (open_at t) = d
  refusal_in d (stuck q) = q

  pub stuck_injective : {p q : Refusal} → ◌≡◌ {A = Left R A} (stuck p) (stuck q) → p ≡ q
  unfolding refusal_in
  stuck_injective {p} e = ap (refusal_in p) e

  value_in : A → Left R A → A
  value_in d (stuck q) = d
  value_in d (open_at (done a)) = a
  value_in d (open_at (give r t)) = d
  value_in d (open_at (next f k)) = d

  done_injective : {a b : A} → ◌≡◌ {A = Left R A} (open_at (done a)) (open_at (done b)) → a ≡ b
  unfolding value_in
  done_injective {a} e = ap (value_in a) e

  -- ---------------------------------------------------------------- whole texts

  pub run_whole : (t : Reads R A) (at : ℕ) (s : Octets) (rs : List R) (a : A) → Whole t s rs a → ((run at t s).rows ≡ rs) × ((run at t s).reader.left ≡ open_at (done a))
  unfolding Whole run handing
  run_whole (done b) at [] rs a w = (sym w.1, ap (λ c. open_at (done c)) w.2)
  run_whole (done b) at (x ∷ s) rs a w = absurd (cons≢nil w.0)
  run_whole (give r t) at s rs a w = let (h, i) = run_whole t at s w.0 a w.2 in (ap (λ l. r ∷ l) h ∙ sym w.1, i)
  run_whole (next refuses k) at [] rs a w = absurd (cons≢nil (sym w.2))
  run_whole (next refuses k) at (y ∷ s) rs a w =
      let (x, u, e, f, v) = w in
      let g : refuses y ≡ None = ap refuses (head-eq_of_cons-eq e) ∙ f in
      let (h, i) = run_whole (k y) (suc at) s rs a (subst (λ z. Whole (k z) s rs a) (sym (head-eq_of_cons-eq e)) (subst (λ z. Whole (k x) z rs a) (sym (tail-eq_of_cons-eq e)) v)) in
      (ap (λ z. z.rows) (run_on at refuses k y s g) ∙ h, ap (λ z. z.reader.left) (run_on at refuses k y s g) ∙ i)

  pub whole_run : (t : Reads R A) (at : ℕ) (s : Octets) (a : A) → (run at t s).reader.left ≡ open_at (done a) → Whole t s (run at t s).rows a
  unfolding Whole run handing
  whole_run (done b) at [] a e = (refl, refl, done_injective e)
  whole_run (done b) at (x ∷ s) a e = absurd (open≢stuck (sym e))
  whole_run (give r t) at s a e = ((run at t s).rows, refl, whole_run t at s a e)
  whole_run (next refuses k) at [] a e = absurd (subst IsDone (sym e) tt)
  whole_run (next refuses k) at (x ∷ s) a e = go (refuses x) refl (whole_run (k x) (suc at) s a)
    where
      go : (o : Option ℕ) → refuses x ≡ o → ((run (suc at) (k x) s).reader.left ≡ open_at (done a) → Whole (k x) s (run (suc at) (k x) s).rows a) → Whole (next refuses k) (x ∷ s) (run at (next refuses k) (x ∷ s)).rows a
      go None f h = (x, s, refl, f, subst (λ z. Whole (k x) s z.rows a) (sym (run_on at refuses k x s f)) (h (sym (ap (λ z. z.reader.left) (run_on at refuses k x s f)) ∙ e)))
      go (Some n) f h = absurd (open≢stuck (sym e ∙ ap (λ z. z.reader.left) (run_stuck at refuses k x s n f)))

  -- ---------------------------------------------------------------- texts that can be gone on with

  pub begun_give : (r : R) (t : Reads R A) (s : Octets) → Begun t s → Begun (give r t) s
  unfolding Whole
  begun_give r t s b = (b.0, r ∷ b.1, b.2, (b.1, refl, b.3))

  pub begun_give_back : (r : R) (t : Reads R A) (s : Octets) → Begun (give r t) s → Begun t s
  unfolding Whole
  begun_give_back r t s b = (b.0, b.3.0, b.2, b.3.2)

  pub begun_next : (refuses : ℕ → Option ℕ) (k : ℕ → Reads R A) (x : ℕ) (s : Octets) → refuses x ≡ None → Begun (k x) s → Begun (next refuses k) (x ∷ s)
  unfolding Whole
  begun_next refuses k x s e b = (b.0, b.1, b.2, (x, s ++ b.0, refl, e, b.3))

  pub begun_next_back : (refuses : ℕ → Option ℕ) (k : ℕ → Reads R A) (x : ℕ) (s : Octets) → Begun (next refuses k) (x ∷ s) → (refuses x ≡ None) × Begun (k x) s
  unfolding Whole
  begun_next_back refuses k x s b =
      let (rest, rs, a, w) = b in
      let (y, u, e, f, v) = w in
      (ap refuses (head-eq_of_cons-eq e) ∙ f, (rest, rs, a, subst (λ z. Whole (k z) (s ++ rest) rs a) (sym (head-eq_of_cons-eq e)) (subst (λ z. Whole (k y) z rs a) (sym (tail-eq_of_cons-eq e)) v)))

  pub begun_done : (a : A) → Begun {R = R} (done a) []
  unfolding Whole
  begun_done a = ([], [], a, (refl, refl, refl))

  pub done_begun : (a : A) (x : ℕ) (s : Octets) → Begun {R = R} (done a) (x ∷ s) → ⊥
  unfolding Whole
  done_begun a x s b = cons≢nil b.3.0

  -- a live program can always be gone on with
  pub live_begun : (t : Reads R A) → Live t → Begun t []
  unfolding Live
  live_begun (done a) l = begun_done a
  live_begun (give r t) l = begun_give r t [] (live_begun t l)
  live_begun (next refuses k) l =
      let (x, e) = l.0 in
      let b = begun_next refuses k x [] e (live_begun (k x) (l.1 x e)) in
      (x ∷ b.0, b.1, b.2, b.3)

  -- ---------------------------------------------------------------- the place of a refusal

  record Stuck (t : Reads R A) (s : Octets) (p : ℕ) : Type 0 where
    inside : p < length s
    before : Begun t (take p s)
    not_there : Begun t (take (suc p) s) → ⊥

  live_place : (t : Reads R A) (at : ℕ) (s : Octets) (q : Refusal) → Live t → (run at t s).reader.left ≡ stuck q → (p : ℕ) × (q.place ≡ at + p) × Stuck t s p
  unfolding Live run handing
  live_place (done a) at [] q l e = absurd (open≢stuck e)
  live_place (done a) at (x ∷ s) q l e = (0, omega (arith, ap (λ z. z.place) (stuck_injective e)), record { inside = omega arith; before = begun_done a; not_there = done_begun a x [] })
  live_place (give r t) at s q l e =
      let (p, i, h) = live_place t at s q l e in
      (p, i, record { inside = h.inside; before = begun_give r t (take p s) h.before; not_there = λ b. h.not_there (begun_give_back r t (take (suc p) s) b) })
  live_place (next refuses k) at [] q l e = absurd (open≢stuck e)
  live_place (next refuses k) at (x ∷ s) q l e = go (refuses x) refl (live_place (k x) (suc at) s q)
    where
      go : (o : Option ℕ) → refuses x ≡ o → (Live (k x) → (run (suc at) (k x) s).reader.left ≡ stuck q → (p : ℕ) × (q.place ≡ suc at + p) × Stuck (k x) s p) → (p : ℕ) × (q.place ≡ at + p) × Stuck (next refuses k) (x ∷ s) p
      go None f h =
          let (p, i, c) = h (l.1 x f) (sym (ap (λ z. z.reader.left) (run_on at refuses k x s f)) ∙ e) in (
            suc p,
            omega (arith, i),
            record {
              inside = omega (arith, c.inside);
              before = begun_next refuses k x (take p s) f c.before;
              not_there = λ b. c.not_there (begun_next_back refuses k x (take (suc p) s) b).1;
            },
          )
      go (Some n) f h =
          let i = stuck_injective (sym (ap (λ z. z.reader.left) (run_stuck at refuses k x s n f)) ∙ e) in (
            0,
            omega (arith, ap (λ z. z.place) i),
            record {
              inside = omega arith;
              before = live_begun (next refuses k) l;
              not_there = λ b. none-some n (sym (begun_next_back refuses k x [] b).0 ∙ f);
            },
          )

  -- a text that ends while the program is open
  pub live_open : (t : Reads R A) (at : ℕ) (s : Octets) (u : Reads R A) → Live t → (run at t s).reader.left ≡ open_at u → ((run at t s).reader.taken ≡ at + length s) × Begun t s
  unfolding Live run handing
  live_open (done a) at [] u l e = (omega arith, begun_done a)
  live_open (done a) at (x ∷ s) u l e = absurd (open≢stuck (sym e))
  live_open (give r t) at s u l e = let (i, b) = live_open t at s u l e in (i, begun_give r t s b)
  live_open (next refuses k) at [] u l e = (omega arith, live_begun (next refuses k) l)
  live_open (next refuses k) at (x ∷ s) u l e = go (refuses x) refl (live_open (k x) (suc at) s u)
    where
      go : (o : Option ℕ) → refuses x ≡ o → (Live (k x) → (run (suc at) (k x) s).reader.left ≡ open_at u → ((run (suc at) (k x) s).reader.taken ≡ suc at + length s) × Begun (k x) s)
          → ((run at (next refuses k) (x ∷ s)).reader.taken ≡ at + suc (length s)) × Begun (next refuses k) (x ∷ s)
      go None f h =
          let (i, b) = h (l.1 x f) (sym (ap (λ z. z.reader.left) (run_on at refuses k x s f)) ∙ e) in
          (omega (arith, i, ap (λ z. z.reader.taken) (run_on at refuses k x s f)), begun_next refuses k x s f b)
      go (Some n) f h = absurd (open≢stuck (sym e ∙ ap (λ z. z.reader.left) (run_stuck at refuses k x s n f)))

  -- ---------------------------------------------------------------- the end

  pub ended_done : (r : Reader R A) (a : A) → r.left ≡ open_at (done a) → ended r ≡ ok a
  unfolding ended
  ended_done r a e = rw (e, ended)

  ended_stuck : (r : Reader R A) (q : Refusal) → r.left ≡ stuck q → ended r ≡ not_ok q
  unfolding ended
  ended_stuck r q e = rw (e, ended)

  -- what an end says of the reader
  pub data End (r : Reader R A) : Type 0 where
    at_done : (a : A) → r.left ≡ open_at (done a) → ended r ≡ ok a → End r
    at_stuck : (q : Refusal) → r.left ≡ stuck q → ended r ≡ not_ok q → End r
    at_open : (t : Reads R A) → r.left ≡ open_at t → ended r ≡ not_ok (refusal 22 r.taken) → End r

  pub end_of : (r : Reader R A) → End r
  unfolding ended
  end_of r = go r.left refl
    where
      go : (l : Left R A) → r.left ≡ l → End r
      go (stuck q) e = at_stuck q e (ended_stuck r q e)
      go (open_at (done a)) e = at_done a e (ended_done r a e)
      go (open_at (give x t)) e = at_open (give x t) e (rw (e, ended))
      go (open_at (next f k)) e = at_open (next f k) e (rw (e, ended))

  pub reading : (t : Reads R A) (s : Octets) → Reading t s
  reading t s = record {
    accepted = λ a e. elim (end_of final) [
      | at_done b f g ↦ subst (Whole t s (run 0 t s).rows) (ok_injective (sym g ∙ e)) (whole_run t 0 s b f)
      | at_stuck q f g ↦ absurd (ok≢not-ok (sym e ∙ g))
      | at_open u f g ↦ absurd (ok≢not-ok (sym e ∙ g))
    ];
    whole = λ rs a w. let (h, i) = run_whole t 0 s rs a w in (h, ended_done final a i);
    place = λ l q e.
        let (p, i, h) = live_place t 0 s q l e in
        let same : p ≡ q.place = omega (arith, i) in
        subst (λ z. (z < length s) × Begun t (take z s) × (Begun t (take (suc z) s) → ⊥)) same (h.inside, h.before, h.not_there);
    early = λ l q e. elim (end_of final) [
      | at_done b f g ↦ absurd (ok≢not-ok (sym g ∙ e))
      | at_stuck p f g ↦ inl (f ∙ ap stuck (refused_injective (sym g ∙ e)))
      | at_open u f g ↦ let (i, b) = live_open t 0 s u l f in inr (sym (refused_injective (sym g ∙ e)) ∙ ap (refusal 22) (i ∙ omega arith), b)
    ];
  }
    where
      final : Reader R A
      final = (run 0 t s).reader

  closed_stuck : (r : Reader R A) (q : Refusal) → ended r ≡ not_ok q → (closed r).left ≡ stuck q
  unfolding closed
  closed_stuck r q e = rw (e, closed)

  rows_till : (t : Reads R A) (at : ℕ) (s : Octets) (q : Refusal) → (run at t s).reader.left ≡ stuck q → (p : ℕ) × (q.place ≡ at + p) × ((run at t s).rows ≡ (run at t (take p s)).rows)
  unfolding run handing
  rows_till (give r t) at s q e = let (p, i, c) = rows_till t at s q e in (p, i, ap (λ z. r ∷ z) c)
  rows_till (done a) at [] q e = absurd (open≢stuck e)
  rows_till (done a) at (x ∷ s) q e = (0, omega (arith, ap (λ z. z.place) (stuck_injective e)), refl)
  rows_till (next refuses k) at [] q e = absurd (open≢stuck e)
  rows_till (next refuses k) at (x ∷ s) q e = go (refuses x) refl (rows_till (k x) (suc at) s q)
    where
      go : (o : Option ℕ) → refuses x ≡ o → ((run (suc at) (k x) s).reader.left ≡ stuck q → (p : ℕ) × (q.place ≡ suc at + p) × ((run (suc at) (k x) s).rows ≡ (run (suc at) (k x) (take p s)).rows))
          → (p : ℕ) × (q.place ≡ at + p) × ((run at (next refuses k) (x ∷ s)).rows ≡ (run at (next refuses k) (take p (x ∷ s))).rows)
      go None f ih =
          let on = run_on at refuses k x s f in
          let (p, i, c) = ih (sym (ap (λ z. z.reader.left) on) ∙ e) in
          (suc p, omega (arith, i), ap (λ z. z.rows) on ∙ c ∙ sym (ap (λ z. z.rows) (run_on at refuses k x (take p s) f)))
      go (Some n) f ih =
          let on = run_stuck at refuses k x s n f in
          (0, omega (arith, ap (λ z. z.place) (stuck_injective (sym (ap (λ z. z.reader.left) on) ∙ e))), ap (λ z. z.rows) on)

  rows_before : (t : Reads R A) (s : Octets) (q : Refusal) → (feed (new t) s).reader.left ≡ stuck q → (feed (new t) s).rows ≡ (feed (new t) (take q.place s)).rows
  unfolding feed
  rows_before t s q e =
      let (p, i, c) = rows_till t 0 s q e in
      let same : p ≡ q.place = omega (arith, i) in
      subst (λ z. (run 0 t s).rows ≡ (run 0 t (take z s)).rows) same c

  pub parts : (t : Reads R A) → Parts t
  unfolding feed_all flatten then_feed after_rows
  parts t = record {
    any_cutting = λ s ss. ap (after_rows (feed (new t) s).rows) (feed_flat ss (feed (new t) s).reader (feed_settled (new t) s)) ∙ sym (feed_append (new t) s (flatten ss));
    same_again = λ s u q e. feed_stuck (feed (new t) s).reader q u e;
    after_the_end = λ s u q e. (closed_stuck (feed (new t) s).reader q e, feed_stuck (closed (feed (new t) s).reader) q u (closed_stuck (feed (new t) s).reader q e));
    rows_before = rows_before t;
  }
