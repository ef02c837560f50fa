-- Texts that a program reads on the way without handing out a row, up to where another program stands.
use mathlib.Core.Path.{◌≡◌, refl, sym, ap, ◌∙◌}
use mathlib.Core.List.{List, [], ◌∷◌, ◌++◌, append_assoc, cons≢nil}
use mathlib.Core.Bool.{Bool, true, false}
use Prim.Native.Nat.{ℕ, zero, suc, ◌+◌, ◌-◌, ◌≤◌, ◌<◌}
use native.Mathlib.Omega.{arith}
use lib.Dec.{leb}
use lib.ListN.{length, take, drop, length-append, take-append-drop}
use borrow.Author.Tests.{leb-true, leb-false}
use Rattle.octets.specs.Octets.{Octets}
use Rattle.parsing.specs.Reads.{Reads, done, give, next, ◌>>=◌, ◌>>◌, handing, run}
use Rattle.parsing.specs.code.Whole.{Whole}
use Rattle.parsing.proofs.ReadsLaws.{after_rows, then_feed, run_on, run_append}
use Rattle.parsing.proofs.ReadsClaimed.{run_whole}

-- ------------------------------------------------------------------ the front of two texts

take_in : (n : ℕ) (s v : Octets) → n < length s → take n (s ++ v) ≡ take n s
take_in zero s v h = refl
take_in (suc n) [] v h = absurd (omega (arith, h))
take_in (suc n) (x ∷ s) v h = ap (λ l. x ∷ l) (take_in n s v (omega (arith, h)))

take_past : (n : ℕ) (s v : Octets) → length s ≤ n → take n (s ++ v) ≡ s ++ take (n - length s) v
take_past n [] v h = let e : n ≡ n - 0 = omega arith in ap (λ k. take k v) e
take_past zero (x ∷ s) v h = absurd (omega (arith, h))
take_past (suc n) (x ∷ s) v h = let e : n - length s ≡ suc n - suc (length s) = omega arith in ap (λ l. x ∷ l) (take_past n s v (omega (arith, h)) ∙ ap (λ k. s ++ take k v) e)

first_none : {R : Type 0} (a b : List R) → a ++ b ≡ [] → a ≡ []
first_none [] b e = refl
first_none (x ∷ a) b e = absurd (cons≢nil e)

-- ------------------------------------------------------------------ silent programs

module _ {R A : Type 0} where
  -- t reads s, and stands then before u; no row is handed out, wherever s is cut
  pub record Silent (t : Reads R A) (s : Octets) (u : Reads R A) : Type 0 where
    pub passes : (at : ℕ) (v : Octets) → run at t (s ++ v) ≡ run (at + length s) u v
    pub quiet : (at n : ℕ) → n < length s → (run at t (take n s)).rows ≡ []

  pub silent_none : (t : Reads R A) → Silent t [] t
  silent_none t = record { passes = λ at v. let e : at ≡ at + 0 = omega arith in ap (λ k. run k t v) e; quiet = λ at n h. absurd (omega (arith, h)) }

  pub silent_both : (t u w : Reads R A) (s v : Octets) → Silent t s u → Silent u v w → Silent t (s ++ v) w
  silent_both t u w s v p q = record {
    passes = λ at z.
        let e : at + length s + length v ≡ at + length (s ++ v) = omega (arith, length-append s v) in
        ap (run at t) (append_assoc s v z) ∙ p.passes at (v ++ z) ∙ q.passes (at + length s) z ∙ ap (λ k. run k w z) e;
    quiet = λ at n h. go at n h (leb (length s) n) refl;
  }
    where
      go : (at n : ℕ) → n < length (s ++ v) → (b : Bool) → leb (length s) n ≡ b → (run at t (take n (s ++ v))).rows ≡ []
      go at n h false e = let l = leb-false (length s) n e in ap (λ z. (run at t z).rows) (take_in n s v l) ∙ p.quiet at n l
      go at n h true e =
          let l = leb-true (length s) n e in
          ap (λ z. (run at t z).rows) (take_past n s v l) ∙ ap (λ z. z.rows) (p.passes at (take (n - length s) v)) ∙ q.quiet (at + length s) (n - length s) (omega (arith, h, l, length-append s v))

  -- where a row is handed out behind such a text: not before its last octet, and then
  pub row_later : (t u : Reads R A) (r : R) (s v : Octets) → Silent t s (give r u) → (at n : ℕ) → n < length s → (run at t (take n (s ++ v))).rows ≡ []
  row_later t u r s v p at n h = ap (λ z. (run at t z).rows) (take_in n s v h) ∙ p.quiet at n h

  pub row_now : (t u : Reads R A) (r : R) (s v : Octets) → Silent t s (give r u) → (at n : ℕ) → length s ≤ n → (run at t (take n (s ++ v))).rows ≡ r ∷ (run (at + length s) u (take (n - length s) v)).rows
  unfolding run handing
  row_now t u r s v p at n h = ap (λ z. (run at t z).rows) (take_past n s v h) ∙ ap (λ z. z.rows) (p.passes at (take (n - length s) v))

  -- a text that is read whole without a row
  pub whole_quiet : (t : Reads R A) (s : Octets) (a : A) → Whole t s [] a → (at n : ℕ) → (run at t (take n s)).rows ≡ []
  unfolding then_feed after_rows
  whole_quiet t s a w at n =
      first_none (run at t (take n s)).rows _ (sym (ap (λ z. z.rows) (run_append t at (take n s) (drop n s))) ∙ ap (λ z. (run at t z).rows) (take-append-drop n s) ∙ (run_whole t at s [] a w).0)

module _ {R A B : Type 0} where
  passes_bind : (t : Reads R A) (f : A → Reads R B) (s : Octets) (a : A) → Whole t s [] a → (at : ℕ) (v : Octets) → run at (t >>= f) (s ++ v) ≡ run (at + length s) (f a) v
  unfolding Whole ◌>>=◌
  passes_bind (done c) f s a w at v =
      let e : at ≡ at + length s = omega (arith, ap length w.0) in
      ap (λ z. run at (f c) (z ++ v)) w.0 ∙ (λ j. run (e j) (f (w.2 j)) v)
  passes_bind (give r t) f s a w at v = absurd (cons≢nil (sym w.1))
  passes_bind (next m k) f s a w at v =
      let len : suc at + length w.1 ≡ at + length s = omega (arith, ap length w.2) in
      ap (λ z. run at (next m (λ y. k y >>= f)) (z ++ v)) w.2 ∙ run_on at m (λ y. k y >>= f) w.0 (w.1 ++ v) w.3 ∙ passes_bind (k w.0) f w.1 a w.4 (suc at) v ∙ ap (λ n. run n (f a) v) len

  quiet_bind : (t : Reads R A) (f : A → Reads R B) (s : Octets) (a : A) → Whole t s [] a → (at n : ℕ) → n < length s → (run at (t >>= f) (take n s)).rows ≡ []
  unfolding Whole ◌>>=◌ run
  quiet_bind (done c) f s a w at n h = absurd (omega (arith, h, ap length w.0))
  quiet_bind (give r t) f s a w at n h = absurd (cons≢nil (sym w.1))
  quiet_bind (next m k) f s a w at n h =
      ap (λ z. (run at (next m (λ y. k y >>= f)) (take n z)).rows) w.2 ∙ go n (omega (arith, h, ap length w.2)) (λ i. quiet_bind (k w.0) f w.1 a w.4 (suc at) i)
    where
      go : (n : ℕ) → n < suc (length w.1) → ((i : ℕ) → i < length w.1 → (run (suc at) (k w.0 >>= f) (take i w.1)).rows ≡ []) → (run at (next m (λ y. k y >>= f)) (take n (w.0 ∷ w.1))).rows ≡ []
      go zero h more = refl
      go (suc n) h more = ap (λ z. z.rows) (run_on at m (λ y. k y >>= f) w.0 (take n w.1) w.3) ∙ more n (omega (arith, h))

  pub silent_bind : (t : Reads R A) (f : A → Reads R B) (s : Octets) (a : A) → Whole t s [] a → Silent (t >>= f) s (f a)
  silent_bind t f s a w = record { passes = passes_bind t f s a w; quiet = quiet_bind t f s a w }

  pub silent_then : (t : Reads R A) (u : Reads R B) (s : Octets) (a : A) → Whole t s [] a → Silent (t >> u) s u
  unfolding ◌>>◌
  silent_then t u s a w = silent_bind t (λ _. u) s a w
