-- Laws of the parts of a text.
use mathlib.Core.Bool.{Bool, true, false, ◌&&◌, ◌||◌, not, or-false, and-false}
use mathlib.Core.List.{List, [], ◌∷◌, ◌++◌, reverse, reverse-append, reverse-reverse}
use mathlib.Core.Path.{◌≡◌, refl, ap, ap₂, sym, ◌∙◌}
use Prim.Native.Nat.{ℕ, zero, suc, ◌+◌, ◌-◌, ◌≤◌, ◌<◌, min}
use native.Mathlib.Decide.{dec_le}
use native.Mathlib.Numerals.{add-one}
use native.Mathlib.Omega.{arith}
use lib.Dec.{eqb, leb, ltb, leb-suc-suc, leb-suc-zero}
use lib.ListN.{length, take, drop, get_or, length-drop, take-append-drop, drop_of_length-le}
use lib.Seq.{drop-cons, drop-drop, drop-length, take-suc, take_all}
use borrow.Author.Tests.{eq-eqb, ne_eqb, eqb-true, eqb-false, lt-ltb, le-leb, lt-leb}
use Rattle.octets.specs.Octets.{Octets, made_of, all, any, one_of, part_of, onto_first, split, front, after, is_blank, trim_end}
use Rattle.octets.proofs.LentLaws.{rest_of}

-- an octet that is neither of the first two marks
pub third : (b x y z : ℕ) → (b ≡ x → ⊥) → (b ≡ y → ⊥) → one_of (x ∷ y ∷ z ∷ []) b ≡ eqb b z
unfolding one_of any
third b x y z p q = rw (ne_eqb b x p, ne_eqb b y q, or-false)

-- ------------------------------------------------------------------ a part of a text

-- only as many octets are taken as there are
take_least : (n : ℕ) (s : Octets) → take (min n (length s)) s ≡ take n s
take_least n s = go (dec_le n (length s))
  where
    go : Dec (n ≤ length s) → take (min n (length s)) s ≡ take n s
    go (yes h) = let e : min n (length s) ≡ n = omega arith in rw e
    go (no h) = rw (take_all (min n (length s)) s (omega arith), take_all n s (omega arith))

-- a place past the end is the end
pub clipped : (s : Octets) (at : ℕ) → drop (min at (length s)) s ≡ drop at s
clipped s at = go (dec_le at (length s))
  where
    go : Dec (at ≤ length s) → drop (min at (length s)) s ≡ drop at s
    go (yes h) = let e : min at (length s) ≡ at = omega arith in rw e
    go (no h) = rw (drop_of_length-le s {i = min at (length s)} (omega arith), drop_of_length-le s {i = at} (omega arith))

-- a part, as the code takes it
module _ (s : Octets) (from end begin stop : ℕ) (e : stop ≡ min end (length s)) (f : begin ≡ min from stop) where
  part_size : stop - begin ≡ min (end - from) (length s - from)
  part_size = omega arith

  pub clipped_part : take (stop - begin) (drop begin s) ≡ part_of s from end
  unfolding part_of
  clipped_part = rw (part_size, ← take_least (end - from) (drop from s), length-drop) (go (dec_le from stop))
    where
      go : Dec (from ≤ stop) → take (min (end - from) (length s - from)) (drop begin s) ≡ take (min (end - from) (length s - from)) (drop from s)
      go (yes h) = let same : begin ≡ from = omega arith in rw same
      go (no h) = let none : min (end - from) (length s - from) ≡ 0 = omega arith in rw none

-- a part up to the end of the text
pub part_rest : (s : Octets) (at : ℕ) → part_of s at (length s) ≡ drop at s
unfolding part_of
part_rest s at = rest_of s at

-- ------------------------------------------------------------------ the front part of a class

module _ (f : ℕ → Bool) where
  front_pass : (x : ℕ) (xs : Octets) → f x ≡ true → front f (x ∷ xs) ≡ x ∷ front f xs
  unfolding front
  front_pass x xs e = rw (e, front)

  front_stop : (x : ℕ) (xs : Octets) → f x ≡ false → front f (x ∷ xs) ≡ []
  unfolding front
  front_stop x xs e = rw (e, front)

  after_pass : (x : ℕ) (xs : Octets) → f x ≡ true → after f (x ∷ xs) ≡ after f xs
  unfolding after
  after_pass x xs e = rw (e, after)

  after_stop : (x : ℕ) (xs : Octets) → f x ≡ false → after f (x ∷ xs) ≡ x ∷ xs
  unfolding after
  after_stop x xs e = rw (e, after)

  -- one octet more of the front part
  pub one_more : (s : Octets) (i : ℕ) → i < length s → f (get_or s i 0) ≡ true → i + length (front f (drop i s)) ≡ i + 1 + length (front f (drop (i + 1) s))
  one_more s i h e =
      rw (drop-cons s i 0 h, front_pass (get_or s i 0) (drop (suc i) s) e, add-one i) (omega arith)

  -- its end, at another octet and at the end of the text
  pub ends_before : (s : Octets) (i : ℕ) → i < length s → f (get_or s i 0) ≡ false → i + length (front f (drop i s)) ≡ i
  ends_before s i h e = rw (drop-cons s i 0 h, front_stop (get_or s i 0) (drop (suc i) s) e) (omega arith)

  pub ends_with : (s : Octets) (i : ℕ) → length s ≡ i → i + length (front f (drop i s)) ≡ i
  unfolding front
  ends_with s i h = rw (← h, drop-length s) (omega arith)

  -- the front part and what follows it are parts of the text
  pub front_fits : (s : Octets) → length (front f s) ≤ length s
  unfolding front
  front_fits [] = omega arith
  front_fits (x ∷ xs) = go (front_fits xs) (f x) refl
    where
      go : length (front f xs) ≤ length xs → (b : Bool) → f x ≡ b → length (front f (x ∷ xs)) ≤ suc (length xs)
      go ih true e = rw (e, front) (omega arith)
      go ih false e = rw (e, front) (omega arith)

  pub after_drop : (s : Octets) → after f s ≡ drop (length (front f s)) s
  unfolding front after
  after_drop [] = refl
  after_drop (x ∷ xs) = go (after_drop xs) (f x) refl
    where
      go : after f xs ≡ drop (length (front f xs)) xs → (b : Bool) → f x ≡ b → after f (x ∷ xs) ≡ drop (length (front f (x ∷ xs))) (x ∷ xs)
      go ih true e = rw (e, front, after) ih
      go ih false e = rw (e, front, after)

  front_take : (s : Octets) → front f s ≡ take (length (front f s)) s
  unfolding front
  front_take [] = refl
  front_take (x ∷ xs) = go (front_take xs) (f x) refl
    where
      go : front f xs ≡ take (length (front f xs)) xs → (b : Bool) → f x ≡ b → front f (x ∷ xs) ≡ take (length (front f (x ∷ xs))) (x ∷ xs)
      go ih true e = rw (e, front) (ap (λ (l : Octets). x ∷ l) ih)
      go ih false e = rw (e, front)

  pub front_after : (s : Octets) → s ≡ front f s ++ after f s
  front_after s = sym (take-append-drop (length (front f s)) s) ∙ ap₂ ◌++◌ (sym (front_take s)) (sym (after_drop s))

  -- the front part, as code takes it
  pub front_part : (s : Octets) (n : ℕ) → n ≡ length (front f s) → take (n - 0) s ≡ front f s
  front_part s n e =
      let all : n - 0 ≡ n = omega arith in
      rw (all, e) (sym (front_take s))

  pub front_end : (s : Octets) (n : ℕ) → n ≡ length (front f s) → n ≤ length s
  front_end s n e = rw e (front_fits s)

  -- a text all of whose octets pass is its own front part
  pub all_front : (s : Octets) → all f s ≡ leb (length s) (length (front f s))
  unfolding front all
  all_front [] = refl
  all_front (x ∷ xs) = go (all_front xs) (f x) refl
    where
      go : all f xs ≡ leb (length xs) (length (front f xs)) → (b : Bool) → f x ≡ b → (f x && all f xs) ≡ leb (suc (length xs)) (length (front f (x ∷ xs)))
      go ih true e = rw (e, front, leb-suc-suc) ih
      go ih false e = rw (e, front, leb-suc-zero)

-- an octet is one of a text's where it is found before the text's end
pub one_of_found : (b : ℕ) (s : Octets) → one_of s b ≡ ltb (length (front (λ x. not (eqb x b)) s)) (length s)
unfolding one_of any front
one_of_found b [] = refl
one_of_found b (x ∷ xs) = go (one_of_found b xs) (eqb x b) refl
  where
    go : one_of xs b ≡ ltb (length (front (λ y. not (eqb y b)) xs)) (length xs) → (t : Bool) → eqb x b ≡ t → (eqb b x || one_of xs b) ≡ ltb (length (front (λ y. not (eqb y b)) (x ∷ xs))) (suc (length xs))
    go ih true e =
        rw (eq-eqb b x (sym (eqb-true x b e)), front_stop (λ y. not (eqb y b)) x xs (ap not e))
        (sym (lt-ltb 0 (suc (length xs)) (omega arith)))
    go ih false e =
        rw (ne_eqb b x (λ p. eqb-false x b e (sym p)), front_pass (λ y. not (eqb y b)) x xs (ap not e), leb-suc-suc) ih

-- ------------------------------------------------------------------ the blanks at the end

module _ (s : Octets) (e : ℕ) (h : 0 < e) (k : e ≤ length s) where
  last_first : reverse (take e s) ≡ get_or s (e - 1) 0 ∷ reverse (take (e - 1) s)
  last_first =
      let one : e ≡ suc (e - 1) = omega arith in
      ap (λ (n : ℕ). reverse (take n s)) one
      ∙ ap reverse (take-suc s (e - 1) 0 (omega arith))
      ∙ reverse-append (take (e - 1) s) (get_or s (e - 1) 0 ∷ [])

  -- the last octet is a blank, or is kept
  pub cut : is_blank (get_or s (e - 1) 0) ≡ true → trim_end (take e s) ≡ trim_end (take (e - 1) s)
  unfolding trim_end
  cut b = ap reverse (ap (after is_blank) last_first ∙ after_pass is_blank (get_or s (e - 1) 0) (reverse (take (e - 1) s)) b)

  pub kept : is_blank (get_or s (e - 1) 0) ≡ false → trim_end (take e s) ≡ take (e - 0) s
  unfolding trim_end
  kept b =
      let all : e - 0 ≡ e = omega arith in
      ap reverse (ap (after is_blank) last_first ∙ after_stop is_blank (get_or s (e - 1) 0) (reverse (take (e - 1) s)) b ∙ sym last_first)
      ∙ reverse-reverse (take e s)
      ∙ ap (λ (n : ℕ). take n s) (sym all)

pub none_kept : (s : Octets) (e : ℕ) → e ≤ 0 → trim_end (take e s) ≡ []
unfolding trim_end after
none_kept s zero h = refl
none_kept s (suc e) h = absurd (omega arith)

-- ------------------------------------------------------------------ the parts between marks

pub split_found : (c x : ℕ) (xs : Octets) → eqb x c ≡ true → split c (x ∷ xs) ≡ [] ∷ split c xs
unfolding split
split_found c x xs e = rw (e, split)

pub split_other : (c x : ℕ) (xs : Octets) → eqb x c ≡ false → split c (x ∷ xs) ≡ onto_first x (split c xs)
unfolding split
split_other c x xs e = rw (e, split)

-- what follows a mark, where there is one
unfoldable pub next_parts : ℕ → Octets → List Octets
next_parts c [] = []
next_parts c (x ∷ xs) = split c xs

-- a text's first part, and its others
pub split_first : (c : ℕ) (s : Octets) → split c s ≡ front (λ x. not (eqb x c)) s ∷ next_parts c (after (λ x. not (eqb x c)) s)
unfolding split onto_first front after next_parts
split_first c [] = refl
split_first c (x ∷ xs) = go (split_first c xs) (eqb x c) refl
  where
    go : split c xs ≡ front (λ y. not (eqb y c)) xs ∷ next_parts c (after (λ y. not (eqb y c)) xs) → (b : Bool) → eqb x c ≡ b
        → split c (x ∷ xs) ≡ front (λ y. not (eqb y c)) (x ∷ xs) ∷ next_parts c (after (λ y. not (eqb y c)) (x ∷ xs))
    go ih true e = rw (e, split, front, after)
    go ih false e = rw (e, split, front, after, ih)

-- the other parts are those of what follows the mark, for whoever tells no empty part from none
pub split_next : {A : Type 0} (g : List Octets → A) → g [] ≡ g ([] ∷ []) → (c : ℕ) (s : Octets) → g (next_parts c (after (λ x. not (eqb x c)) s)) ≡ g (split c (drop (length (front (λ x. not (eqb x c)) s) + 1) s))
unfolding next_parts split
split_next g e c s =
    go (after f s)
    ∙ ap (λ (l : Octets). g (split c l)) (ap (drop 1) (after_drop f s) ∙ drop-drop 1 (length (front f s)) s)
  where
    f : ℕ → Bool
    f x = not (eqb x c)

    go : (u : Octets) → g (next_parts c u) ≡ g (split c (drop 1 u))
    go [] = e
    go (x ∷ xs) = refl

-- going on leaves less
pub goes_on : (n : ℕ) (s t : Octets) → t ≡ drop n s → 0 < n → 0 < length s → length t < length s
goes_on n s t e k h = omega (arith, ap length e, length-drop n s)

-- ------------------------------------------------------------------ a text of 1 to n octets of a class

module _ (n : ℕ) (f : ℕ → Bool) where
  pub made_of_none : (s : Octets) → length s ≡ 0 → made_of n f s ≡ false
  unfolding made_of
  made_of_none [] e = refl
  made_of_none (x ∷ s) e = absurd (omega arith)

  pub made_of_long : (s : Octets) → n < length s → made_of n f s ≡ false
  unfolding made_of
  made_of_long s h = rw (lt-leb (length s) n h, and-false)

  pub made_of_front : (s : Octets) → (length s ≡ 0 → ⊥) → length s ≤ n → made_of n f s ≡ leb (length s) (length (front f s))
  unfolding made_of
  made_of_front [] k h = absurd (k refl)
  made_of_front (x ∷ s) k h = rw (le-leb (length (x ∷ s)) n h) (all_front f (x ∷ s))
