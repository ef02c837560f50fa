-- Laws of grammars: what can follow an octet, and the first octet that cannot stand there.
use mathlib.Core.Path.{◌≡◌, refl, sym, ap, ◌∙◌, subst}
use mathlib.Core.List.{List, [], ◌∷◌, ◌++◌, flatten, cons≢nil, nil≢cons, head-eq_of_cons-eq, tail-eq_of_cons-eq}
use mathlib.Core.Logic.{◌⊎◌, inl, inr}
use mathlib.Core.Bool.{Bool, true, false, ◌&&◌, ◌||◌, false≢true}
use Prim.Native.Nat.{ℕ, ◌≤◌}
use native.Mathlib.Omega.{arith}
use lib.Dec.{leb}
use borrow.Author.Tests.{leb-true, le-leb}
use Rattle.octets.specs.Octets.{Octets, between}
use Rattle.grammar.specs.Grammar.{Grammar, none, empty, range, ◌then◌, ◌or◌, many, Each, Text}
use Rattle.grammar.specs.code.Finding.{has_empty, has_text, ◌and_then◌, ◌or_else◌, following}

-- ------------------------------------------------------------------ lists

-- two texts that make an empty one are empty
both_empty : (u v : Octets) → [] ≡ u ++ v → ([] ≡ u) × ([] ≡ v)
both_empty [] v e = (refl, e)
both_empty (x ∷ u) v e = absurd (cons≢nil (sym e))

-- ------------------------------------------------------------------ tests

both_true : (a b : Bool) → (a && b) ≡ true → (a ≡ true) × (b ≡ true)
both_true true b e = (refl, e)
both_true false b e = absurd (false≢true e)

either_true : (a b : Bool) → (a || b) ≡ true → (a ≡ true) ⊎ (b ≡ true)
either_true true b e = inl refl
either_true false b e = inr e

left_true : {a : Bool} (b : Bool) → a ≡ true → (a || b) ≡ true
left_true b e = rw e

right_true : (a : Bool) {b : Bool} → b ≡ true → (a || b) ≡ true
right_true true e = refl
right_true false e = e

empty_then : (a b : Grammar) → has_empty (a then b) ≡ (has_empty a && has_empty b)
unfolding has_empty
empty_then a b = go (has_empty a) refl
  where
    go : (c : Bool) → has_empty a ≡ c → has_empty (a then b) ≡ (has_empty a && has_empty b)
    go true e = rw (e, has_empty)
    go false e = rw (e, has_empty)

empty_or : (a b : Grammar) → has_empty (a or b) ≡ (has_empty a || has_empty b)
unfolding has_empty
empty_or a b = go (has_empty a) refl
  where
    go : (c : Bool) → has_empty a ≡ c → has_empty (a or b) ≡ (has_empty a || has_empty b)
    go true e = rw (e, has_empty)
    go false e = rw (e, has_empty)

some_then : (a b : Grammar) → has_text (a then b) ≡ (has_text a && has_text b)
unfolding has_text
some_then a b = go (has_text a) refl
  where
    go : (c : Bool) → has_text a ≡ c → has_text (a then b) ≡ (has_text a && has_text b)
    go true e = rw (e, has_text)
    go false e = rw (e, has_text)

some_or : (a b : Grammar) → has_text (a or b) ≡ (has_text a || has_text b)
unfolding has_text
some_or a b = go (has_text a) refl
  where
    go : (c : Bool) → has_text a ≡ c → has_text (a or b) ≡ (has_text a || has_text b)
    go true e = rw (e, has_text)
    go false e = rw (e, has_text)

-- ------------------------------------------------------------------ the empty text

pub empty_sound : (g : Grammar) → has_empty g ≡ true → Text g []
unfolding has_empty Text flatten Each
empty_sound none e = absurd (false≢true e)
empty_sound empty e = refl
empty_sound (range low high) e = absurd (false≢true e)
empty_sound (a then b) e = let (f, g) = both_true (has_empty a) (has_empty b) (sym (empty_then a b) ∙ e) in ([], [], refl, empty_sound a f, empty_sound b g)
empty_sound (a or b) e = elim (either_true (has_empty a) (has_empty b) (sym (empty_or a b) ∙ e)) [ inl f ↦ inl (empty_sound a f) | inr f ↦ inr (empty_sound b f) ]
empty_sound (many a) e = ([], refl, tt)

pub empty_complete : (g : Grammar) → Text g [] → has_empty g ≡ true
unfolding has_empty Text
empty_complete none t = absurd t
empty_complete empty t = refl
empty_complete (range low high) t = absurd (nil≢cons t.1)
empty_complete (a then b) t =
    empty_then a b
    ∙ rw (empty_complete a (subst (Text a) (sym (both_empty t.0 t.1 t.2).0) t.3))
    (empty_complete b (subst (Text b) (sym (both_empty t.0 t.1 t.2).1) t.4))
empty_complete (a or b) (inl t) = empty_or a b ∙ left_true (has_empty b) (empty_complete a t)
empty_complete (a or b) (inr t) = empty_or a b ∙ right_true (has_empty a) (empty_complete b t)
empty_complete (many a) t = refl

-- ------------------------------------------------------------------ some text

pub some_sound : (g : Grammar) → has_text g ≡ true → (s : Octets) × Text g s
unfolding has_text Text flatten Each
some_sound none e = absurd (false≢true e)
some_sound empty e = ([], refl)
some_sound (range low high) e = (low ∷ [], (low, refl, omega arith, leb-true low high e))
some_sound (a then b) e =
    let (f, g) = both_true (has_text a) (has_text b) (sym (some_then a b) ∙ e) in
    let (u, t) = some_sound a f in
    let (v, r) = some_sound b g in
    (u ++ v, (u, v, refl, t, r))
some_sound (a or b) e = elim (either_true (has_text a) (has_text b) (sym (some_or a b) ∙ e)) [
  | inl f ↦ ((some_sound a f).0, inl (some_sound a f).1)
  | inr f ↦ ((some_sound b f).0, inr (some_sound b f).1)
]
some_sound (many a) e = ([], ([], refl, tt))

pub some_complete : (g : Grammar) (s : Octets) → Text g s → has_text g ≡ true
unfolding has_text Text
some_complete none s t = absurd t
some_complete empty s t = refl
some_complete (range low high) s t = le-leb low high (omega (arith, t.2, t.3))
some_complete (a then b) s t = some_then a b ∙ rw (some_complete a t.0 t.3) (some_complete b t.1 t.4)
some_complete (a or b) s (inl t) = some_or a b ∙ left_true (has_text b) (some_complete a s t)
some_complete (a or b) s (inr t) = some_or a b ∙ right_true (has_text a) (some_complete b s t)
some_complete (many a) s t = refl

-- ------------------------------------------------------------------ `then` and `or`, kept short

and_then_sound : (a b : Grammar) (s : Octets) → Text (a and_then b) s → Text (a then b) s
unfolding ◌and_then◌ Text
and_then_sound none b s t = absurd t
and_then_sound empty b s t = ([], s, refl, refl, t)
and_then_sound (range low high) b s t = t
and_then_sound (a then c) b s t = t
and_then_sound (a or c) b s t = t
and_then_sound (many a) b s t = t

and_then_complete : (a b : Grammar) (s : Octets) → Text (a then b) s → Text (a and_then b) s
unfolding ◌and_then◌ Text
and_then_complete none b s t = absurd t.3
and_then_complete empty b s t = subst (Text b) (sym (t.2 ∙ ap (λ u. u ++ t.1) t.3)) t.4
and_then_complete (range low high) b s t = t
and_then_complete (a then c) b s t = t
and_then_complete (a or c) b s t = t
and_then_complete (many a) b s t = t

or_else_sound : (a b : Grammar) (s : Octets) → Text (a or_else b) s → Text a s ⊎ Text b s
unfolding ◌or_else◌ Text
or_else_sound none b s t = inr t
or_else_sound empty b s t = t
or_else_sound (range low high) b s t = t
or_else_sound (a then c) b s t = t
or_else_sound (a or c) b s t = t
or_else_sound (many a) b s t = t

or_else_left : (a b : Grammar) (s : Octets) → Text a s → Text (a or_else b) s
unfolding ◌or_else◌ Text
or_else_left none b s t = absurd t
or_else_left empty b s t = inl t
or_else_left (range low high) b s t = inl t
or_else_left (a then c) b s t = inl t
or_else_left (a or c) b s t = inl t
or_else_left (many a) b s t = inl t

or_else_right : (a b : Grammar) (s : Octets) → Text b s → Text (a or_else b) s
unfolding ◌or_else◌ Text
or_else_right none b s t = t
or_else_right empty b s t = inr t
or_else_right (range low high) b s t = inr t
or_else_right (a then c) b s t = inr t
or_else_right (a or c) b s t = inr t
or_else_right (many a) b s t = inr t

-- ------------------------------------------------------------------ what follows an octet

following_none : (x : ℕ) (a b : Grammar) → has_empty a ≡ false → following x (a then b) ≡ following x a and_then b
unfolding following
following_none x a b e = rw (e, following)

following_some : (x : ℕ) (a b : Grammar) → has_empty a ≡ true → following x (a then b) ≡ (following x a and_then b) or_else following x b
unfolding following
following_some x a b e = rw (e, following)

range_in : (x low high : ℕ) → low ≤ x → x ≤ high → following x (range low high) ≡ empty
unfolding following between
range_in x low high p q = rw (le-leb low x p, le-leb x high q)

range_sound : (x low high : ℕ) (s : Octets) → Text (following x (range low high)) s → Text (range low high) (x ∷ s)
unfolding following between Text
range_sound x low high s t = go (leb low x && leb x high) refl
  where
    go : (c : Bool) → (leb low x && leb x high) ≡ c → Text (range low high) (x ∷ s)
    go true e = (x, ap (λ r. x ∷ r) (rw e at t), leb-true low x (both_true (leb low x) (leb x high) e).0, leb-true x high (both_true (leb low x) (leb x high) e).1)
    go false e = absurd (rw e at t)

-- a text of many that is not empty begins with one that is not empty
first_of_many : (a : Grammar) (x : ℕ) (s : Octets) (ts : List Octets) → x ∷ s ≡ flatten ts → Each (Text a) ts
    → (u v : Octets) × (s ≡ u ++ v) × Text a (x ∷ u) × Text (many a) v
unfolding Each Text flatten
first_of_many a x s [] e h = absurd (cons≢nil e)
first_of_many a x s ([] ∷ ts) e h = first_of_many a x s ts e h.1
first_of_many a x s ((y ∷ u) ∷ ts) e h = (u, flatten ts, tail-eq_of_cons-eq e, subst (λ z. Text a (z ∷ u)) (sym (head-eq_of_cons-eq e)) h.0, (ts, refl, h.1))

module _ (x : ℕ) (a b : Grammar) (s : Octets) (sound_a : (u : Octets) → Text (following x a) u → Text a (x ∷ u)) where
  front_sound : Text (following x a and_then b) s → Text (a then b) (x ∷ s)
  unfolding Text
  front_sound t =
      let (u, v, e, p, q) = and_then_sound (following x a) b s t in
      (x ∷ u, v, ap (λ r. x ∷ r) e, sound_a u p, q)

  then_sound : (Text (following x b) s → Text b (x ∷ s)) → Text (following x (a then b)) s → Text (a then b) (x ∷ s)
  unfolding Text
  then_sound sound_b t = go (has_empty a) refl
    where
      go : (c : Bool) → has_empty a ≡ c → Text (a then b) (x ∷ s)
      go true e = elim (or_else_sound (following x a and_then b) (following x b) s (rw (following_some x a b e) at t)) [
        | inl p ↦ front_sound p
        | inr p ↦ ([], x ∷ s, refl, empty_sound a e, sound_b p)
      ]
      go false e = front_sound (rw (following_none x a b e) at t)

many_sound : (x : ℕ) (a : Grammar) (s : Octets) → ((u : Octets) → Text (following x a) u → Text a (x ∷ u)) → Text (following x a and_then many a) s → Text (many a) (x ∷ s)
unfolding Text flatten Each
many_sound x a s sound_a t =
    let (u, v, e, p, q) = and_then_sound (following x a) (many a) s t in
    ((x ∷ u) ∷ q.0, ap (λ r. x ∷ r) (e ∙ ap (λ r. u ++ r) q.1), (sound_a u p, q.2))

pub following_sound : (x : ℕ) (g : Grammar) (s : Octets) → Text (following x g) s → Text g (x ∷ s)
unfolding Text following
following_sound x none s t = t
following_sound x empty s t = absurd t
following_sound x (range low high) s t = range_sound x low high s t
following_sound x (a then b) s t = then_sound x a b s (following_sound x a) (following_sound x b s) t
following_sound x (a or b) s t = elim (or_else_sound (following x a) (following x b) s t) [ inl p ↦ inl (following_sound x a s p) | inr p ↦ inr (following_sound x b s p) ]
following_sound x (many a) s t = many_sound x a s (following_sound x a) t

-- and back

module _ (x : ℕ) (a b : Grammar) (s : Octets) (complete_a : (u : Octets) → Text a (x ∷ u) → Text (following x a) u) where
  front_complete : (y : ℕ) (u v : Octets) → x ∷ s ≡ y ∷ (u ++ v) → Text a (y ∷ u) → Text b v → Text (following x a and_then b) s
  unfolding Text
  front_complete y u v e p q =
      and_then_complete (following x a) b s (u, v, tail-eq_of_cons-eq e, complete_a u (subst (λ z. Text a (z ∷ u)) (sym (head-eq_of_cons-eq e)) p), q)

  then_complete : ((u : Octets) → Text b (x ∷ u) → Text (following x b) u) → (u v : Octets) → x ∷ s ≡ u ++ v → Text a u → Text b v → Text (following x (a then b)) s
  then_complete complete_b [] v e p q = rw (following_some x a b (empty_complete a p)) (or_else_right (following x a and_then b) (following x b) s (complete_b s (subst (Text b) (sym e) q)))
  then_complete complete_b (y ∷ u) v e p q = go (has_empty a) refl
    where
      go : (c : Bool) → has_empty a ≡ c → Text (following x (a then b)) s
      go true f = rw (following_some x a b f) (or_else_left (following x a and_then b) (following x b) s (front_complete y u v e p q))
      go false f = rw (following_none x a b f) (front_complete y u v e p q)

range_complete : (x low high : ℕ) (s : Octets) → Text (range low high) (x ∷ s) → Text (following x (range low high)) s
unfolding Text
range_complete x low high s t =
    let e = head-eq_of_cons-eq t.1 in
    rw (range_in x low high (omega (arith, e, t.2)) (omega (arith, e, t.3))) (tail-eq_of_cons-eq t.1)

many_complete : (x : ℕ) (a : Grammar) (s : Octets) → ((u : Octets) → Text a (x ∷ u) → Text (following x a) u) → Text (many a) (x ∷ s) → Text (following x a and_then many a) s
unfolding Text
many_complete x a s complete_a t =
    let (u, v, e, p, q) = first_of_many a x s t.0 t.1 t.2 in
    and_then_complete (following x a) (many a) s (u, v, e, complete_a u p, q)

pub following_complete : (x : ℕ) (g : Grammar) (s : Octets) → Text g (x ∷ s) → Text (following x g) s
unfolding Text following
following_complete x none s t = t
following_complete x empty s t = absurd (cons≢nil t)
following_complete x (range low high) s t = range_complete x low high s t
following_complete x (a then b) s t = then_complete x a b s (following_complete x a) (following_complete x b) t.0 t.1 t.2 t.3 t.4
following_complete x (a or b) s (inl t) = or_else_left (following x a) (following x b) s (following_complete x a s t)
following_complete x (a or b) s (inr t) = or_else_right (following x a) (following x b) s (following_complete x b s t)
following_complete x (many a) s t = many_complete x a s (following_complete x a) t
