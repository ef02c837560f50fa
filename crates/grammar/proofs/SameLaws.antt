-- Grammars of the same texts; what an octet leaves of a grammar.
use Rattle.std.specs.Prelude.{Option, None, Some}
use mathlib.Core.Path.{◌≡◌, refl, sym, ap, ◌∙◌, subst}
use mathlib.Core.List.{List, [], ◌∷◌, ◌++◌, flatten, append_assoc, append-nil, head-eq_of_cons-eq}
use mathlib.Core.Logic.{inl, inr}
use mathlib.Core.Bool.{Bool, true, false, false≢true}
use Prim.Native.Nat.{ℕ, suc, ◌≤◌}
use native.Mathlib.Omega.{arith}
use Rattle.octets.specs.Octets.{Octets, is_nothing}
use Rattle.grammar.specs.Grammar.{Grammar, none, empty, range, ◌then◌, ◌or◌, many, Each, Text}
use Rattle.grammar.specs.code.Finding.{has_empty, has_text, ◌and_then◌, ◌or_else◌, following, fault_from, shortest_text_from}
use Rattle.grammar.proofs.Claimed.{text_of_none}
use Rattle.grammar.proofs.GrammarLaws.{empty_sound, empty_complete, some_sound, some_complete, following_sound, following_complete}

-- every text of the first is one of the second
abbrev pub Among : Grammar → Grammar → Type 0
Among a b = (s : Octets) → Text a s → Text b s

pub record Same (a b : Grammar) : Type 0 where
  pub to : Among a b
  pub from : Among b a

pub same_refl : (a : Grammar) → Same a a
same_refl a = record { to = λ s t. t; from = λ s t. t }

pub same_sym : {a b : Grammar} → Same a b → Same b a
same_sym h = record { to = h.from; from = h.to }

infixr 20 ◌⨾◌
pub ◌⨾◌ : {a b c : Grammar} → Same a b → Same b c → Same a c
h ⨾ i = record { to = λ s t. i.to s (h.to s t); from = λ s t. h.from s (i.from s t) }

-- ------------------------------------------------------------------ the algebra

pub then_among : (a b c d : Grammar) → Among a c → Among b d → Among (a then b) (c then d)
unfolding Text
then_among a b c d h i s t = (t.0, t.1, t.2, h t.0 t.3, i t.1 t.4)

pub then_same : {a b c d : Grammar} → Same a c → Same b d → Same (a then b) (c then d)
then_same {a} {b} {c} {d} h i = record { to = then_among a b c d h.to i.to; from = then_among c d a b h.from i.from }

or_among : (a b c d : Grammar) → Among a c → Among b d → Among (a or b) (c or d)
unfolding Text
or_among a b c d h i s (inl t) = inl (h s t)
or_among a b c d h i s (inr t) = inr (i s t)

pub or_same : {a b c d : Grammar} → Same a c → Same b d → Same (a or b) (c or d)
or_same {a} {b} {c} {d} h i = record { to = or_among a b c d h.to i.to; from = or_among c d a b h.from i.from }

pub assoc : (a b c : Grammar) → Same ((a then b) then c) (a then (b then c))
unfolding Text
assoc a b c = record {
  to = λ s t. (t.3.0, t.3.1 ++ t.1, t.2 ∙ ap (λ u. u ++ t.1) t.3.2 ∙ append_assoc t.3.0 t.3.1 t.1, t.3.3, (t.3.1, t.1, refl, t.3.4, t.4));
  from = λ s t. (t.0 ++ t.4.0, t.4.1, t.2 ∙ ap (λ u. t.0 ++ u) t.4.2 ∙ sym (append_assoc t.0 t.4.0 t.4.1), (t.0, t.4.0, refl, t.3, t.4.3), t.4.4);
}

or_then_to : (a b c : Grammar) (s u v : Octets) → s ≡ u ++ v → Text (a or b) u → Text c v → Text (a then c or b then c) s
unfolding Text
or_then_to a b c s u v e (inl t) r = inl (u, v, e, t, r)
or_then_to a b c s u v e (inr t) r = inr (u, v, e, t, r)

or_then_from : (a b c : Grammar) → Among (a then c or b then c) ((a or b) then c)
unfolding Text
or_then_from a b c s (inl t) = (t.0, t.1, t.2, inl t.3, t.4)
or_then_from a b c s (inr t) = (t.0, t.1, t.2, inr t.3, t.4)

pub or_then : (a b c : Grammar) → Same ((a or b) then c) (a then c or b then c)
unfolding Text
or_then a b c = record { to = λ s t. or_then_to a b c s t.0 t.1 t.2 t.3 t.4; from = or_then_from a b c }

then_or_to : (a b c : Grammar) (s u v : Octets) → s ≡ u ++ v → Text a u → Text (b or c) v → Text (a then b or a then c) s
unfolding Text
then_or_to a b c s u v e r (inl t) = inl (u, v, e, r, t)
then_or_to a b c s u v e r (inr t) = inr (u, v, e, r, t)

then_or_from : (a b c : Grammar) → Among (a then b or a then c) (a then (b or c))
unfolding Text
then_or_from a b c s (inl t) = (t.0, t.1, t.2, t.3, inl t.4)
then_or_from a b c s (inr t) = (t.0, t.1, t.2, t.3, inr t.4)

pub then_or : (a b c : Grammar) → Same (a then (b or c)) (a then b or a then c)
unfolding Text
then_or a b c = record { to = λ s t. then_or_to a b c s t.0 t.1 t.2 t.3 t.4; from = then_or_from a b c }

pub empty_then : (a : Grammar) → Same (empty then a) a
unfolding Text
empty_then a = record { to = λ s t. subst (Text a) (sym (t.2 ∙ ap (λ u. u ++ t.1) t.3)) t.4; from = λ s t. ([], s, refl, refl, t) }

pub then_empty : (a : Grammar) → Same (a then empty) a
unfolding Text
then_empty a = record {
  to = λ s t. subst (Text a) (sym (t.2 ∙ ap (λ u. t.0 ++ u) t.4 ∙ append-nil t.0)) t.3;
  from = λ s t. (s, [], sym (append-nil s), t, refl);
}

pub none_then : (a : Grammar) → Same (none then a) none
unfolding Text
none_then a = record { to = λ s t. t.3; from = λ s t. absurd t }

pub then_none : (a : Grammar) → Same (a then none) none
unfolding Text
then_none a = record { to = λ s t. t.4; from = λ s t. absurd t }

or_none_to : (a : Grammar) → Among (a or none) a
unfolding Text
or_none_to a s (inl t) = t
or_none_to a s (inr t) = absurd t

pub or_none : (a : Grammar) → Same (a or none) a
unfolding Text
or_none a = record { to = or_none_to a; from = λ s t. inl t }

or_swap : (a b : Grammar) → Among (a or b) (b or a)
unfolding Text
or_swap a b s (inl t) = inr t
or_swap a b s (inr t) = inl t

pub or_comm : (a b : Grammar) → Same (a or b) (b or a)
or_comm a b = record { to = or_swap a b; from = or_swap b a }

pub none_or : (a : Grammar) → Same (none or a) a
none_or a = or_comm none a ⨾ or_none a

or_assoc_to : (a b c : Grammar) → Among ((a or b) or c) (a or b or c)
unfolding Text
or_assoc_to a b c s (inl (inl t)) = inl t
or_assoc_to a b c s (inl (inr t)) = inr (inl t)
or_assoc_to a b c s (inr t) = inr (inr t)

or_assoc_from : (a b c : Grammar) → Among (a or b or c) ((a or b) or c)
unfolding Text
or_assoc_from a b c s (inl t) = inl (inl t)
or_assoc_from a b c s (inr (inl t)) = inl (inr t)
or_assoc_from a b c s (inr (inr t)) = inr t

pub or_assoc : (a b c : Grammar) → Same ((a or b) or c) (a or b or c)
or_assoc a b c = record { to = or_assoc_to a b c; from = or_assoc_from a b c }

either : (a b : Grammar) → Among a b → Among (a or b) b
unfolding Text
either a b h s (inl t) = h s t
either a b h s (inr t) = t

-- what is among the other adds nothing
pub or_among_same : {a b : Grammar} → Among a b → Same (a or b) b
unfolding Text
or_among_same {a} {b} h = record { to = either a b h; from = λ s t. inr t }

many_to : (a : Grammar) (s : Octets) (ts : List Octets) → s ≡ flatten ts → Each (Text a) ts → Text (empty or a then many a) s
unfolding Text flatten Each
many_to a s [] e h = inl e
many_to a s (t ∷ ts) e h = inr (t, flatten ts, e, h.0, (ts, refl, h.1))

many_from : (a : Grammar) → Among (empty or a then many a) (many a)
unfolding Text flatten Each
many_from a s (inl e) = ([], e, tt)
many_from a s (inr t) = (t.0 ∷ t.4.0, t.2 ∙ ap (λ u. t.0 ++ u) t.4.1, (t.3, t.4.2))

pub many_more : (a : Grammar) → Same (many a) (empty or a then many a)
unfolding Text
many_more a = record { to = λ s t. many_to a s t.0 t.1 t.2; from = many_from a }

-- many and then a tail: the tail, or one and again
pub many_then : (a b : Grammar) → Same (many a then b) (b or a then (many a then b))
many_then a b =
    then_same (many_more a) (same_refl b)
    ⨾ or_then empty (a then many a) b
    ⨾ or_same (empty_then b) (assoc a (many a) b)

-- what holds of the tail, and is kept by one more in front
pub many_among : (a b c : Grammar) → Among b c → Among (a then c) c → Among (many a then b) c
unfolding Text flatten Each
many_among a b c h i s t = subst (Text c) (sym (t.2 ∙ ap (λ u. u ++ t.1) t.3.1)) (go t.3.0 t.3.2)
  where
    go : (ts : List Octets) → Each (Text a) ts → Text c (flatten ts ++ t.1)
    go [] k = h t.1 t.4
    go (p ∷ ts) k = subst (Text c) (sym (append_assoc p (flatten ts) t.1)) (i (p ++ (flatten ts ++ t.1)) (p, flatten ts ++ t.1, refl, k.0, go ts k.1))

-- ------------------------------------------------------------------ what is computed of grammars of the same texts

pub same_empty : {a b : Grammar} → Same a b → has_empty a ≡ has_empty b
same_empty {a} {b} h = go (has_empty a) refl (has_empty b) refl
  where
    go : (p : Bool) → has_empty a ≡ p → (q : Bool) → has_empty b ≡ q → has_empty a ≡ has_empty b
    go true e true f = e ∙ sym f
    go true e false f = absurd (false≢true (sym f ∙ empty_complete b (h.to [] (empty_sound a e))))
    go false e true f = absurd (false≢true (sym e ∙ empty_complete a (h.from [] (empty_sound b f))))
    go false e false f = e ∙ sym f

pub same_has : {a b : Grammar} → Same a b → has_text a ≡ has_text b
same_has {a} {b} h = go (has_text a) refl (has_text b) refl
  where
    go : (p : Bool) → has_text a ≡ p → (q : Bool) → has_text b ≡ q → has_text a ≡ has_text b
    go true e true f = e ∙ sym f
    go true e false f = let (s, t) = some_sound a e in absurd (false≢true (sym f ∙ some_complete b s (h.to s t)))
    go false e true f = let (s, t) = some_sound b f in absurd (false≢true (sym e ∙ some_complete a s (h.from s t)))
    go false e false f = e ∙ sym f

-- ------------------------------------------------------------------ what an octet leaves

-- behind this octet, the texts of the first are those of the second
pub record On (x : ℕ) (a b : Grammar) : Type 0 where
  pub left : (s : Octets) → Text a (x ∷ s) → Text b s
  pub back : (s : Octets) → Text b s → Text a (x ∷ s)

abbrev pub Dead : ℕ → Grammar → Type 0
Dead x a = On x a none

pub on_following : {x : ℕ} {a b : Grammar} → On x a b → Same (following x a) b
on_following {x} {a} h = record { to = λ s t. h.left s (following_sound x a s t); from = λ s t. following_complete x a s (h.back s t) }

pub following_on : (x : ℕ) (a : Grammar) → On x a (following x a)
following_on x a = record { left = λ s t. following_complete x a s t; back = λ s t. following_sound x a s t }

pub on_from : {x : ℕ} {a b c : Grammar} → Same a b → On x b c → On x a c
on_from {x} h i = record { left = λ s t. i.left s (h.to (x ∷ s) t); back = λ s t. h.from (x ∷ s) (i.back s t) }

pub on_to : {x : ℕ} {a b c : Grammar} → On x a b → Same b c → On x a c
on_to h i = record { left = λ s t. i.to s (h.left s t); back = λ s t. h.back s (i.from s t) }

on_is : {x : ℕ} {a b : Grammar} → Same (following x a) b → On x a b
on_is {x} {a} h = on_to (following_on x a) h

and_then_same : (a b : Grammar) → Same (a and_then b) (a then b)
unfolding ◌and_then◌
and_then_same none b = same_sym (none_then b)
and_then_same empty b = same_sym (empty_then b)
and_then_same (range low high) b = same_refl _
and_then_same (a then c) b = same_refl _
and_then_same (a or c) b = same_refl _
and_then_same (many a) b = same_refl _

or_else_same : (a b : Grammar) → Same (a or_else b) (a or b)
unfolding ◌or_else◌
or_else_same none b = same_sym (none_or b)
or_else_same empty b = same_refl _
or_else_same (range low high) b = same_refl _
or_else_same (a then c) b = same_refl _
or_else_same (a or c) b = same_refl _
or_else_same (many a) b = same_refl _

pub on_then : {x : ℕ} {a b c : Grammar} → has_empty a ≡ false → On x a c → On x (a then b) (c then b)
unfolding following
on_then {x} {a} {b} e h = on_is (let i : Same (following x (a then b)) (following x a then b) = rw (e, following) (and_then_same (following x a) b) in i ⨾ then_same (on_following h) (same_refl b))

pub on_both : {x : ℕ} {a b c d : Grammar} → has_empty a ≡ true → On x a c → On x b d → On x (a then b) (c then b or d)
unfolding following
on_both {x} {a} {b} e h k =
    on_is (let i : Same (following x (a then b)) (following x a then b or following x b) =
    rw (e, following) (or_else_same (following x a and_then b) (following x b) ⨾ or_same (and_then_same (following x a) b) (same_refl (following x b)))
    in i ⨾ or_same (then_same (on_following h) (same_refl b)) (on_following k))

pub on_or : {x : ℕ} {a b c d : Grammar} → On x a c → On x b d → On x (a or b) (c or d)
unfolding following
on_or {x} {a} {b} h k = on_is (or_else_same (following x a) (following x b) ⨾ or_same (on_following h) (on_following k))

pub on_many : {x : ℕ} {a b : Grammar} → On x a b → On x (many a) (b then many a)
unfolding following
on_many {x} {a} h = on_is (and_then_same (following x a) (many a) ⨾ then_same (on_following h) (same_refl (many a)))

pub dead_empty : (x : ℕ) → Dead x empty
unfolding following
dead_empty x = on_is (same_refl none)

pub dead_none : (x : ℕ) → Dead x none
unfolding following
dead_none x = on_is (same_refl none)

-- one octet
pub on_range : (x low high : ℕ) → low ≤ x → x ≤ high → On x (range low high) empty
unfolding Text
on_range x low high p q = record {
  left = λ s t. tail t.0 s t.1;
  back = λ s t. (x, ap (λ r. x ∷ r) t, p, q);
}
  where
    tail : (y : ℕ) (s : Octets) → x ∷ s ≡ y ∷ [] → s ≡ []
    tail y s e = mathlib.Core.List.tail-eq_of_cons-eq e

pub dead_range : (x low high : ℕ) → (low ≤ x → x ≤ high → ⊥) → Dead x (range low high)
unfolding Text
dead_range x low high h = record {
  left = λ s t. let e = head-eq_of_cons-eq t.1 in h (omega (arith, e, t.2)) (omega (arith, e, t.3));
  back = λ s t. absurd t;
}

-- the same, put together
pub on_one : {x : ℕ} {a b : Grammar} → has_empty a ≡ false → On x a empty → On x (a then b) b
on_one {b} e h = on_to (on_then e h) (empty_then b)

pub on_again : {x : ℕ} {a : Grammar} → On x a empty → On x (many a) (many a)
on_again {a} h = on_to (on_many h) (empty_then (many a))

-- the first may be empty and goes on, and the second cannot begin so
pub on_first : {x : ℕ} {a b c : Grammar} → has_empty a ≡ true → On x a c → Dead x b → On x (a then b) (c then b)
on_first {b} {c} e h k = on_to (on_both e h k) (or_none (c then b))

-- the first may be empty and cannot begin so
pub on_second : {x : ℕ} {a b c : Grammar} → has_empty a ≡ true → Dead x a → On x b c → On x (a then b) c
on_second {b} {c} e h k = on_to (on_both e h k) (or_same (none_then b) (same_refl c) ⨾ none_or c)

pub on_left : {x : ℕ} {a b c : Grammar} → On x a c → Dead x b → On x (a or b) c
on_left {c} h k = on_to (on_or h k) (or_none c)

pub on_right : {x : ℕ} {a b c : Grammar} → Dead x a → On x b c → On x (a or b) c
on_right {c} h k = on_to (on_or h k) (none_or c)

pub dead_then : {x : ℕ} {a b : Grammar} → has_empty a ≡ false → Dead x a → Dead x (a then b)
dead_then {b} e h = on_to (on_then e h) (none_then b)

pub dead_many : {x : ℕ} {a : Grammar} → Dead x a → Dead x (many a)
dead_many {a} h = on_to (on_many h) (none_then (many a))

-- ------------------------------------------------------------------ faults, and shortest-text front parts

following_same : {a b : Grammar} → Same a b → (x : ℕ) → Same (following x a) (following x b)
following_same {b} h x = on_following (on_from h (following_on x b))

pub fault_same : {a b : Grammar} → Same a b → (at : ℕ) (s : Octets) → fault_from at a s ≡ fault_from at b s
unfolding fault_from
fault_same h at [] = rw (same_empty h)
fault_same {a = a} {b = b} h at (x ∷ s) = go (has_text (following x b)) refl (fault_same {a = following x a} {b = following x b} (following_same h x) (suc at) s)
  where
    go : (c : Bool) → has_text (following x b) ≡ c → fault_from (suc at) (following x a) s ≡ fault_from (suc at) (following x b) s → fault_from at a (x ∷ s) ≡ fault_from at b (x ∷ s)
    go true e k = rw (same_has (following_same h x), e, fault_from) k
    go false e k = rw (same_has (following_same h x), e, fault_from)

pub first_same : {a b : Grammar} → Same a b → (at : ℕ) (s : Octets) → shortest_text_from at a s ≡ shortest_text_from at b s
unfolding shortest_text_from
first_same h at [] = rw (same_empty h)
first_same {a = a} {b = b} h at (x ∷ s) = go (has_empty b) refl (first_same {a = following x a} {b = following x b} (following_same h x) (suc at) s)
  where
    go : (c : Bool) → has_empty b ≡ c → shortest_text_from (suc at) (following x a) s ≡ shortest_text_from (suc at) (following x b) s → shortest_text_from at a (x ∷ s) ≡ shortest_text_from at b (x ∷ s)
    go true e k = rw (same_empty h, e, shortest_text_from)
    go false e k = rw (same_empty h, e, shortest_text_from) k

module _ {x : ℕ} {a b : Grammar} (h : On x a b) (at : ℕ) (s : Octets) where
  pub fault_goes_on : has_text b ≡ true → fault_from at a (x ∷ s) ≡ fault_from (suc at) b s
  unfolding fault_from
  fault_goes_on e = rw (same_has (on_following h), e, fault_from) (fault_same (on_following h) (suc at) s)

  pub fault_stops : has_text b ≡ false → fault_from at a (x ∷ s) ≡ Some at
  unfolding fault_from
  fault_stops e = rw (same_has (on_following h), e, fault_from)

  pub first_goes_on : has_empty a ≡ false → shortest_text_from at a (x ∷ s) ≡ shortest_text_from (suc at) b s
  unfolding shortest_text_from
  first_goes_on e = rw (e, shortest_text_from) (first_same (on_following h) (suc at) s)

  -- whether a text is one of the grammar is the same question behind the octet
  pub whole_goes_on : is_nothing (fault_from at a (x ∷ s)) ≡ is_nothing (fault_from (suc at) b s)
  unfolding is_nothing
  whole_goes_on = go (has_text b) refl
    where
      go : (c : Bool) → has_text b ≡ c → is_nothing (fault_from at a (x ∷ s)) ≡ is_nothing (fault_from (suc at) b s)
      go true e = rw (fault_goes_on e)
      go false e = rw (fault_stops e) (no (fault_from (suc at) b s) refl)
        where
          no : (o : Option ℕ) → fault_from (suc at) b s ≡ o → false ≡ is_nothing (fault_from (suc at) b s)
          no None f = absurd (false≢true (sym e ∙ some_complete b s (text_of_none (suc at) b s f)))
          no (Some p) f = rw f

pub first_of_none : (at : ℕ) (s : Octets) → shortest_text_from at none s ≡ None
unfolding shortest_text_from following has_empty
first_of_none at [] = refl
first_of_none at (x ∷ s) = first_of_none (suc at) s
