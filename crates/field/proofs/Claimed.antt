-- The proofs of what is claimed of reading the Identity-Alignment field.
use Rattle.std.specs.Prelude.{Option, None, Some}
use mathlib.Core.Path.{◌≡◌, refl, sym, ap, ◌∙◌, subst}
use mathlib.Core.List.{List, [], ◌∷◌, ◌++◌, cons≢nil, append_assoc}
use mathlib.Core.Logic.{◌⊎◌, inl, inr}
use mathlib.Core.Bool.{Bool, true, false}
use Prim.Native.Nat.{ℕ, zero, suc, ◌+◌, ◌-◌, ◌≤◌, ◌<◌}
use native.Mathlib.Omega.{arith}
use native.Mathlib.Nat.{not-suc-le-zero, le_of_suc-le-suc}
use lib.Dec.{ltb}
use lib.ListN.{length, take, drop, length-append, length-take, take-append-drop}
use borrow.Author.Tests.{ltb-true, ltb-false}
use Rattle.octets.specs.Octets.{Octets, octets, between}
use Rattle.octets.specs.Refusing.{ok, not_ok, refusal}
use Rattle.octets.specs.declared.Refusal.{Refusal}
use Rattle.field.specs.declared.NamedMethods.{NamedMethods}
use Rattle.grammar.specs.Grammar.{Grammar, ◌then◌, Text, Viable}
use Rattle.grammar.specs.code.Finding.{fault, shortest_text}
use Rattle.grammar.specs.code.Finding.{Faults}
use Rattle.grammar.specs.Grammar.{Fault}
use Rattle.field.specs.Field.{one, letter, literal, dkim, spf, id_align, repeating, any_depth}
use Rattle.field.specs.code.Reading.{at_place, begin_of_word, outside_grammar, too_deep, spelled_again, refusals, earlier, earliest, methods_named, read_field}
use Rattle.field.specs.Claims.{NoRepeats, FieldClaims}
use Rattle.field.proofs.RefusingLaws.{ok≢refused, ok_injective, refused_injective}
use Rattle.grammar.proofs.Claimed.{faults, shortest_front}
use Rattle.field.proofs.DepthLaws.{field_begins, front_as_deep}
use Rattle.std.proofs.lemmas.Option.{none-some, same_Some}

just≢nothing : {A : Type 0} {a : A} → Some a ≡ None → ⊥
just≢nothing {A} {a} e = none-some a (sym e)

-- ------------------------------------------------------------------ the earliest

-- one of a list
In : Refusal → List Refusal → Type 0
In r [] = ⊥
In r (q ∷ rs) = (r ≡ q) ⊎ In r rs

in_append : (r : Refusal) (xs ys : List Refusal) → In r (xs ++ ys) → In r xs ⊎ In r ys
unfolding In
in_append r [] ys h = inr h
in_append r (x ∷ xs) ys (inl e) = inl (inl e)
in_append r (x ∷ xs) ys (inr h) = elim (in_append r xs ys h) [ inl i ↦ inl (inr i) | inr i ↦ inr i ]

append_in : (r : Refusal) (xs ys : List Refusal) → In r xs ⊎ In r ys → In r (xs ++ ys)
unfolding In
append_in r [] ys (inl h) = absurd h
append_in r [] ys (inr h) = h
append_in r (x ∷ xs) ys (inl (inl e)) = inl e
append_in r (x ∷ xs) ys (inl (inr h)) = inr (append_in r xs ys (inl h))
append_in r (x ∷ xs) ys (inr h) = inr (append_in r xs ys (inr h))

place_in : (number : ℕ) (o : Option ℕ) (p : ℕ) → o ≡ Some p → In (refusal number p) (at_place number o)
unfolding In at_place
place_in number None p e = absurd (just≢nothing (sym e))
place_in number (Some q) p e = inl (ap (refusal number) (sym (same_Some q p e)))

in_place : (r : Refusal) (number : ℕ) (o : Option ℕ) → In r (at_place number o) → (p : ℕ) × (o ≡ Some p) × (r ≡ refusal number p)
unfolding In at_place
in_place r number None h = absurd h
in_place r number (Some p) (inl e) = (p, refl, e)
in_place r number (Some p) (inr h) = absurd h

-- of two, one is the earlier; the second only where its place is less
earlier_is : (r : Refusal) (o : Option Refusal) (q : Refusal) → earlier r o ≡ Some q → (q ≡ r) ⊎ ((o ≡ Some q) × (q.place < r.place))
unfolding earlier
earlier_is r None q e = inl (sym (same_Some r q e))
earlier_is r (Some o) q e = go (ltb o.place r.place) refl
  where
    go : (c : Bool) → ltb o.place r.place ≡ c → (q ≡ r) ⊎ ((Some o ≡ Some q) × (q.place < r.place))
    go true f = let i : Some o ≡ Some q = rw f at e in inr (i, subst (λ z. z.place < r.place) (same_Some o q i) (ltb-true o.place r.place f))
    go false f = inl (sym (same_Some r q (rw f at e)))

earliest_in : (rs : List Refusal) (q : Refusal) → earliest rs ≡ Some q → In q rs
unfolding earliest In
earliest_in [] q e = just≢nothing (sym e)
earliest_in (r ∷ rs) q e = elim (earlier_is r (earliest rs) q e) [ inl f ↦ inl f | inr f ↦ inr (earliest_in rs q f.0) ]

earlier_least : (r : Refusal) (o : Option Refusal) (q : Refusal) → earlier r o ≡ Some q → (q.place ≤ r.place) × ((x : Refusal) → o ≡ Some x → q.place ≤ x.place)
unfolding earlier
earlier_least r None q e = (omega (arith, ap (λ z. z.place) (same_Some r q e)), λ x f. absurd (just≢nothing (sym f)))
earlier_least r (Some o) q e = go (ltb o.place r.place) refl
  where
    go : (c : Bool) → ltb o.place r.place ≡ c → (q.place ≤ r.place) × ((x : Refusal) → Some o ≡ Some x → q.place ≤ x.place)
    go true f =
        let i = ap (λ z. z.place) (same_Some o q (rw f at e)) in
        (omega (arith, i, ltb-true o.place r.place f), λ x g. omega (arith, i, ap (λ z. z.place) (same_Some o x g)))
    go false f =
        let i = ap (λ z. z.place) (same_Some r q (rw f at e)) in
        (omega (arith, i), λ x g. omega (arith, i, ltb-false o.place r.place f, ap (λ z. z.place) (same_Some o x g)))

earlier_some : (r : Refusal) (o : Option Refusal) → earlier r o ≡ None → ⊥
unfolding earlier
earlier_some r None e = just≢nothing e
earlier_some r (Some o) e = go (ltb o.place r.place) refl
  where
    go : (c : Bool) → ltb o.place r.place ≡ c → ⊥
    go true f = just≢nothing (rw f at e)
    go false f = just≢nothing (rw f at e)

earliest_none : (rs : List Refusal) → earliest rs ≡ None → rs ≡ []
unfolding earliest
earliest_none [] e = refl
earliest_none (r ∷ rs) e = absurd (earlier_some r (earliest rs) e)

not_in : (r : Refusal) → In r [] → ⊥
unfolding In
not_in r h = h

earliest_least : (rs : List Refusal) (q r : Refusal) → earliest rs ≡ Some q → In r rs → q.place ≤ r.place
unfolding earliest In
earliest_least [] q r e h = absurd h
earliest_least (x ∷ rs) q r e (inl f) = omega (arith, (earlier_least x (earliest rs) q e).0, ap (λ z. z.place) f)
earliest_least (x ∷ rs) q r e (inr h) = go (earliest rs) refl (earliest_least rs)
  where
    go : (o : Option Refusal) → earliest rs ≡ o → ((q r : Refusal) → earliest rs ≡ Some q → In r rs → q.place ≤ r.place) → q.place ≤ r.place
    go None f k = absurd (not_in r (subst (In r) (earliest_none rs f) h))
    go (Some y) f k = omega (arith, k y r f h, (earlier_least x (earliest rs) q e).1 y f)

-- ------------------------------------------------------------------ what was read

module _ (s : Octets) where
  when_ok : (m : NamedMethods) → read_field s ≡ ok m → (earliest (refusals s) ≡ None) × (methods_named s ≡ m)
  unfolding read_field
  when_ok m e = go (earliest (refusals s)) refl
    where
      go : (o : Option Refusal) → earliest (refusals s) ≡ o → (earliest (refusals s) ≡ None) × (methods_named s ≡ m)
      go None f = (f, ok_injective (rw (f, read_field) at e))
      go (Some r) f = absurd (ok≢refused (sym (rw (f, read_field) at e)))

  when_refused : (r : Refusal) → read_field s ≡ not_ok r → earliest (refusals s) ≡ Some r
  unfolding read_field
  when_refused r e = go (earliest (refusals s)) refl
    where
      go : (o : Option Refusal) → earliest (refusals s) ≡ o → earliest (refusals s) ≡ Some r
      go None f = absurd (ok≢refused (rw (f, read_field) at e))
      go (Some q) f = f ∙ ap Some (refused_injective (rw (f, read_field) at e))

  if_none : earliest (refusals s) ≡ None → read_field s ≡ ok (methods_named s)
  unfolding read_field
  if_none f = rw (f, read_field)

-- ------------------------------------------------------------------ the four refusals that may be due

no_place : (number : ℕ) (o : Option ℕ) → at_place number o ≡ [] → o ≡ None
unfolding at_place
no_place number None e = refl
no_place number (Some p) e = absurd (cons≢nil e)

both_none : (xs ys : List Refusal) → xs ++ ys ≡ [] → (xs ≡ []) × (ys ≡ [])
both_none [] ys e = (refl, e)
both_none (x ∷ xs) ys e = absurd (cons≢nil e)

no_word : (n : ℕ) (o : Option ℕ) → begin_of_word n o ≡ None → o ≡ None
unfolding begin_of_word
no_word n None e = refl
no_word n (Some p) e = absurd (just≢nothing e)

word_at : (n : ℕ) (o : Option ℕ) (p : ℕ) → begin_of_word n o ≡ Some p → (e : ℕ) × (o ≡ Some e) × (p ≡ e - n)
unfolding begin_of_word
word_at n None p f = absurd (just≢nothing (sym f))
word_at n (Some e) p f = (e, refl, sym (same_Some (e - n) p f))

module _ (s : Octets) where
  record NoneDue : Type 0 where
    no_24 : outside_grammar s ≡ None
    no_25 : too_deep s ≡ None
    no_dkim : spelled_again 4 dkim s ≡ None
    no_spf : spelled_again 3 spf s ≡ None

  none_due : refusals s ≡ [] → NoneDue
  unfolding refusals
  none_due e =
      let a = at_place 24 (outside_grammar s) in
      let b = at_place 25 (too_deep s) in
      let c = at_place 26 (spelled_again 4 dkim s) in
      let d = at_place 26 (spelled_again 3 spf s) in
      let f = both_none (a ++ b ++ c) d e in
      let g = both_none (a ++ b) c f.0 in
      let h = both_none a b g.0 in
      record { no_24 = no_place 24 _ h.0; no_25 = no_place 25 _ h.1; no_dkim = no_place 26 _ g.1; no_spf = no_place 26 _ f.1 }

  due_none : NoneDue → refusals s ≡ []
  unfolding refusals at_place
  due_none h = rw (h.no_24, h.no_25, h.no_dkim, h.no_spf)

  data Due (r : Refusal) : Type 0 where
    due_24 : (p : ℕ) → outside_grammar s ≡ Some p → r ≡ refusal 24 p → Due r
    due_25 : (p : ℕ) → too_deep s ≡ Some p → r ≡ refusal 25 p → Due r
    due_dkim : (p : ℕ) → spelled_again 4 dkim s ≡ Some p → r ≡ refusal 26 p → Due r
    due_spf : (p : ℕ) → spelled_again 3 spf s ≡ Some p → r ≡ refusal 26 p → Due r

  is_due : (r : Refusal) → In r (refusals s) → Due r
  unfolding refusals
  is_due r h =
      let a = at_place 24 (outside_grammar s) in
      let b = at_place 25 (too_deep s) in
      let c = at_place 26 (spelled_again 4 dkim s) in
      let d = at_place 26 (spelled_again 3 spf s) in
      elim (in_append r (a ++ b ++ c) d h) [
        | inr i ↦ let (p, e, f) = in_place r 26 _ i in due_spf p e f
        | inl i ↦ elim (in_append r (a ++ b) c i) [
          | inr j ↦ let (p, e, f) = in_place r 26 _ j in due_dkim p e f
          | inl j ↦ elim (in_append r a b j) [
            | inr k ↦ let (p, e, f) = in_place r 25 _ k in due_25 p e f
            | inl k ↦ let (p, e, f) = in_place r 24 _ k in due_24 p e f
          ]
        ]
      ]

-- ------------------------------------------------------------------ front parts

-- a front part of a front part
take_less : (m n : ℕ) (s : Octets) → m ≤ n → (rest : Octets) × (take n s ≡ take m s ++ rest)
take_less zero n s h = (take n s, refl)
take_less (suc m) zero s h = absurd (not-suc-le-zero h)
take_less (suc m) (suc n) [] h = ([], refl)
take_less (suc m) (suc n) (x ∷ s) h = let (r, e) = take_less m n s (le_of_suc-le-suc h) in (r, ap (λ t. x ∷ t) e)

begins_less : (g : Grammar) (m n : ℕ) (s : Octets) → m ≤ n → Viable g (take n s) → Viable g (take m s)
begins_less g m n s h b =
    let (r, e) = take_less m n s h in
    (r ++ b.0, subst (Text g) (ap (λ t. t ++ b.0) e ∙ append_assoc (take m s) r b.0) b.1)

take_take : (n m : ℕ) (s : Octets) → n ≤ m → take n (take m s) ≡ take n s
take_take zero m s h = refl
take_take (suc n) zero s h = absurd (not-suc-le-zero h)
take_take (suc n) (suc m) [] h = refl
take_take (suc n) (suc m) (x ∷ s) h = ap (λ t. x ∷ t) (take_take n m s (le_of_suc-le-suc h))

text_begins : (g : Grammar) (m : ℕ) (s : Octets) → Text g s → Viable g (take m s)
text_begins g m s t = (drop m s, subst (Text g) (sym (take-append-drop m s)) t)

-- ------------------------------------------------------------------ words

one_length : (x : ℕ) (s : Octets) → Text (one x) s → length s ≡ 1
unfolding one Text
one_length x s t = ap length t.1

letter_length : (x : ℕ) (s : Octets) → Text (letter x) s → length s ≡ 1
unfolding letter Text
letter_length x s t = go (between 97 122 x) refl
  where
    go : (c : Bool) → between 97 122 x ≡ c → length s ≡ 1
    go true e = let r : Text (one x) s ⊎ Text (one (x - 32)) s = rw e at t in elim r [ inl u ↦ one_length x s u | inr u ↦ one_length (x - 32) s u ]
    go false e = one_length x s (rw e at t)

word_length : (w s : Octets) → Text (literal w) s → length s ≡ length w
unfolding literal Text
word_length [] s t = ap length t
word_length (x ∷ w) s t = omega (arith, ap length t.2, length-append t.0 t.1, letter_length x t.0 t.3, word_length w t.1 t.4)

-- the second of two is no longer than both
second : (a b : Grammar) (s : Octets) → Text (a then b) s → (v : Octets) × (length v ≤ length s) × Text b v
unfolding Text
second a b s t = (t.1, omega (arith, ap length t.2, length-append t.0 t.1), t.4)

repeating_length : (n : ℕ) (m : Grammar) (k : ℕ) → ((v : Octets) → Text m v → length v ≡ k) → (s : Octets) → Text (repeating n m) s → k ≤ length s
unfolding repeating
repeating_length n m k h s t =
    let (a, i, u) = second _ _ s t in
    let (b, j, v) = second _ _ a u in
    let (c, l, w) = second _ _ b v in
    let (d, o, x) = second _ _ c w in
    let (e, q, y) = second _ _ d x in
    omega (arith, i, j, l, o, q, h e y)

pub dkim_length : (v : Octets) → Text dkim v → length v ≡ 4
unfolding dkim octets
dkim_length v t = word_length (octets "dkim") v t

pub spf_length : (v : Octets) → Text spf v → length v ≡ 3
unfolding spf octets
spf_length v t = word_length (octets "spf") v t

-- where a method is repeated: it ends a text of `repeating`
repeat_at : (s : Octets) (k : ℕ) (m : Grammar) → ((v : Octets) → Text m v → length v ≡ k) → (p : ℕ) → spelled_again k m s ≡ Some p → (p + k ≤ length s) × Text (repeating (any_depth s) m) (take (p + k) s)
unfolding spelled_again
repeat_at s k m h p e =
    let g = repeating (any_depth s) m in
    let (n, f, i) = word_at k (shortest_text g s) p e in
    let (l, t) = (shortest_front g s).is n f in
    let long = repeating_length (any_depth s) m k h (take n s) t in
    let same : n ≡ p + k = omega (arith, i, long, length-take n s) in
    (omega (arith, l, same), subst (λ z. Text g (take z s)) same t)

-- ------------------------------------------------------------------ the claims

module _ (s : Octets) where
  free : Grammar
  free = id_align (any_depth s)

  free_faults : Faults free s
  free_faults = faults free s

  deep_faults : Faults (id_align 8) s
  deep_faults = faults (id_align 8) s

  refused_due : (r : Refusal) → read_field s ≡ not_ok r → Due s r
  refused_due r e = is_due s r (earliest_in (refusals s) r (when_refused s r e))

  claimed_24 : (p : ℕ) → read_field s ≡ not_ok (refusal 24 p) → Fault (id_align (any_depth s)) s p
  unfolding outside_grammar free
  claimed_24 p e = elim (refused_due (refusal 24 p) e) [
    | due_24 q f g ↦ subst (Fault (id_align (any_depth s)) s) (sym (ap (λ r. r.place) g)) (free_faults.place (field_begins (any_depth s)) q f)
    | due_25 q f g ↦ absurd (omega (arith, ap (λ r. r.number) g))
    | due_dkim q f g ↦ absurd (omega (arith, ap (λ r. r.number) g))
    | due_spf q f g ↦ absurd (omega (arith, ap (λ r. r.number) g))
  ]

  claimed_26 : (p : ℕ) → read_field s ≡ not_ok (refusal 26 p) → ((p + 4 ≤ length s) × Text (repeating (any_depth s) dkim) (take (p + 4) s)) ⊎ ((p + 3 ≤ length s) × Text (repeating (any_depth s) spf) (take (p + 3) s))
  claimed_26 p e = elim (refused_due (refusal 26 p) e) [
    | due_24 q f g ↦ absurd (omega (arith, ap (λ r. r.number) g))
    | due_25 q f g ↦ absurd (omega (arith, ap (λ r. r.number) g))
    | due_dkim q f g ↦ inl (subst (λ z. (z + 4 ≤ length s) × Text (repeating (any_depth s) dkim) (take (z + 4) s)) (sym (ap (λ r. r.place) g)) (repeat_at s 4 dkim dkim_length q f))
    | due_spf q f g ↦ inr (subst (λ z. (z + 3 ≤ length s) × Text (repeating (any_depth s) spf) (take (z + 3) s)) (sym (ap (λ r. r.place) g)) (repeat_at s 3 spf spf_length q f))
  ]

  claimed_numbers : (r : Refusal) → read_field s ≡ not_ok r → (r.number ≡ 24) ⊎ (r.number ≡ 25) ⊎ (r.number ≡ 26)
  claimed_numbers r e = elim (refused_due r e) [
    | due_24 q f g ↦ inl (ap (λ r. r.number) g)
    | due_25 q f g ↦ inr (inl (ap (λ r. r.number) g))
    | due_dkim q f g ↦ inr (inr (ap (λ r. r.number) g))
    | due_spf q f g ↦ inr (inr (ap (λ r. r.number) g))
  ]

  -- where 25 is given, 24 is not due, or further on
  before_24 : (p : ℕ) → read_field s ≡ not_ok (refusal 25 p) → (q : ℕ) → outside_grammar s ≡ Some q → p < q
  unfolding refusals at_place earliest
  before_24 p e q f = elim (earlier_is (refusal 24 q) (earliest rest) (refusal 25 p) field_answer) [
    | inl g ↦ absurd (omega (arith, ap (λ r. r.number) g))
    | inr g ↦ g.1
  ]
    where
      rest : List Refusal
      rest = at_place 25 (too_deep s) ++ at_place 26 (spelled_again 4 dkim s) ++ at_place 26 (spelled_again 3 spf s)

      listed : refusals s ≡ refusal 24 q ∷ rest
      listed = rw (f, refusals)

      field_answer : earlier (refusal 24 q) (earliest rest) ≡ Some (refusal 25 p)
      field_answer = sym (ap earliest listed) ∙ when_refused s (refusal 25 p) e

  goes_on : (p : ℕ) → ((q : ℕ) → outside_grammar s ≡ Some q → p < q) → Viable (id_align (any_depth s)) (take (suc p) s)
  unfolding outside_grammar free
  goes_on p h = go (outside_grammar s) refl
    where
      go : (o : Option ℕ) → outside_grammar s ≡ o → Viable (id_align (any_depth s)) (take (suc p) s)
      go None f = text_begins (id_align (any_depth s)) (suc p) s (free_faults.without f)
      go (Some q) f = begins_less (id_align (any_depth s)) (suc p) q s (h q f) (free_faults.place (field_begins (any_depth s)) q f).before

  claimed_25 : (p : ℕ) → read_field s ≡ not_ok (refusal 25 p) → Fault (id_align 8) s p × Viable (id_align (any_depth s)) (take (suc p) s)
  unfolding too_deep
  claimed_25 p e = elim (refused_due (refusal 25 p) e) [
    | due_24 q f g ↦ absurd (omega (arith, ap (λ r. r.number) g))
    | due_25 q f g ↦ (subst (Fault (id_align 8) s) (sym (ap (λ r. r.place) g)) (deep_faults.place (field_begins 8) q f), goes_on p (before_24 p e))
    | due_dkim q f g ↦ absurd (omega (arith, ap (λ r. r.number) g))
    | due_spf q f g ↦ absurd (omega (arith, ap (λ r. r.number) g))
  ]

  claimed_depth : (n k : ℕ) → Viable (id_align n) (take k s) → Viable (id_align (any_depth s)) (take k s)
  unfolding any_depth
  claimed_depth n k b = front_as_deep n s (take k s) (omega (arith, length-take k s)) b

module _ (s : Octets) (r : Refusal) (e : read_field s ≡ not_ok r) where
  least : (q : Refusal) → In q (refusals s) → r.place ≤ q.place
  least q h = earliest_least (refusals s) r q (when_refused s r e) h

  least_25 : (p : ℕ) → too_deep s ≡ Some p → r.place ≤ p
  unfolding refusals
  least_25 p f = least (refusal 25 p) (append_in _ _ _ (inl (append_in _ _ _ (inl (append_in _ (at_place 24 (outside_grammar s)) _ (inr (place_in 25 (too_deep s) p f)))))))

  least_dkim : (p : ℕ) → spelled_again 4 dkim s ≡ Some p → r.place ≤ p
  unfolding refusals
  least_dkim p f = least (refusal 26 p) (append_in _ _ _ (inl (append_in _ (at_place 24 (outside_grammar s) ++ at_place 25 (too_deep s)) _ (inr (place_in 26 (spelled_again 4 dkim s) p f)))))

  least_spf : (p : ℕ) → spelled_again 3 spf s ≡ Some p → r.place ≤ p
  unfolding refusals
  least_spf p f = least (refusal 26 p) (append_in _ (at_place 24 (outside_grammar s) ++ at_place 25 (too_deep s) ++ at_place 26 (spelled_again 4 dkim s)) _ (inr (place_in 26 (spelled_again 3 spf s) p f)))

  begun : Viable (id_align 8) (take r.place s)
  unfolding too_deep
  begun = go (fault (id_align 8) s) refl
    where
      go : (o : Option ℕ) → fault (id_align 8) s ≡ o → Viable (id_align 8) (take r.place s)
      go None f = text_begins (id_align 8) r.place s ((deep_faults s).without f)
      go (Some p) f = begins_less (id_align 8) r.place p s (least_25 p f) ((deep_faults s).place (field_begins 8) p f).before

  -- no front part up to the place ends in a method spelled again
  none_ends : (k : ℕ) (m : Grammar) → 0 < k → ((v : Octets) → Text m v → length v ≡ k) → ((p : ℕ) → spelled_again k m s ≡ Some p → r.place ≤ p)
      → (n : ℕ) → n ≤ length (take r.place s) → Text (repeating (any_depth s) m) (take n (take r.place s)) → ⊥
  unfolding spelled_again begin_of_word
  none_ends k m pos long h n l t = go (shortest_text g s) refl
    where
      g : Grammar
      g = repeating (any_depth s) m

      within : n ≤ r.place
      within = omega (arith, l, length-take r.place s)

      text : Text g (take n s)
      text = subst (Text g) (take_take n r.place s within) t

      go : (o : Option ℕ) → shortest_text g s ≡ o → ⊥
      go None f = (shortest_front g s).none f n (omega (arith, l, length-take r.place s)) text
      go (Some x) f =
          let y : r.place ≤ x - k = h (x - k) (ap (begin_of_word k) f) in
          let z : k ≤ length (take x s) = repeating_length (any_depth s) m k long (take x s) ((shortest_front g s).is x f).1 in
          (shortest_front g s).not_before x f n (omega (arith, y, z, length-take x s, within, pos)) text

  claimed_before : Viable (id_align 8) (take r.place s) × NoRepeats (any_depth s) (take r.place s)
  claimed_before = (begun, record { dkim_once = none_ends 4 dkim (omega arith) dkim_length least_dkim; spf_once = none_ends 3 spf (omega arith) spf_length least_spf })

pub field_claims : (s : Octets) → FieldClaims s
field_claims s = record {
  refused_24 = claimed_24 s;
  depth_aside = claimed_depth s;
  refused_25 = claimed_25 s;
  refused_26 = claimed_26 s;
  nothing_before = claimed_before s;
  numbers = claimed_numbers s;
}
