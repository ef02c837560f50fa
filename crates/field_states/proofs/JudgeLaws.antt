-- Which refusal is given, by the places found.
use Rattle.std.specs.Prelude.{Option, None, Some}
use mathlib.Core.Path.{◌≡◌, refl, ap, subst, ◌∙◌}
use mathlib.Core.List.{List, [], ◌∷◌, ◌++◌, append_assoc}
use mathlib.Core.Bool.{Bool, true, false}
use Prim.Native.Nat.{ℕ, suc, ◌+◌, ◌-◌, ◌≤◌, ◌<◌}
use native.Mathlib.Omega.{arith}
use lib.Dec.{ltb}
use borrow.Author.Tests.{lt-ltb, le-ltb}
use Rattle.octets.specs.Octets.{Octets, is_nothing}
use Rattle.octets.specs.Refusing.{OrRefused, ok, not_ok, refusal}
use Rattle.octets.specs.declared.Refusal.{Refusal}
use Rattle.field.specs.declared.NamedMethods.{NamedMethods}
use Rattle.field.specs.Field.{dkim, spf, id_align, repeating, any_depth}
use Rattle.field.specs.code.Reading.{naming, at_place, begin_of_word, outside_grammar, too_deep, spelled_again, refusals, earlier, earliest, methods_named, read_field}
use Rattle.grammar.specs.code.Finding.{fault, shortest_text}
use Rattle.std.proofs.lemmas.Option.{none-some, same_Some}

unfoldable pub chosen : List Refusal → NamedMethods → OrRefused NamedMethods
chosen l m = elim (earliest l) [ None ↦ ok m | Some r ↦ not_ok r ]

-- what is read, by the first octet outside the grammar, the first too deep, the ends of a repeated method, and the methods named
unfoldable pub judged : (out deep dkims spfs : Option ℕ) (dkim spf : Bool) → OrRefused NamedMethods
judged a b c e d s = chosen (at_place 24 a ++ (at_place 25 b ++ (at_place 26 (begin_of_word 4 c) ++ at_place 26 (begin_of_word 3 e)))) (record { dkim = d; spf = s })

pub read_is : (s : Octets) → read_field s
    ≡ judged (fault (id_align (any_depth s)) s) (fault (id_align 8) s) (shortest_text (repeating (any_depth s) dkim) s) (shortest_text (repeating (any_depth s) spf) s) (is_nothing (fault (naming 8 dkim) s)) (is_nothing (fault (naming 8 spf) s))
unfolding judged read_field refusals outside_grammar too_deep spelled_again methods_named chosen
read_is s = ap (λ l. chosen l (methods_named s)) (four (at_place 24 (outside_grammar s)) (at_place 25 (too_deep s)) (at_place 26 (spelled_again 4 dkim s)) (at_place 26 (spelled_again 3 spf s)))
  where
    four : (a b c e : List Refusal) → a ++ b ++ c ++ e ≡ a ++ (b ++ (c ++ e))
    four a b c e = append_assoc (a ++ b) c e ∙ append_assoc a b (c ++ e)

-- ------------------------------------------------------------------ the earliest

-- no refusal of the list comes before this place
abbrev NotBefore : ℕ → List Refusal → Type 0
NotBefore p l = (r : Refusal) → earliest l ≡ Some r → p ≤ r.place

nothing_before : (p : ℕ) → NotBefore p []
unfolding earliest
nothing_before p r e = absurd (none-some r e)

earlier_before : (p : ℕ) (q : Refusal) (o : Option Refusal) → p ≤ q.place → ((r : Refusal) → o ≡ Some r → p ≤ r.place) → (r : Refusal) → earlier q o ≡ Some r → p ≤ r.place
unfolding earlier
earlier_before p q None h i r e = subst (λ z. p ≤ z.place) (same_Some q r e) h
earlier_before p q (Some o) h i r e = go (ltb o.place q.place) refl
  where
    go : (b : Bool) → ltb o.place q.place ≡ b → p ≤ r.place
    go true f = i r (rw f at e)
    go false f = subst (λ z. p ≤ z.place) (same_Some q r (rw f at e)) h

place_before : (p n : ℕ) (o : Option ℕ) (l : List Refusal) → ((q : ℕ) → o ≡ Some q → p ≤ q) → NotBefore p l → NotBefore p (at_place n o ++ l)
unfolding at_place earliest
place_before p n None l h i = i
place_before p n (Some q) l h i = earlier_before p (refusal n q) (earliest l) (h q refl) i

-- the first of a list is given where nothing comes before it
first_given : (n p : ℕ) (l : List Refusal) → NotBefore p l → earliest (at_place n (Some p) ++ l) ≡ Some (refusal n p)
unfolding earliest at_place
first_given n p l h = go (earliest l) refl
  where
    go : (o : Option Refusal) → earliest l ≡ o → earlier (refusal n p) (earliest l) ≡ Some (refusal n p)
    go None e = rw e (unfold earlier in refl)
    go (Some r) e = rw e (let i = h r e in unfold earlier in rw (le-ltb r.place p i))

-- and one further on where its place comes before those in front
skipped : (n : ℕ) (o : Option ℕ) (l : List Refusal) (r : Refusal) → ((q : ℕ) → o ≡ Some q → r.place < q) → earliest l ≡ Some r → earliest (at_place n o ++ l) ≡ Some r
unfolding earliest at_place earlier
skipped n None l r h e = e
skipped n (Some q) l r h e = rw e (rw (lt-ltb r.place q (h q refl)))

field_answer : (l : List Refusal) (r : Refusal) (m : NamedMethods) → earliest l ≡ Some r → chosen l m ≡ not_ok r
unfolding chosen
field_answer l r m e = rw (e, chosen)

word_begins : (k p : ℕ) (o : Option ℕ) → ((e : ℕ) → o ≡ Some e → p ≤ e - k) → (q : ℕ) → begin_of_word k o ≡ Some q → p ≤ q
unfolding begin_of_word
word_begins k p None h q e = absurd (none-some q e)
word_begins k p (Some e) h q f = let i = h e refl in omega (arith, i, same_Some (e - k) q f)

-- ------------------------------------------------------------------ by which places are found

module _ (d s : Bool) where
  pub judged_ok : judged None None None None d s ≡ ok (record { dkim = d; spf = s })
  unfolding judged chosen at_place begin_of_word earliest
  judged_ok = refl

  pub judged_24 : (p : ℕ) → judged (Some p) (Some p) None None d s ≡ not_ok (refusal 24 p)
  unfolding judged at_place begin_of_word
  judged_24 p = field_answer _ _ _ (first_given 24 p (refusal 25 p ∷ []) (place_before p 25 (Some p) [] (λ q e. omega (arith, same_Some p q e)) (nothing_before p)))

  pub judged_25 : (p : ℕ) (a c e : Option ℕ) → ((q : ℕ) → a ≡ Some q → p < q) → ((q : ℕ) → c ≡ Some q → p + 4 ≤ q) → ((q : ℕ) → e ≡ Some q → p + 3 ≤ q)
      → judged a (Some p) c e d s ≡ not_ok (refusal 25 p)
  unfolding judged
  judged_25 p a c e h i j =
      field_answer _ _ _ (skipped 24 a _ (refusal 25 p) h (first_given 25 p _
      (place_before p 26 (begin_of_word 4 c) _ (word_begins 4 p c (λ q f. let k = i q f in omega (arith, k)))
      (append_none (place_before p 26 (begin_of_word 3 e) [] (word_begins 3 p e (λ q f. let k = j q f in omega (arith, k))) (nothing_before p))))))
    where
      append_none : NotBefore p (at_place 26 (begin_of_word 3 e) ++ []) → NotBefore p (at_place 26 (begin_of_word 3 e))
      append_none k = subst (NotBefore p) (mathlib.Core.List.append-nil (at_place 26 (begin_of_word 3 e))) k

  pub judged_dkim : (p : ℕ) (a b e : Option ℕ) → ((q : ℕ) → a ≡ Some q → suc p ≤ q) → ((q : ℕ) → b ≡ Some q → suc p ≤ q) → ((q : ℕ) → e ≡ Some q → suc p ≤ q)
      → judged a b (Some (suc p)) e d s ≡ not_ok (refusal 26 (suc p - 4))
  unfolding judged begin_of_word
  judged_dkim p a b e h i j =
      field_answer _ _ _ (skipped 24 a _ (refusal 26 (suc p - 4)) (λ q f. let k = h q f in omega (arith, k)) (skipped 25 b _ (refusal 26 (suc p - 4)) (λ q f. let k = i q f in omega (arith, k))
      (first_given 26 (suc p - 4) _
      (append_none (place_before (suc p - 4) 26 (begin_of_word 3 e) [] (word_begins 3 (suc p - 4) e (λ q f. let k = j q f in omega (arith, k))) (nothing_before (suc p - 4)))))))
    where
      append_none : NotBefore (suc p - 4) (at_place 26 (begin_of_word 3 e) ++ []) → NotBefore (suc p - 4) (at_place 26 (begin_of_word 3 e))
      append_none k = subst (NotBefore (suc p - 4)) (mathlib.Core.List.append-nil (at_place 26 (begin_of_word 3 e))) k

  pub judged_spf : (p : ℕ) (a b c : Option ℕ) → ((q : ℕ) → a ≡ Some q → suc p ≤ q) → ((q : ℕ) → b ≡ Some q → suc p ≤ q) → ((q : ℕ) → c ≡ Some q → suc p + 4 ≤ q)
      → judged a b c (Some (suc p)) d s ≡ not_ok (refusal 26 (suc p - 3))
  unfolding judged begin_of_word at_place
  judged_spf p a b c h i j =
      field_answer _ _ _ (skipped 24 a _ (refusal 26 (suc p - 3)) (λ q f. let k = h q f in omega (arith, k)) (skipped 25 b _ (refusal 26 (suc p - 3)) (λ q f. let k = i q f in omega (arith, k))
      (skipped 26 (begin_of_word 4 c) _ (refusal 26 (suc p - 3)) (λ q f. let k = word_begins 4 (suc p) c (λ e g. let m = j e g in omega (arith, m)) q f in omega (arith, k))
      (first_given 26 (suc p - 3) [] (nothing_before (suc p - 3))))))
