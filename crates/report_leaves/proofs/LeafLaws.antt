-- Laws of one octet of a text, an id and a name.
use Rattle.std.specs.Prelude.{Option, None, Some, Result, Ok, Err}
use Rattle.report_steps.specs.declared.Leaf.{Leaf}
use Rattle.report_steps.specs.declared.Refusal.{Refusal}
use Rattle.report_steps.specs.code.Steps.{refusal_number}
use Rattle.report_leaves.specs.declared.TextPlace.{TextPlace}
use Rattle.report_leaves.specs.declared.NamePlace.{NamePlace}
use mir.Val.{bool_byte}
use mathlib.Core.Path.{◌≡◌, refl, sym, ap, ◌∙◌, subst}
use mathlib.Core.List.{[], ◌∷◌, ◌++◌}
use mathlib.Core.Bool.{Bool, true, false, ◌&&◌, ◌||◌, not, false≢true}
use Prim.Native.Nat.{ℕ, zero, suc, ◌+◌, ◌-◌, ◌≤◌, ◌<◌}
use native.Mathlib.Omega.{arith}
use lib.Dec.{eqb, leb, ltb}
use borrow.Author.Tests.{lt-ltb, le-ltb, lt-leb, eq-eqb, ne_eqb, leb-true, eqb-true}
use Rattle.std.specs.Int.{is_in_range}
use Rattle.std.specs.Char.{is_ascii_alphanumeric}
use Rattle.octets.proofs.TextLaws.{true→T}
use Rattle.octets.specs.Octets.{Octets, octets, between, is_letter, is_digit, one_of, any}
use Rattle.domain.specs.Domain.{domain_octet}
use Rattle.reporting.specs.FileName.{alphanumeric}
use Rattle.parsing.specs.Reads.{done, ◌>>=◌, ◌>>◌, octet_where, exactly}
use Rattle.parsing_steps.specs.Stepping.{on, refused, step_of, takes, then_on, behind}
use Rattle.parsing_steps.proofs.StepLaws.{done_on, step_bind, where_no, where_yes, takes_behind, behind_other, behind_past}
use Rattle.report_form.specs.ReportForm.{Said}
use Rattle.report_form.specs.code.ReportReading.{first_is as starts, rest_of, among, chosen, one_word, text_octet, reading_entity as entity, text_from, id_from, spelled_octet, name_allows, name_from}
use Rattle.report_states.specs.Standing.{entity_rest, in_entity, text_left, id_left, name_left}
use Rattle.report_leaves.specs.code.Leaves.{said, text_at, entity_meant, Names}

-- ------------------------------------------------------------------ classes of octets

and_false : (b : Bool) → (b && false) ≡ false
and_false true = refl
and_false false = refl

pub text_same : (x : ℕ) → text_octet x ≡ (between 32 126 x && not (eqb x 60) && not (eqb x 62))
unfolding text_octet one_of any octets
text_same x = go (between 32 126 x) (eqb x 60) (eqb x 62)
  where
    go : (a b c : Bool) → (a && not (b || (c || false))) ≡ (a && not b && not c)
    go true true c = refl
    go true false true = refl
    go true false false = refl
    go false b c = refl

-- ------------------------------------------------------------------ entities

entity_no : (x : ℕ) → (x ≡ 97 → ⊥) → (x ≡ 108 → ⊥) → (x ≡ 103 → ⊥) → step_of (entity {R = Said}) x ≡ refused 20
unfolding entity one_word among starts octets
entity_no x a b c = where_no _ _ x (rw (ne_eqb x 97 a, ne_eqb x 108 b, ne_eqb x 103 c))

module _ (at x : ℕ) where
  abbrev Entity : Option ℕ → Type 0
  Entity r = step_of (in_entity {R = Said} (at - 1)) x ≡ entity_meant r

  pub amp : at ≤ 1 → x ≡ 97 → Entity (Some 2)
  unfolding in_entity entity_meant entity_rest entity one_word among starts chosen rest_of step_of octet_where behind exactly octets ◌>>=◌ ◌>>◌
  amp h e = let z : at - 1 ≡ 0 = omega (arith, h) in rw (z, e) refl

  pub lt : at ≤ 1 → x ≡ 108 → Entity (Some 5)
  unfolding in_entity entity_meant entity_rest entity one_word among starts chosen rest_of step_of octet_where behind exactly octets ◌>>=◌ ◌>>◌
  lt h e = let z : at - 1 ≡ 0 = omega (arith, h) in rw (z, e) refl

  pub gt : at ≤ 1 → x ≡ 103 → Entity (Some 5)
  unfolding in_entity entity_meant entity_rest entity one_word among starts chosen rest_of step_of octet_where behind exactly octets ◌>>=◌ ◌>>◌
  gt h e = let z : at - 1 ≡ 0 = omega (arith, h) in rw (z, e) refl

  pub no_entity : at ≤ 1 → (x ≡ 97 → ⊥) → (x ≡ 108 → ⊥) → (x ≡ 103 → ⊥) → Entity None
  unfolding in_entity entity_meant
  no_entity h a b c = let z : at - 1 ≡ 0 = omega (arith, h) in rw z (entity_no x a b c)

  -- within one: the octet that must come, and any other
  pub comes_m : at ≡ 2 → x ≡ 109 → Entity (Some 3)
  unfolding in_entity entity_meant entity_rest step_of octet_where behind exactly octets
  comes_m h e = rw (h, e) refl

  pub comes_p : at ≡ 3 → x ≡ 112 → Entity (Some 4)
  unfolding in_entity entity_meant entity_rest step_of octet_where behind exactly octets
  comes_p h e = rw (h, e) refl

  pub comes_end : at ≡ 4 → x ≡ 59 → Entity (Some 0)
  unfolding in_entity entity_meant entity_rest step_of octet_where behind exactly octets
  comes_end h e = rw (h, e) refl

  pub comes_t : at ≡ 5 → x ≡ 116 → Entity (Some 4)
  unfolding in_entity entity_meant entity_rest step_of octet_where behind exactly octets
  comes_t h e = rw (h, e) refl

  pub not_m : at ≡ 2 → (x ≡ 109 → ⊥) → Entity None
  unfolding in_entity entity_meant entity_rest octets
  not_m h e = rw h (behind_other Said 0 (octets "mp;") x (omega arith) (ne_eqb 109 x (λ q. e (sym q))))

  pub not_p : at ≡ 3 → (x ≡ 112 → ⊥) → Entity None
  unfolding in_entity entity_meant entity_rest octets
  not_p h e = rw h (behind_other Said 0 (octets "p;") x (omega arith) (ne_eqb 112 x (λ q. e (sym q))))

  pub not_end : at ≡ 4 → (x ≡ 59 → ⊥) → Entity None
  unfolding in_entity entity_meant entity_rest octets
  not_end h e = rw h (behind_other Said 0 (octets ";") x (omega arith) (ne_eqb 59 x (λ q. e (sym q))))

  pub not_t : at ≡ 5 → (x ≡ 116 → ⊥) → Entity None
  unfolding in_entity entity_meant entity_rest octets
  not_t h e = rw h (behind_other Said 0 (octets "t;") x (omega arith) (ne_eqb 116 x (λ q. e (sym q))))

  pub past_entities : 5 < at → Entity None
  unfolding in_entity entity_meant entity_rest
  past_entities h =
      let z : at - 1 ≡ suc (suc (suc (suc (suc (at - 6))))) = omega (arith, h) in
      rw z (behind_past Said 0 [] x (omega arith))

  pub is_last : at ≤ 5 → 1 < at → (at ≡ 2 → ⊥) → (at ≡ 3 → ⊥) → (at ≡ 4 → ⊥) → at ≡ 5
  is_last a b c d e = omega (arith, a, b, c, d, e)

-- ------------------------------------------------------------------ texts

takes_entity : (e : ℕ) → takes (in_entity {R = Said} e) ≡ true
unfolding in_entity entity one_word octet_where takes
takes_entity zero = refl
takes_entity (suc e) = takes_behind Said 0 (entity_rest e)

module _ (m x : ℕ) (some : Bool) where
  text_end : x ≡ 60 → some ≡ true → step_of (text_from {R = Said} (suc m) some) x ≡ on (done tt)
  unfolding text_from text_octet between one_of any octets
  text_end e f = rw (e, f) (where_yes (λ y. text_octet y || (true && eqb y 60)) _ 60 refl)

  text_none : x ≡ 60 → some ≡ false → step_of (text_from {R = Said} (suc m) some) x ≡ refused 20
  unfolding text_from text_octet between one_of any octets
  text_none e f = where_no (λ y. text_octet y || (some && eqb y 60)) (λ y. elim (eqb y 60) [ true ↦ done tt | false ↦ elim (eqb y 38) [ true ↦ entity >> text_from m true | false ↦ text_from m true ] ]) x (rw (e, f) refl)

  text_other : eqb x 60 ≡ false → text_octet x ≡ false → step_of (text_from {R = Said} (suc m) some) x ≡ refused 20
  unfolding text_from
  text_other e f = where_no (λ y. text_octet y || (some && eqb y 60)) _ x (rw (e, f) (and_false some))

  text_one : eqb x 60 ≡ false → text_octet x ≡ true
      → step_of (text_from {R = Said} (suc m) some) x ≡ on (elim (eqb x 38) [ true ↦ entity >> text_from m true | false ↦ text_from m true ])
  unfolding text_from
  text_one e f = where_yes (λ y. text_octet y || (some && eqb y 60)) _ x (rw f refl) ∙ rw e refl

module _ (n at x : ℕ) where
  abbrev TextSays : Result (Leaf TextPlace) Refusal → Type 0
  TextSays r = step_of (text_left {R = Said} n at) x ≡ said text_at tt r

  inner : (r : Option ℕ) → (at ≡ 0 → ⊥) → step_of (in_entity {R = Said} (at - 1)) x ≡ entity_meant r → step_of (text_left {R = Said} n at) x ≡ then_on (entity_meant r) (λ u. text_left n 0)
  unfolding text_left ◌>>◌
  inner r h q =
      let z : at ≡ suc (at - 1) = omega (arith, h) in
      ap (λ k. step_of (text_left {R = Said} n k) x) z ∙ step_bind (in_entity (at - 1)) (λ u. text_left n 0) x (takes_entity (at - 1)) ∙ ap (λ s. then_on s (λ u. text_left n 0)) q

  pub in_refused : (at ≡ 0 → ⊥) → step_of (in_entity {R = Said} (at - 1)) x ≡ entity_meant None → TextSays (Err Refusal.Outside)
  unfolding said text_at refusal_number entity_meant then_on
  in_refused h q = inner None h q

  pub in_on : (at ≡ 0 → ⊥) → (r : ℕ) → step_of (in_entity {R = Said} (at - 1)) x ≡ entity_meant (Some r) → TextSays (Ok (Leaf.More (record { length = n; at = r })))
  unfolding said text_at refusal_number entity_meant then_on text_left ◌>>◌
  in_on h r q = inner (Some r) h q ∙ go r
    where
      go : (k : ℕ) → then_on (entity_meant (Some k)) (λ u. text_left n 0) ≡ on (text_left n k)
      go zero = ap on (done_on _ _)
      go (suc k) = let z : suc k - 1 ≡ k = omega arith in rw (ne_eqb (suc k) 0 (λ q. omega (arith, q)), z) refl

  -- outside an entity
  outside : at ≡ 0 → text_left {R = Said} n at ≡ text_from (4096 - n) (ltb 0 n)
  unfolding text_left
  outside h = rw h refl

  pub text_empty : at ≡ 0 → x ≡ 60 → n ≡ 0 → TextSays (Err Refusal.Outside)
  unfolding said text_at refusal_number
  text_empty h e z = ap (λ t. step_of t x) (outside h) ∙ (let k : 4096 - n ≡ suc (4095 - n) = omega (arith, z) in rw k (text_none (4095 - n) x (ltb 0 n) e (le-ltb 0 n (omega (arith, z)))))

  pub text_ended : at ≡ 0 → x ≡ 60 → (n ≡ 0 → ⊥) → TextSays (Ok Leaf.Ended)
  unfolding said text_at refusal_number text_from
  text_ended h e z = ap (λ t. step_of t x) (outside h) ∙ go (4096 - n)
    where
      some : ltb 0 n ≡ true
      some = lt-ltb 0 n (omega (arith, z))

      go : (k : ℕ) → step_of (text_from {R = Said} k (ltb 0 n)) x ≡ on (done tt)
      go zero = where_yes (eqb 60) _ x (eq-eqb 60 x (sym e))
      go (suc k) = text_end k x (ltb 0 n) e some

  pub text_full : at ≡ 0 → (x ≡ 60 → ⊥) → 4096 ≤ n → TextSays (Err Refusal.Outside)
  unfolding said text_at refusal_number text_from
  text_full h e z = ap (λ t. step_of t x) (outside h) ∙ (let k : 4096 - n ≡ 0 = omega (arith, z) in rw k (where_no (eqb 60) _ x (ne_eqb 60 x (λ q. e (sym q)))))

  room : n < 4096 → 4096 - n ≡ suc (4096 - (n + 1))
  room z = omega (arith, z)

  pub text_refused : at ≡ 0 → (x ≡ 60 → ⊥) → n < 4096 → text_octet x ≡ false → TextSays (Err Refusal.Outside)
  unfolding said text_at refusal_number
  text_refused h e z f = ap (λ t. step_of t x) (outside h) ∙ rw (room z) (text_other (4096 - (n + 1)) x (ltb 0 n) (ne_eqb x 60 e) f)

  more : true ≡ ltb 0 (n + 1)
  more = sym (lt-ltb 0 (n + 1) (omega arith))

  text_entity : at ≡ 0 → (x ≡ 60 → ⊥) → n < 4096 → text_octet x ≡ true → eqb x 38 ≡ true → TextSays (Ok (Leaf.More (record { length = n + 1; at = 1 })))
  unfolding said text_at text_left in_entity
  text_entity h e z f g =
      ap (λ t. step_of t x) (outside h) ∙ ap (λ k. step_of (text_from {R = Said} k (ltb 0 n)) x) (room z) ∙ text_one (4096 - (n + 1)) x (ltb 0 n) (ne_eqb x 60 e) f
      ∙ rw g (ap (λ b. on (entity >> text_from {R = Said} (4096 - (n + 1)) b)) more)

  text_plain : at ≡ 0 → (x ≡ 60 → ⊥) → n < 4096 → text_octet x ≡ true → eqb x 38 ≡ false → TextSays (Ok (Leaf.More (record { length = n + 1; at = 0 })))
  unfolding said text_at text_left
  text_plain h e z f g =
      ap (λ t. step_of t x) (outside h) ∙ ap (λ k. step_of (text_from {R = Said} k (ltb 0 n)) x) (room z) ∙ text_one (4096 - (n + 1)) x (ltb 0 n) (ne_eqb x 60 e) f
      ∙ rw g (ap (λ b. on (text_from {R = Said} (4096 - (n + 1)) b)) more)

  pub text_more : (k : ℕ) → k ≡ bool_byte (eqb x 38) → at ≡ 0 → (x ≡ 60 → ⊥) → n < 4096 → text_octet x ≡ true → TextSays (Ok (Leaf.More (record { length = n + 1; at = k })))
  text_more k q h e z f = go (eqb x 38) refl q
    where
      go : (b : Bool) → eqb x 38 ≡ b → k ≡ bool_byte b → TextSays (Ok (Leaf.More (record { length = n + 1; at = k })))
      go true g q = subst (λ m. TextSays (Ok (Leaf.More (record { length = n + 1; at = m })))) (sym q) (text_entity h e z f g)
      go false g q = subst (λ m. TextSays (Ok (Leaf.More (record { length = n + 1; at = m })))) (sym q) (text_plain h e z f g)

-- ------------------------------------------------------------------ ids

pub alphanumeric_same : (x : ℕ) → is_ascii_alphanumeric x ≡ alphanumeric x
unfolding alphanumeric is_letter is_digit between
alphanumeric_same x = go (is_in_range 48 57 x) (is_in_range 65 90 x) (is_in_range 97 122 x)
  where
    go : (a b c : Bool) → ((a || b) || c) ≡ ((b || c) || a)
    go true true c = refl
    go true false true = refl
    go true false false = refl
    go false true c = refl
    go false false true = refl
    go false false false = refl

module _ (n x : ℕ) where
  abbrev IdSays : Result (Leaf ℕ) Refusal → Type 0
  IdSays r = step_of (id_left {R = Said} n) x ≡ said id_left tt r

  less_is_none : alphanumeric 60 ≡ false
  unfolding alphanumeric is_letter is_digit between
  less_is_none = refl

  pub id_empty : x ≡ 60 → n ≡ 0 → IdSays (Err Refusal.Outside)
  unfolding said text_at refusal_number id_left id_from alphanumeric is_letter is_digit between
  id_empty e z = rw (z, e) (where_no (λ y. alphanumeric y || (false && eqb y 60)) _ 60 refl)

  pub id_ended : x ≡ 60 → (n ≡ 0 → ⊥) → IdSays (Ok Leaf.Ended)
  unfolding said text_at refusal_number id_left id_from alphanumeric is_letter is_digit between
  id_ended e z = rw (lt-ltb 0 n (omega (arith, z)), e) (go (64 - n))
    where
      go : (k : ℕ) → step_of (id_from {R = Said} k true) 60 ≡ on (done tt)
      go zero = where_yes (eqb 60) _ 60 refl
      go (suc k) = where_yes (λ y. alphanumeric y || (true && eqb y 60)) _ 60 refl

  pub id_full : (x ≡ 60 → ⊥) → 64 ≤ n → IdSays (Err Refusal.Outside)
  unfolding said text_at refusal_number id_left id_from
  id_full e z = let k : 64 - n ≡ 0 = omega (arith, z) in rw k (where_no (eqb 60) _ x (ne_eqb 60 x (λ q. e (sym q))))

  id_room : n < 64 → 64 - n ≡ suc (64 - (n + 1))
  id_room z = omega (arith, z)

  pub id_refused : (x ≡ 60 → ⊥) → n < 64 → alphanumeric x ≡ false → IdSays (Err Refusal.Outside)
  unfolding said text_at refusal_number id_left id_from
  id_refused e z f = rw (id_room z) (where_no (λ y. alphanumeric y || (ltb 0 n && eqb y 60)) _ x (rw (f, ne_eqb x 60 e) (and_false (ltb 0 n))))

  pub id_plain : (x ≡ 60 → ⊥) → n < 64 → alphanumeric x ≡ true → IdSays (Ok (Leaf.More (n + 1)))
  unfolding said text_at refusal_number id_left id_from
  id_plain e z f =
      ap (λ k. step_of (id_from {R = Said} k (ltb 0 n)) x) (id_room z) ∙ where_yes (λ y. alphanumeric y || (ltb 0 n && eqb y 60)) _ x (rw f refl)
      ∙ rw (ne_eqb x 60 e) (ap (λ b. on (id_from {R = Said} (64 - (n + 1)) b)) (sym (lt-ltb 0 (n + 1) (omega arith))))

-- ------------------------------------------------------------------ names

module _ (x : ℕ) where
  at_least : (a b : ℕ) → between a b x ≡ true → a ≤ x
  unfolding between
  at_least a b e = go (leb a x) refl e
    where
      go : (c : Bool) → leb a x ≡ c → (c && leb x b) ≡ true → a ≤ x
      go true f g = leb-true a x f
      go false f g = absurd (false≢true g)

  at_most : (a b : ℕ) → between a b x ≡ true → x ≤ b
  unfolding between
  at_most a b e = go (leb a x) refl e
    where
      go : (c : Bool) → leb a x ≡ c → (c && leb x b) ≡ true → x ≤ b
      go true f g = leb-true x b g
      go false f g = absurd (false≢true g)

  above : (a b : ℕ) → b < x → between a b x ≡ false
  unfolding between
  above a b h = rw (lt-leb x b h) (and_false (leb a x))

  below : (a b : ℕ) → x < a → between a b x ≡ false
  unfolding between
  below a b h = rw (lt-leb a x h) refl

  low : between 97 122 x ≡ true → true ≡ spelled_octet x
  unfolding spelled_octet domain_octet is_letter
  low e = let h = at_least 97 122 e in rw (above 65 90 (omega (arith, h)), e) refl

  digit : is_digit x ≡ true → true ≡ spelled_octet x
  unfolding spelled_octet domain_octet is_letter is_digit
  digit e = let h = at_most 48 57 e in rw (below 65 90 (omega (arith, h)), below 97 122 (omega (arith, h)), e) refl

  dash : x ≡ 45 → true ≡ spelled_octet x
  unfolding spelled_octet domain_octet is_letter is_digit between one_of any octets
  dash e = rw e refl

  rest : between 97 122 x ≡ false → is_digit x ≡ false → eqb x 45 ≡ false → eqb x 95 ≡ spelled_octet x
  unfolding spelled_octet domain_octet is_letter one_of any octets
  rest e f g = go (eqb x 95) refl
    where
      go : (b : Bool) → eqb x 95 ≡ b → b ≡ spelled_octet x
      go true q = let h = eqb-true x 95 q in rw (above 65 90 (omega (arith, h)), e, f, g, q) refl
      go false q = rw (e, f, g, q) (or_false (between 65 90 x))
        where
          or_false : (u : Bool) → false ≡ ((((u || false) || false) || (false || false)) && not u)
          or_false true = refl
          or_false false = refl

pub spelled_same : (x : ℕ) → spelled_octet x ≡ (is_in_range 97 122 x || is_in_range 48 57 x || eqb x 45 || eqb x 95)
unfolding between is_digit
spelled_same x = go (between 97 122 x) refl (is_digit x) refl (eqb x 45) refl
  where
    go : (a : Bool) → between 97 122 x ≡ a → (b : Bool) → is_digit x ≡ b → (c : Bool) → eqb x 45 ≡ c → spelled_octet x ≡ (a || b || c || eqb x 95)
    go true e b f c g = sym (low x e)
    go false e true f c g = sym (digit x f)
    go false e false f true g = sym (dash x (eqb-true x 45 g))
    go false e false f false g = sym (rest x e f g)

module _ (n label x : ℕ) where
  abbrev NameSays : Result (Leaf NamePlace) Refusal → Type 0
  NameSays r = Names n label x r

  step_name : (so_far : Octets) → name_allows (253 - n) label x ≡ false → step_of (name_left {R = Said} n label so_far) x ≡ refused 20
  unfolding name_left name_from
  step_name s e = go (253 - n) e
    where
      go : (k : ℕ) → name_allows k label x ≡ false → step_of (name_from {R = Said} k label s) x ≡ refused 20
      go zero f = where_no (name_allows 0 label) _ x f
      go (suc k) f = where_no (name_allows (suc k) label) _ x f

  pub name_empty : x ≡ 60 → label ≡ 0 → NameSays (Err Refusal.Outside)
  unfolding said text_at refusal_number name_allows
  name_empty e z s = step_name s (rw (e, z) refl)

  pub name_ended : x ≡ 60 → (label ≡ 0 → ⊥) → NameSays (Ok Leaf.Ended)
  unfolding said text_at refusal_number name_left name_from name_allows
  name_ended e z s = go (253 - n)
    where
      allowed : (k : ℕ) → name_allows k label x ≡ true
      allowed k = rw (eq-eqb x 60 e) (lt-ltb 0 label (omega (arith, z)))

      go : (k : ℕ) → step_of (name_from {R = Said} k label s) x ≡ on (done s)
      go zero = where_yes (name_allows 0 label) _ x (allowed 0)
      go (suc k) = where_yes (name_allows (suc k) label) _ x (allowed (suc k)) ∙ rw (eq-eqb x 60 e) refl

  -- a dot
  dot_allows : (k : ℕ) → x ≡ 46 → name_allows k label x ≡ (ltb 0 label && ltb 1 k)
  unfolding name_allows
  dot_allows k e = rw e refl

  pub dot_first : x ≡ 46 → label ≡ 0 → NameSays (Err Refusal.Outside)
  unfolding said text_at refusal_number
  dot_first e z s = step_name s (dot_allows (253 - n) e ∙ rw z refl)

  pub dot_last : x ≡ 46 → 252 ≤ n → NameSays (Err Refusal.Outside)
  unfolding said text_at refusal_number
  dot_last e z s = step_name s (dot_allows (253 - n) e ∙ rw (le-ltb 1 (253 - n) (omega (arith, z))) (and_false (ltb 0 label)))

  pub dot_on : x ≡ 46 → (label ≡ 0 → ⊥) → n < 252 → NameSays (Ok (Leaf.More (record { length = n + 1; label = 0 })))
  unfolding said text_at refusal_number name_left name_from
  dot_on e z h s =
      let k : 253 - n ≡ suc (253 - (n + 1)) = omega (arith, h) in
      ap (λ m. step_of (name_from {R = Said} m label s) x) k
      ∙ where_yes (name_allows (suc (253 - (n + 1))) label) _ x (dot_allows (suc (253 - (n + 1))) e ∙ rw (lt-ltb 0 label (omega (arith, z)), lt-ltb 1 (suc (253 - (n + 1))) (omega (arith, h))) refl)
      ∙ rw (ne_eqb x 60 (λ q. omega (arith, e, q)), eq-eqb x 46 e) refl

  -- any other octet
  other_allows : (k : ℕ) → (x ≡ 60 → ⊥) → (x ≡ 46 → ⊥) → name_allows k label x ≡ (spelled_octet x && ltb label 63 && ltb 0 k)
  unfolding name_allows
  other_allows k e f = rw (ne_eqb x 60 e, ne_eqb x 46 f) refl

  pub name_full : (x ≡ 60 → ⊥) → (x ≡ 46 → ⊥) → 253 ≤ n → NameSays (Err Refusal.Outside)
  unfolding said text_at refusal_number
  name_full e f z s = step_name s (other_allows (253 - n) e f ∙ rw (le-ltb 0 (253 - n) (omega (arith, z))) (and_false (spelled_octet x && ltb label 63)))

  pub label_full : (x ≡ 60 → ⊥) → (x ≡ 46 → ⊥) → 63 ≤ label → NameSays (Err Refusal.Outside)
  unfolding said text_at refusal_number
  label_full e f z s = step_name s (other_allows (253 - n) e f ∙ rw (le-ltb label 63 z) (ap (λ b. b && ltb 0 (253 - n)) (and_false (spelled_octet x))))

  pub name_refused : (x ≡ 60 → ⊥) → (x ≡ 46 → ⊥) → spelled_octet x ≡ false → NameSays (Err Refusal.Outside)
  unfolding said text_at refusal_number
  name_refused e f z s = step_name s (other_allows (253 - n) e f ∙ rw z refl)

  pub name_on : (x ≡ 60 → ⊥) → (x ≡ 46 → ⊥) → n < 253 → label < 63 → spelled_octet x ≡ true → NameSays (Ok (Leaf.More (record { length = n + 1; label = label + 1 })))
  unfolding said text_at refusal_number name_left name_from
  name_on e f h l z s =
      let k : 253 - n ≡ suc (253 - (n + 1)) = omega (arith, h) in
      let one : suc label ≡ label + 1 = omega arith in
      ap (λ m. step_of (name_from {R = Said} m label s) x) k
      ∙ where_yes (name_allows (suc (253 - (n + 1))) label) _ x (other_allows (suc (253 - (n + 1))) e f ∙ rw (z, lt-ltb label 63 l, lt-ltb 0 (suc (253 - (n + 1))) (omega arith)) refl)
      ∙ rw (ne_eqb x 60 e, ne_eqb x 46 f) (ap (λ m. on (name_from {R = Said} (253 - (n + 1)) m (s ++ (x ∷ [])))) one)

-- where it goes on it is one longer
abbrev Longer : (length : ℕ) → Result (Leaf NamePlace) Refusal → Type 0
Longer n r = (p : NamePlace) → r ≡ Ok (Leaf.More p) → (p.length ≡ n + 1) × (n < 253)

pub one_longer : (n label : ℕ) → n < 253 → Longer n (Ok (Leaf.More (record { length = n + 1; label = label })))
one_longer n label h p e = (sym (ap (λ r. length_in r) e), h)
  where
    length_in : Result (Leaf NamePlace) Refusal → ℕ
    length_in (Ok (Leaf.More q)) = q.length
    length_in (Ok Leaf.Ended) = 0
    length_in (Err r) = 0

pub no_more : (n : ℕ) → Longer n (Ok Leaf.Ended)
no_more n p e = absurd (true→T {b = false} (cc e))

pub no_room : (n : ℕ) → Longer n (Err Refusal.Outside)
no_room n p e = absurd (true→T {b = false} (cc e))
