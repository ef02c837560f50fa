-- A text nests no deeper than it is long: of texts of at most k octets, and of their front parts.
use mathlib.Core.Path.{◌≡◌, refl, sym, ap, ◌∙◌, subst}
use mathlib.Core.List.{List, [], ◌∷◌, ◌++◌, flatten, append_assoc, append-nil, head-eq_of_cons-eq, tail-eq_of_cons-eq}
use mathlib.Core.Logic.{◌⊎◌, inl, inr}
use Prim.Native.Nat.{ℕ, zero, suc, ◌≤◌}
use native.Mathlib.Omega.{arith}
use native.Mathlib.Nat.{not-suc-le-zero}
use lib.ListN.{length, length-append}
use mathlib.Core.Bool.{true, false, false≢true}
use Rattle.octets.specs.Octets.{Octets, octets, between}
use Rattle.grammar.specs.Grammar.{Grammar, none, empty, ◌then◌, ◌or◌, many, Each, Text, Viable}
use Rattle.grammar.specs.code.Finding.{has_empty, has_text}
use Rattle.grammar.proofs.GrammarLaws.{empty_complete, some_sound}
use Rattle.field.specs.Field.{optional, one_or_more, one, letter, literal, CRLF, FWS, ctext, quoted_pair, comment, CFWS, heading, dkim, spf, dmarc_method, comma, closing, id_align}

-- of texts of at most k octets, every one of the first is one of the second
abbrev Within : ℕ → Grammar → Grammar → Type 0
Within k a b = (s : Octets) → length s ≤ k → Text a s → Text b s

-- and every front part of at most k octets
abbrev Begun : ℕ → Grammar → Grammar → Type 0
Begun k a b = (s : Octets) → length s ≤ k → Viable a s → Viable b s

-- both
record Narrows (k : ℕ) (a b : Grammar) : Type 0 where
  texts : Within k a b
  fronts : Begun k a b

-- ------------------------------------------------------------------ where a text of two is cut

-- two ways to cut one text: the first cut comes first, or the second
cuts : (u v p q : Octets) → u ++ v ≡ p ++ q → ((m : Octets) × (u ≡ p ++ m) × (q ≡ m ++ v)) ⊎ ((m : Octets) × (p ≡ u ++ m) × (v ≡ m ++ q))
cuts [] v p q e = inr (p, refl, e)
cuts (x ∷ u) v [] q e = inl (x ∷ u, refl, sym e)
cuts (x ∷ u) v (y ∷ p) q e = elim (cuts u v p q (tail-eq_of_cons-eq e)) [
  | inl c ↦ inl (c.0, (λ i. head-eq_of_cons-eq e i ∷ c.1 i), c.2)
  | inr c ↦ inr (c.0, (λ i. head-eq_of_cons-eq (sym e) i ∷ c.1 i), c.2)
]

-- a front part of two ends in the first, or in the second
begins_then : (a b : Grammar) (s : Octets) → Viable (a then b) s → (Viable a s × Viable b []) ⊎ ((p q : Octets) × (s ≡ p ++ q) × Text a p × Viable b q)
unfolding Text
begins_then a b s t =
    let (rest, r) = t in
    let (p, q, e, x, y) = r in
    elim (cuts s rest p q e) [
      | inl c ↦ inr (p, c.0, c.1, x, (rest, subst (Text b) c.2 y))
      | inr c ↦ inl ((c.0, subst (Text a) c.1 x), (q, y))
    ]

then_first : (a b : Grammar) (s : Octets) → Viable a s → Viable b [] → Viable (a then b) s
unfolding Text
then_first a b s x y = (x.0 ++ y.0, (s ++ x.0, y.0, sym (append_assoc s x.0 y.0), x.1, y.1))

then_second : (a b : Grammar) (p q : Octets) → Text a p → Viable b q → Viable (a then b) (p ++ q)
unfolding Text
then_second a b p q x y = (y.0, (p, q ++ y.0, append_assoc p q y.0, x, y.1))

-- ------------------------------------------------------------------ how it passes through grammars

part_left : (k : ℕ) (s p q : Octets) → s ≡ p ++ q → length s ≤ k → length p ≤ k
part_left k s p q e h = omega (arith, ap length e, length-append p q)

part_right : (k : ℕ) (s p q : Octets) → s ≡ p ++ q → length s ≤ k → length q ≤ k
part_right k s p q e h = omega (arith, ap length e, length-append p q)

narrows_refl : (k : ℕ) (a : Grammar) → Narrows k a a
narrows_refl k a = record { texts = λ s h t. t; fronts = λ s h t. t }

narrows_then : (k : ℕ) (a b c d : Grammar) → Narrows k a c → Narrows k b d → Narrows k (a then b) (c then d)
unfolding Text
narrows_then k a b c d h i = record {
  texts = λ s l t. (t.0, t.1, t.2, h.texts t.0 (part_left k s t.0 t.1 t.2 l) t.3, i.texts t.1 (part_right k s t.0 t.1 t.2 l) t.4);
  fronts = fronts_then;
}
  where
    fronts_then : Begun k (a then b) (c then d)
    fronts_then s l t = elim (begins_then a b s t) [
      | inl x ↦ then_first c d s (h.fronts s l x.0) (i.fronts [] (omega arith) x.1)
      | inr x ↦ subst (Viable (c then d)) (sym x.2) (then_second c d x.0 x.1 (h.texts x.0 (part_left k s x.0 x.1 x.2 l) x.3) (i.fronts x.1 (part_right k s x.0 x.1 x.2 l) x.4))
    ]

narrows_or : (k : ℕ) (a b c d : Grammar) → Narrows k a c → Narrows k b d → Narrows k (a or b) (c or d)
unfolding Text
narrows_or k a b c d h i = record { texts = texts_or; fronts = fronts_or }
  where
    texts_or : Within k (a or b) (c or d)
    texts_or s l (inl t) = inl (h.texts s l t)
    texts_or s l (inr t) = inr (i.texts s l t)

    fronts_or : Begun k (a or b) (c or d)
    fronts_or s l t = elim t.1 [
      | inl x ↦ ((h.fronts s l (t.0, x)).0, inl (h.fronts s l (t.0, x)).1)
      | inr x ↦ ((i.fronts s l (t.0, x)).0, inr (i.fronts s l (t.0, x)).1)
    ]

-- the texts that make one, and the one in which a front part of it ends
each_narrows : (k : ℕ) (a b : Grammar) → Within k a b → (ts : List Octets) → length (flatten ts) ≤ k → Each (Text a) ts → Each (Text b) ts
unfolding Each flatten
each_narrows k a b h [] l t = t
each_narrows k a b h (p ∷ ts) l t = (h p (omega (arith, length-append p (flatten ts))) t.0, each_narrows k a b h ts (omega (arith, length-append p (flatten ts))) t.1)

many_front : (k : ℕ) (a b : Grammar) → Narrows k a b → (s rest : Octets) (ts : List Octets) → length s ≤ k → s ++ rest ≡ flatten ts → Each (Text a) ts → Viable (many b) s
unfolding Text Each flatten
many_front k a b h s rest [] l e t = (rest, ([], e, tt))
many_front k a b h s rest (p ∷ ts) l e t = elim (cuts s rest p (flatten ts) e) [
  | inl c ↦ add c.0 c.1 (many_front k a b h c.0 rest ts (part_right k s p c.0 c.1 l) (sym c.2) t.1)
  | inr c ↦ end (h.fronts s l (c.0, subst (Text a) c.1 t.0))
]
  where
    add : (m : Octets) → s ≡ p ++ m → Viable (many b) m → Viable (many b) s
    add m f x = (x.0, (p ∷ x.1.0, ap (λ r. r ++ x.0) f ∙ append_assoc p m x.0 ∙ ap (λ r. p ++ r) x.1.1, (h.texts p (part_left k s p m f l) t.0, x.1.2)))

    end : Viable b s → Viable (many b) s
    end x = (x.0, ((s ++ x.0) ∷ [], sym (append-nil (s ++ x.0)), (x.1, tt)))

narrows_many : (k : ℕ) (a b : Grammar) → Narrows k a b → Narrows k (many a) (many b)
unfolding Text
narrows_many k a b h = record {
  texts = λ s l t. (t.0, t.1, each_narrows k a b h.texts t.0 (omega (arith, ap length t.1)) t.2);
  fronts = λ s l t. many_front k a b h s t.0 t.1.0 l t.1.1 t.1.2;
}

-- ------------------------------------------------------------------ comments

-- what stands behind the first parenthesis of a comment, by the comments that may stand inside
unfoldable body : Grammar → Grammar
body c = many (optional FWS then (ctext or quoted_pair or c)) then optional FWS then one 41

narrows_body : (k : ℕ) (c d : Grammar) → Narrows k c d → Narrows k (body c) (body d)
unfolding body
narrows_body k c d h =
    narrows_then k _ _ _ _
    (narrows_many k _ _ (narrows_then k _ _ _ _ (narrows_refl k (optional FWS)) (narrows_or k _ _ _ _ (narrows_refl k ctext) (narrows_or k _ _ _ _ (narrows_refl k quoted_pair) h))))
    (narrows_refl k (optional FWS then one 41))

-- behind one octet a text is shorter
narrows_behind : (x k : ℕ) (a b : Grammar) → Narrows k a b → Narrows (suc k) (one x then a) (one x then b)
unfolding Text one
narrows_behind x k a b h = record {
  texts = λ s l t. (t.0, t.1, t.2, t.3, h.texts t.1 (shorter s t.0 t.1 t.2 l t.3) t.4);
  fronts = behind;
}
  where
    shorter : (s p q : Octets) → s ≡ p ++ q → length s ≤ suc k → Text (one x) p → length q ≤ k
    shorter s p q e l t = omega (arith, ap length e, length-append p q, ap length t.1)

    behind : Begun (suc k) (one x then a) (one x then b)
    behind s l t = elim (begins_then (one x) a s t) [
      | inl y ↦ then_first (one x) b s y.0 (h.fronts [] (omega arith) y.1)
      | inr y ↦ subst (Viable (one x then b)) (sym y.2) (then_second (one x) b y.0 y.1 y.3 (h.fronts y.1 (shorter s y.0 y.1 y.2 l y.3) y.4))
    ]

-- at no octets at all
narrows_zero : (a b : Grammar) → (Text a [] → Text b []) → Viable b [] → Narrows 0 a b
narrows_zero a b h i = record { texts = texts_zero; fronts = fronts_zero }
  where
    texts_zero : Within 0 a b
    texts_zero [] l t = h t
    texts_zero (x ∷ s) l t = absurd (not-suc-le-zero l)

    fronts_zero : Begun 0 a b
    fronts_zero [] l t = i
    fronts_zero (x ∷ s) l t = absurd (not-suc-le-zero l)

narrows_none : (k : ℕ) (b : Grammar) → Narrows k none b
unfolding Text
narrows_none k b = record { texts = λ s l t. absurd t; fronts = λ s l t. absurd t.1 }

body_not_empty : (c : Grammar) → has_empty (body c) ≡ false
unfolding has_empty body optional one
body_not_empty c = refl

body_has : has_text (body none) ≡ true
unfolding has_text body optional one
body_has = refl

body_begins : Viable (body none) []
body_begins = some_sound (body none) body_has

-- a comment of at most suc k octets, and each front part of so many, nests no deeper than that
deep : (k n : ℕ) → Narrows (suc k) (comment n) (comment (suc k))
unfolding comment body
deep k zero = narrows_none (suc k) (comment (suc k))
deep zero (suc n) = narrows_behind 40 0 (body (comment n)) (body none) (narrows_zero (body (comment n)) (body none) (λ t. absurd (false≢true (sym (body_not_empty (comment n)) ∙ empty_complete (body (comment n)) t))) body_begins)
deep (suc k) (suc n) = narrows_behind 40 (suc k) (body (comment n)) (body (comment (suc k))) (narrows_body (suc k) (comment n) (comment (suc k)) (deep k n))

-- ------------------------------------------------------------------ fields

module _ (k n : ℕ) where
  narrows_gap : Narrows (suc k) (optional (CFWS n)) (optional (CFWS (suc k)))
  unfolding optional CFWS one_or_more
  narrows_gap =
      let c = narrows_then (suc k) _ _ _ _ (narrows_refl (suc k) (optional FWS)) (deep k n) in
      narrows_or (suc k) _ _ _ _ (narrows_refl (suc k) empty)
      (narrows_or (suc k) _ _ _ _
      (narrows_then (suc k) _ _ _ _ (narrows_then (suc k) _ _ _ _ c (narrows_many (suc k) _ _ c)) (narrows_refl (suc k) (optional FWS)))
      (narrows_refl (suc k) FWS))

  narrows_opening : Narrows (suc k) (heading n) (heading (suc k))
  unfolding heading
  narrows_opening = narrows_then (suc k) _ _ _ _ (narrows_refl (suc k) (literal (octets "identity-alignment:"))) narrows_gap

  narrows_comma : Narrows (suc k) (comma n) (comma (suc k))
  unfolding comma
  narrows_comma = narrows_then (suc k) _ _ _ _ narrows_gap (narrows_then (suc k) _ _ _ _ (narrows_refl (suc k) (one 44)) narrows_gap)

  narrows_closing : Narrows (suc k) (closing n) (closing (suc k))
  unfolding closing
  narrows_closing = narrows_then (suc k) _ _ _ _ narrows_gap (narrows_refl (suc k) CRLF)

  narrows_field : Narrows (suc k) (id_align n) (id_align (suc k))
  unfolding id_align
  narrows_field =
      narrows_then (suc k) _ _ _ _ narrows_opening
      (narrows_then (suc k) _ _ _ _
      (narrows_or (suc k) _ _ _ _ (narrows_refl (suc k) (literal (octets "none")))
      (narrows_then (suc k) _ _ _ _ (narrows_refl (suc k) dmarc_method) (narrows_many (suc k) _ _ (narrows_then (suc k) _ _ _ _ narrows_comma (narrows_refl (suc k) dmarc_method)))))
      narrows_closing)

has_field : (n : ℕ) → has_text (id_align n) ≡ true
unfolding has_text id_align heading closing optional CRLF dmarc_method dkim spf literal letter one octets between
has_field n = refl

no_empty_field : (n : ℕ) → has_empty (id_align n) ≡ false
unfolding has_empty id_align heading literal letter one octets between
no_empty_field n = refl

pub field_begins : (n : ℕ) → Viable (id_align n) []
field_begins n = some_sound (id_align n) (has_field n)

-- a field nests no deeper than it is long
pub field_as_deep : (n : ℕ) (s : Octets) → Text (id_align n) s → Text (id_align (length s)) s
field_as_deep n [] t = absurd (false≢true (sym (no_empty_field n) ∙ empty_complete (id_align n) t))
field_as_deep n (x ∷ s) t = (narrows_field (length s) n).texts (x ∷ s) (omega arith) t

-- and so each of its front parts
pub front_as_deep : (n : ℕ) (s front : Octets) → length front ≤ length s → Viable (id_align n) front → Viable (id_align (length s)) front
front_as_deep n [] [] l t = field_begins 0
front_as_deep n [] (x ∷ front) l t = absurd (not-suc-le-zero l)
front_as_deep n (x ∷ s) front l t = (narrows_field (length s) n).fronts front l t
