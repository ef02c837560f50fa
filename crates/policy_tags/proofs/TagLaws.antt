-- Laws of the tags of a text.
use mathlib.Core.Bool.{Bool, true, false, ◌&&◌, not, and-false}
use mathlib.Core.List.{List, [], ◌∷◌, ◌++◌, map, append_assoc, reverse, reverse-append, reverse-reverse}
use mathlib.Core.Path.{◌≡◌, refl, ap, sym, ◌∙◌, subst}
use Prim.Native.Nat.{ℕ, suc, ◌+◌, ◌-◌, ◌≤◌, ◌<◌}
use native.Mathlib.Omega.{arith}
use lib.Dec.{eqb}
use lib.ListN.{length, drop, get_or, drop_of_length-le, length-append, length-drop}
use lib.Seq.{drop-drop}
use borrow.Author.Tests.{eq-eqb, ne_eqb, not-true}
use Rattle.std.specs.Prelude.{if◌then◌else◌, Option, None, Some}
use Rattle.octets.specs.Octets.{Octets, octets, is_empty, all, same, between, is_letter, lower_octet, lower, split, front, after, is_blank, trim_end, trim}
use Rattle.octets.proofs.PartLaws.{front_fits, front_after, next_parts, split_first, split_next}
use Rattle.octets.proofs.TextLaws.{and_left, and_right, true→T, T→true}
use Rattle.policy.specs.Tags.{Tag, named, name_and_value, is_version, well_formed, tag_of, add_tag, tags_from, has_version, parts}
use Rattle.policy_tags.specs.code.TagValues.{version, later_parts, tags_at, value_of, is_value}
use Rattle.policy_tags.specs.code.TagNames.{name_of, is_tag, tag_value, add_name, names_of}
use Rattle.std.proofs.lemmas.Option.{none-some}

-- ------------------------------------------------------------------ the name and the value of a part

-- the value that was read after a name
second : Option (Octets × Octets) → Octets
second o = elim o [ None ↦ [] | Some t ↦ t.1 ]

judge : (Octets × Octets → Bool) → Option (Octets × Octets) → Bool
judge g o = elim o [ None ↦ false | Some t ↦ g t ]

-- a test that an empty value fails needs not ask whether there is `=`
judge_named : (g : Octets × Octets → Bool) → ((n : Octets) → g (n, []) ≡ false) → (n u : Octets) → judge g (named n u) ≡ g (lower n, second (named n u))
unfolding judge named second
judge_named g h n [] = sym (h (lower n))
judge_named g h n (x ∷ xs) =
    elim (eqb x 61) as (λ b. judge g (if b then Some (lower n, after is_blank xs) else None) ≡ g (lower n, second (if b then Some (lower n, after is_blank xs) else None))) [
      | true ↦ refl
      | false ↦ sym (h (lower n))
    ]

judge_part : (g : Octets × Octets → Bool) → ((n : Octets) → g (n, []) ≡ false) → (s : Octets) → judge g (name_and_value s) ≡ g (lower (front is_letter s), second (name_and_value s))
unfolding name_and_value
judge_part g h s = judge_named g h (front is_letter s) (after is_blank (after is_letter s))

-- the first part of a policy record
pub version_part : (s : Octets) → is_version s ≡ (same (lower (front is_letter (trim_end s))) (octets "v") && same (value_of (trim_end s)) version)
unfolding is_version value_of judge second octets same
version_part s = judge_part (λ t. same t.0 (octets "v") && same t.1 (octets "DMARC1")) (λ n. and-false (same n (octets "v"))) (trim_end s)

-- ------------------------------------------------------------------ the value

module _ (n : Octets) where
  second_none : (u : Octets) → length u < 1 → [] ≡ second (named n u)
  unfolding second named
  second_none [] h = refl
  second_none (x ∷ u) h = absurd (omega arith)

  second_other : (u : Octets) → (length u ≡ 0 → ⊥) → (get_or u 0 0 ≡ 61 → ⊥) → [] ≡ second (named n u)
  unfolding second named
  second_other [] p h = refl
  second_other (x ∷ u) p h = rw (named, ne_eqb x 61 h)

  second_found : (u : Octets) → (length u ≡ 0 → ⊥) → get_or u 0 0 ≡ 61 → after is_blank (drop 1 u) ≡ second (named n u)
  unfolding second named
  second_found [] p h = absurd (p refl)
  second_found (x ∷ u) p h = rw (named, eq-eqb x 61 h)

module _ (s u : Octets) (e : u ≡ after is_blank (after is_letter s)) where
  opened : second (named (front is_letter s) u) ≡ value_of s
  unfolding value_of name_and_value second
  opened = ap (λ (w : Octets). second (named (front is_letter s) w)) e

  pub value_none : length u < 1 → [] ≡ value_of s
  value_none h = second_none (front is_letter s) u h ∙ opened

  pub value_other : (length u ≡ 0 → ⊥) → (get_or u 0 0 ≡ 61 → ⊥) → [] ≡ value_of s
  value_other p h = second_other (front is_letter s) u p h ∙ opened

  pub value_found : (length u ≡ 0 → ⊥) → get_or u 0 0 ≡ 61 → after is_blank (drop 1 u) ≡ value_of s
  value_found p h = second_found (front is_letter s) u p h ∙ opened

-- ------------------------------------------------------------------ a well-formed tag

-- a part's value, by the tests of its name and its value
module _ (s : Octets) where
  no_letter : length (front is_letter s) ≡ 0 → is_tag s ≡ false
  unfolding is_tag name_of well_formed lower
  no_letter = go (front is_letter s)
    where
      go : (n : Octets) → length n ≡ 0 → (not (is_empty (map lower_octet n)) && not (is_empty (value_of s)) && all (between 32 126) (value_of s)) ≡ false
      go [] h = refl
      go (x ∷ n) h = absurd (omega arith)

  some_letter : (length (front is_letter s) ≡ 0 → ⊥) → is_tag s ≡ is_value (value_of s)
  unfolding is_tag name_of well_formed lower is_value
  some_letter = go (front is_letter s)
    where
      go : (n : Octets) → (length n ≡ 0 → ⊥) → (not (is_empty (map lower_octet n)) && not (is_empty (value_of s)) && all (between 32 126) (value_of s)) ≡ (not (is_empty (value_of s)) && all (between 32 126) (value_of s))
      go [] h = absurd (h refl)
      go (x ∷ n) h = refl

  pub tag_unnamed : length (front is_letter s) ≡ 0 → [] ≡ tag_value s
  unfolding tag_value
  tag_unnamed h = rw (no_letter h)

  module _ (h : length (front is_letter s) ≡ 0 → ⊥) where
    pub tag_valued : is_value (value_of s) ≡ true → value_of s ≡ tag_value s
    unfolding tag_value
    tag_valued q = rw (some_letter h, q)

    pub tag_ill : is_value (value_of s) ≡ false → [] ≡ tag_value s
    unfolding tag_value
    tag_ill q = rw (some_letter h, q)

-- ------------------------------------------------------------------ where a value stands

-- one text is the end of another
unfoldable pub End : Octets → Octets → Type 0
End v s = (w : Octets) × (s ≡ w ++ v)

end_after : (f : ℕ → Bool) (s : Octets) → End (after f s) s
unfolding End
end_after f s = (front f s, front_after f s)

end_trans : (a b c : Octets) → End a b → End b c → End a c
unfolding End
end_trans a b c p q = (q.0 ++ p.0, q.1 ∙ ap (λ l. q.0 ++ l) p.1 ∙ sym (append_assoc q.0 p.0 a))

end_cons : (x : ℕ) (a b : Octets) → End a b → End a (x ∷ b)
unfolding End
end_cons x a b p = (x ∷ p.0, ap (λ l. x ∷ l) p.1)

-- a value is the end of what it was read from
end_named : (n s : Octets) (t : Octets × Octets) → named n s ≡ Some t → End t.1 s
unfolding named second
end_named n [] t e = absurd (none-some t e)
end_named n (x ∷ xs) t e =
    (elim (eqb x 61) as (λ b. (if b then Some (lower n, after is_blank xs) else None) ≡ Some t → End t.1 (x ∷ xs)) [
      | true ↦ λ h. subst (λ v. End v (x ∷ xs)) (ap second h) (end_cons x (after is_blank xs) xs (end_after is_blank xs))
      | false ↦ λ h. absurd (none-some t h)
    ]) e

end_value : (s : Octets) (t : Octets × Octets) → name_and_value s ≡ Some t → End t.1 s
unfolding name_and_value
end_value s t e =
    end_trans t.1 (after is_blank (after is_letter s)) s (end_named (front is_letter s) (after is_blank (after is_letter s)) t e)
    (end_trans (after is_blank (after is_letter s)) (after is_letter s) s (end_after is_blank (after is_letter s)) (end_after is_letter s))

-- and so of the part, with the blanks before it
pub end_part : (p : Octets) (t : Octets × Octets) → name_and_value (trim p) ≡ Some t → End t.1 (trim_end p)
unfolding trim
end_part p t e = end_trans t.1 (trim p) (trim_end p) (end_value (trim p) t e) (end_after is_blank (trim_end p))

-- a text without the blanks at its end is its front
pub trim_end_front : (s : Octets) → (r : Octets) × (s ≡ trim_end s ++ r)
unfolding trim_end
trim_end_front s = (
  reverse (front is_blank (reverse s)),
  sym (reverse-reverse s) ∙ ap reverse (front_after is_blank (reverse s)) ∙ reverse-append (front is_blank (reverse s)) (after is_blank (reverse s)),
)

pub trim_fits : (s : Octets) → length (trim_end s) ≤ length s
trim_fits s = omega (arith, ap length (trim_end_front s).1, length-append (trim_end s) (trim_end_front s).0)

-- a part, with and without the blanks at its end, stands in the text
module _ (s : Octets) (at : ℕ) (h : at < length s) (p : Octets) (e : p ≡ front (λ x. not (eqb x 59)) (drop at s)) where
  pub part_fits : at + length p ≤ length s
  part_fits = omega (arith, ap length e, front_fits (λ x. not (eqb x 59)) (drop at s), length-drop at s)

  pub kept_fits : (k : Octets) → k ≡ trim_end p → at + length k ≤ length s
  kept_fits k d = omega (arith, part_fits, ap length d, trim_fits p)

-- a value is no longer than its part
pub value_fits : (p : Octets) → length (tag_value (trim p)) ≤ length (trim_end p)
unfolding tag_value value_of second End
value_fits p = elim (is_tag (trim p)) as (λ b. length {A = ℕ} (if b then value_of (trim p) else []) ≤ length (trim_end p)) [
  | true ↦ go (name_and_value (trim p)) refl
  | false ↦ omega arith
]
  where
    go : (o : Option (Octets × Octets)) → name_and_value (trim p) ≡ o → length {A = ℕ} (second o) ≤ length (trim_end p)
    go None e = omega arith
    go (Some t) e = let w = end_part p t e in omega (arith, ap length w.1, length-append w.0 t.1)

-- ------------------------------------------------------------------ the tags and the names of the parts in turn

-- a well-formed tag has a value
pub has_value : (t : Octets × Octets) → well_formed t ≡ true → is_empty t.1 ≡ false
unfolding well_formed
has_value t e =
    not-true (is_empty t.1)
    (T→true _ (and_right (not (is_empty t.0)) (not (is_empty t.1)) (and_left (not (is_empty t.0) && not (is_empty t.1)) _ (true→T e))))

unvalued : (n : Octets) → well_formed (n, []) ≡ false
unfolding well_formed
unvalued n = rw (and-false (not (is_empty n)))

-- the tag of a part that is one
unfoldable pub made_tag : ℕ → Octets → Tag
made_tag at p = record { name = name_of (trim p); value = value_of (trim p); place = at + (length (trim_end p) - length (value_of (trim p))) }

module _ (at : ℕ) (p : Octets) where
  given : Octets → Octets → Option Tag
  given m v = if well_formed (m, v) then Some (record { name = m; value = v; place = at + (length (trim_end p) - length v) }) else None

  tag_given : (n u : Octets) → tag_of at p (named n u) ≡ given (lower n) (second (named n u))
  unfolding tag_of named second given
  tag_given n [] = rw (unvalued (lower n))
  tag_given n (x ∷ xs) =
      elim (eqb x 61) as (λ b. tag_of at p (if b then Some (lower n, after is_blank xs) else None) ≡ given (lower n) (second (if b then Some (lower n, after is_blank xs) else None))) [
        | true ↦ refl
        | false ↦ rw (unvalued (lower n))
      ]

  pub tag_part : tag_of at p (name_and_value (trim p)) ≡ (if is_tag (trim p) then Some (made_tag at p) else None)
  unfolding is_tag made_tag name_of value_of name_and_value second given
  tag_part = tag_given (front is_letter (trim p)) (after is_blank (after is_letter (trim p)))

pub names_tags : (at : ℕ) (ps : List Octets) → map (λ t. t.name) (tags_from at ps) ≡ names_of ps
unfolding tags_from names_of add_tag add_name made_tag
names_tags at [] = refl
names_tags at (p ∷ ps) = rw (tag_part at p) (go (is_tag (trim p)) refl (names_tags (at + suc (length p)) ps))
  where
    rest : List Tag
    rest = tags_from (at + suc (length p)) ps

    go : (b : Bool) → is_tag (trim p) ≡ b → map (λ t. t.name) rest ≡ names_of ps → map (λ t. t.name) (add_tag (if is_tag (trim p) then Some (made_tag at p) else None) rest) ≡ add_name (trim p) (names_of ps)
    go true e ih = rw e (ap (λ (ns : List Octets). name_of (trim p) ∷ ns) ih)
    go false e ih = rw e ih

pub some_length : (v : Octets) → is_empty v ≡ false → (length v ≡ 0 → ⊥)
some_length [] e h = true→T {b = false} (cc e)
some_length (x ∷ v) e h = omega arith

-- a part is a well-formed tag where there is a value
module _ (s v : Octets) (e : v ≡ tag_value s) where
  pub tag_some : (length v ≡ 0 → ⊥) → is_tag s ≡ true
  unfolding tag_value
  tag_some h = go (is_tag s) refl
    where
      go : (b : Bool) → is_tag s ≡ b → is_tag s ≡ true
      go true d = d
      go false d = absurd (h (ap length (rw d at e)))

  pub tag_none : length v ≡ 0 → is_tag s ≡ false
  unfolding tag_value is_tag
  tag_none h = go (is_tag s) refl
    where
      go : (b : Bool) → is_tag s ≡ b → is_tag s ≡ false
      go true d = absurd (some_length (value_of s) (has_value (name_of s, value_of s) d) (sym (ap length (rw d at e)) ∙ h))
      go false d = d

  pub value_some : (length v ≡ 0 → ⊥) → v ≡ value_of s
  unfolding tag_value
  value_some h = rw (tag_some h) at e

-- no part, or an empty one, has a tag
none_named : (at : ℕ) → tags_from at [] ≡ tags_from at ([] ∷ [])
unfolding tags_from add_tag tag_of name_and_value named trim trim_end after front
none_named at = refl

-- the tags of what follows a part are those from the next part on
pub tags_next : (at : ℕ) (s : Octets) → tags_from (at + suc (length (front (λ x. not (eqb x 59)) (drop at s)))) (next_parts 59 (after (λ x. not (eqb x 59)) (drop at s))) ≡ tags_at (at + length (front (λ x. not (eqb x 59)) (drop at s)) + 1) s
unfolding tags_at
tags_next at s =
    let size = length (front (λ x. not (eqb x 59)) (drop at s)) in
    let same_place : at + suc size ≡ at + size + 1 = omega arith in
    let same_place' : at + (size + 1) ≡ at + size + 1 = omega arith in
    split_next (tags_from (at + suc size)) (none_named (at + suc size)) 59 (drop at s)
    ∙ ap (λ (l : Octets). tags_from (at + suc size) (split 59 l)) (drop-drop (size + 1) at s)
    ∙ ap (λ (k : ℕ). tags_from (at + suc size) (split 59 (drop k s))) same_place'
    ∙ ap (λ (k : ℕ). tags_from k (split 59 (drop (at + size + 1) s))) same_place

-- no part, or an empty one, has a name
pub no_name : names_of [] ≡ names_of ([] ∷ [])
unfolding names_of add_name is_tag name_of value_of name_and_value named well_formed trim trim_end after front lower
no_name = refl

module _ (s : Octets) (at : ℕ) (p : Octets) (e : p ≡ front (λ x. not (eqb x 59)) (drop at s)) where
  pub tags_turn : tags_at at s ≡ add_tag (tag_of at p (name_and_value (trim p))) (tags_at (at + length p + 1) s)
  unfolding tags_at tags_from
  tags_turn = rw (split_first 59 (drop at s), e) (ap (add_tag (tag_of at (front (λ x. not (eqb x 59)) (drop at s)) (name_and_value (trim (front (λ x. not (eqb x 59)) (drop at s)))))) (tags_next at s))

pub tags_past : (at : ℕ) (s : Octets) → length s ≤ at → tags_at at s ≡ []
unfolding tags_at split tags_from
tags_past at s h = rw (drop_of_length-le s {i = at} h, ← none_named at)

-- ------------------------------------------------------------------ the first part

module _ (s p : Octets) (e : p ≡ front (λ x. not (eqb x 59)) s) where
  version_first : has_version (parts s) ≡ is_version p
  unfolding has_version parts
  version_first = rw (split_first 59 s, e)

  pub starts : is_version p ≡ true → Some (length p + 1) ≡ later_parts s
  unfolding later_parts
  starts v = rw (version_first ∙ v) (ap (λ (l : Octets). Some (length l + 1)) e)

  pub no_start : is_version p ≡ false → None ≡ later_parts s
  unfolding later_parts
  no_start v = rw (version_first ∙ v)
