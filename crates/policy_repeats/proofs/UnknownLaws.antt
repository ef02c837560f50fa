-- Laws of the unknown names of a text.
use mathlib.Core.Bool.{Bool, true, false, not}
use mathlib.Core.List.{List, [], ◌∷◌, ◌++◌, append_assoc}
use mathlib.Core.Path.{◌≡◌, refl, ap, sym, ◌∙◌}
use Prim.Native.Nat.{ℕ, ◌+◌, ◌-◌, ◌≤◌, ◌<◌}
use native.Mathlib.Omega.{arith}
use lib.Dec.{eqb, leb, ltb}
use lib.ListN.{length, drop}
use borrow.Author.Tests.{ltb-true, ltb-false, le-leb, lt-leb}
use Rattle.std.specs.Prelude.{if◌then◌else◌, None, Some}
use Rattle.octets.specs.Octets.{Octets, is_empty, is_letter, lower, split, front, after, is_blank, trim_end, trim}
use Rattle.octets.proofs.PartLaws.{front_after}
use Rattle.octets.proofs.TextLaws.{and_left, true→T, T→true}
use Rattle.policy.specs.Tags.{named, name_and_value}
use Rattle.policy_words.specs.code.Rows.{tag_number}
use Rattle.policy_tags.specs.code.TagValues.{value_of}
use Rattle.policy_tags.specs.code.TagNames.{name_of, is_tag, tag_value, add_name, names_of, is_known, unknown_names}
use Rattle.policy_tags.proofs.TagLaws.{trim_end_front, has_value, tag_some, tag_none}
use Rattle.policy_tags.proofs.NameLaws.{names_turn, names_past}
use Rattle.policy_repeats.specs.code.Storing.{is_unknown, names_left, name_at, part_after}

-- ------------------------------------------------------------------ the front of a longer text

module _ (f : ℕ → Bool) (b : Octets) where
  -- octets after the end of the front part leave it as it is
  front_more : (a : Octets) → is_empty (after f a) ≡ false → front f (a ++ b) ≡ front f a
  unfolding front after
  front_more [] h = absurd (true→T {b = false} (sym h))
  front_more (x ∷ a) h = go (front_more a) (f x) refl h
    where
      go : (is_empty (after f a) ≡ false → front f (a ++ b) ≡ front f a) → (t : Bool) → f x ≡ t → is_empty (after f (x ∷ a)) ≡ false → front f (x ∷ (a ++ b)) ≡ front f (x ∷ a)
      go ih true e h = rw (e, front) (ap (λ (l : Octets). x ∷ l) (ih (rw (e, after) at h)))
      go ih false e h = rw (e, front)

  after_more : (a : Octets) → is_empty (after f a) ≡ false → after f (a ++ b) ≡ after f a ++ b
  unfolding after
  after_more [] h = absurd (true→T {b = false} (sym h))
  after_more (x ∷ a) h = go (after_more a) (f x) refl h
    where
      go : (is_empty (after f a) ≡ false → after f (a ++ b) ≡ after f a ++ b) → (t : Bool) → f x ≡ t → is_empty (after f (x ∷ a)) ≡ false → after f (x ∷ (a ++ b)) ≡ after f (x ∷ a) ++ b
      go ih true e h = rw (e, after) (ih (rw (e, after) at h))
      go ih false e h = rw (e, after)

-- ------------------------------------------------------------------ where a tag's name stands

module _ (s : Octets) where
  no_value : after is_letter s ≡ [] → value_of s ≡ []
  unfolding value_of name_and_value named after
  no_value q = ap (λ (u : Octets). elim (named (front is_letter s) (after is_blank u)) [ None ↦ [] | Some t ↦ t.1 ]) q

  -- a well-formed tag has a value, so something follows its name
  name_ends : is_tag s ≡ true → is_empty (after is_letter s) ≡ false
  unfolding is_tag
  name_ends e = go (after is_letter s) refl
    where
      go : (u : Octets) → after is_letter s ≡ u → is_empty (after is_letter s) ≡ false
      go [] q = absurd (true→T {b = false} (sym (has_value (name_of s, value_of s) e) ∙ ap is_empty (no_value q)))
      go (x ∷ u) q = ap is_empty q

  is_some : is_empty (after is_letter s) ≡ false → is_empty s ≡ false
  unfolding after
  is_some h = go s refl
    where
      go : (u : Octets) → s ≡ u → is_empty s ≡ false
      go [] q = rw q (rw q at h)
      go (x ∷ u) q = rw q

-- it stands in the text after the blanks at the part's begin
name_stands : (t p u : Octets) → t ≡ p ++ u → is_tag (trim p) ≡ true → front is_letter (after is_blank t) ≡ front is_letter (trim p)
unfolding trim
name_stands t p u q e =
    let r = (trim_end_front p).0 in
    let whole : t ≡ trim_end p ++ (r ++ u) = q ∙ ap (λ (l : Octets). l ++ u) (trim_end_front p).1 ∙ append_assoc (trim_end p) r u in
    ap (λ (l : Octets). front is_letter (after is_blank l)) whole
    ∙ ap (front is_letter) (after_more is_blank (r ++ u) (trim_end p) (is_some (trim p) (name_ends (trim p) e)))
    ∙ front_more is_letter (r ++ u) (trim p) (name_ends (trim p) e)

-- ------------------------------------------------------------------ a tag whose name is not known

module _ (s v : Octets) (e : v ≡ tag_value s) where
  pub no_tag : length v ≡ 0 → false ≡ is_unknown s
  unfolding is_unknown
  no_tag h = rw (tag_none s v e h)

  pub unknown_tag : (length v ≡ 0 → ⊥) → (n : ℕ) → n ≡ tag_number (name_of s) → leb 14 n ≡ is_unknown s
  unfolding is_unknown is_known
  unknown_tag h n q = rw (tag_some s v e h, ← q) (go (ltb n 14) refl)
    where
      go : (b : Bool) → ltb n 14 ≡ b → leb 14 n ≡ not (ltb n 14)
      go true t = rw t (lt-leb 14 n (ltb-true n 14 t))
      go false t = rw t (le-leb 14 n (ltb-false n 14 t))

module _ (s : Octets) (ns : List Octets) where
  added : is_unknown s ≡ true → unknown_names (add_name s ns) ≡ name_of s ∷ unknown_names ns
  unfolding is_unknown add_name unknown_names
  added e = go (is_tag s) refl (not (is_known (name_of s))) refl
    where
      go : (t : Bool) → is_tag s ≡ t → (k : Bool) → not (is_known (name_of s)) ≡ k → unknown_names (if is_tag s then name_of s ∷ ns else ns) ≡ name_of s ∷ unknown_names ns
      go true q true w = rw (q, unknown_names, w)
      go true q false w = absurd (true→T {b = false} (rw (q, w) at e))
      go false q k w = absurd (true→T {b = false} (rw q at e))

  not_added : is_unknown s ≡ false → unknown_names (add_name s ns) ≡ unknown_names ns
  unfolding is_unknown add_name unknown_names
  not_added e = go (is_tag s) refl (not (is_known (name_of s))) refl
    where
      go : (t : Bool) → is_tag s ≡ t → (k : Bool) → not (is_known (name_of s)) ≡ k → unknown_names (if is_tag s then name_of s ∷ ns else ns) ≡ unknown_names ns
      go true q true w = absurd (true→T {b = false} (sym (rw (q, w) at e)))
      go true q false w = rw (q, unknown_names, w)
      go false q k w = rw q

-- ------------------------------------------------------------------ the parts of a text in turn

module _ (text : Octets) (at : ℕ) (p : Octets) (e : p ≡ front (λ x. not (eqb x 59)) (drop at text)) where
  later : List Octets
  later = names_of (split 59 (drop (at + length p + 1) text))

  pub passed : is_unknown (trim p) ≡ false → names_left text at ≡ names_left text (at + length p + 1)
  unfolding names_left later
  passed u = ap unknown_names (names_turn text at p e) ∙ not_added (trim p) later u

  pub met : is_unknown (trim p) ≡ true → names_left text at ≡ name_at text at ∷ names_left text (part_after text at)
  unfolding names_left name_at name_of part_after is_unknown later
  met u =
      let tagged : is_tag (trim p) ≡ true = T→true _ (and_left (is_tag (trim p)) (not (is_known (name_of (trim p)))) (true→T u)) in
      let others = after (λ x. not (eqb x 59)) (drop at text) in
      let whole : drop at text ≡ p ++ others = front_after (λ x. not (eqb x 59)) (drop at text) ∙ ap (λ (l : Octets). l ++ others) (sym e) in
      ap unknown_names (names_turn text at p e)
      ∙ added (trim p) later u
      ∙ ap (λ (l : Octets). lower l ∷ unknown_names later) (sym (name_stands (drop at text) p others whole tagged))
      ∙ ap (λ (l : Octets). name_at text at ∷ names_left text (at + length l + 1)) e

pub none_left : (text : Octets) (at : ℕ) → length text ≤ at → names_left text at ≡ []
unfolding names_left unknown_names
none_left text at h = ap unknown_names (names_past at text h)

-- what begins after a part leaves less of the text
pub goes_on : (text : Octets) (at : ℕ) → at < length text → (n : ℕ) → n ≡ part_after text at → (next : ℕ) → n ≤ next → length text - next < length text - at
unfolding part_after
goes_on text at h n e next k = omega arith
