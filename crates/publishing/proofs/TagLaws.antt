-- Laws of written tags: each reads back as its name and its value.
use mathlib.Core.Path.{◌≡◌, refl, ap, sym, ◌∙◌}
use mathlib.Core.List.{List, [], ◌∷◌, ◌++◌, map, flatten, append_assoc, append-nil}
use mathlib.Core.Bool.{Bool, true, false, ◌&&◌, not, and-false}
use Prim.Native.Nat.{ℕ, suc, ◌+◌, ◌-◌, ◌<◌}
use Prim.Native.String.{String}
use native.Mathlib.Omega.{arith}
use lib.Dec.{T, eqb}
use lib.ListN.{length}
use borrow.Author.Tests.{not-true}
use Rattle.std.specs.Prelude.{if◌then◌else◌, Some}
use Rattle.octets.specs.Octets.{Octets, octets, is_empty, all, any, one_of, same, between, is_letter, lower, split, after, is_blank, trim_end, trim}
use Rattle.octets.proofs.ListLaws.{any_append, neither}
use Rattle.octets.proofs.TextLaws.{and_left, and_right, T→true, true→T, same→eq}
use Rattle.policy.specs.Tags.{Tag, named, name_and_value, well_formed, tag_of, add_tag, tags_from, repeats, repeats_name, tag_named}
use Rattle.policy.specs.Records.{read}
use Rattle.publishing.specs.Publishing.{tag_text}
use Rattle.publishing.proofs.SplitLaws.{after_more, front_to, after_to, no_first, end_after, split_none, split_at}

-- ------------------------------------------------------------------ names and values that read back

-- no `;`, octets 32 to 126, no blank at either end
unfoldable pub good_value : Octets → Bool
good_value v = not (one_of v 59) && all (between 32 126) v && same (trim v) v

-- one or more letters in lower case
unfoldable pub good_name : Octets → Bool
good_name n = good_value n && not (is_empty n) && all is_letter n && same (lower n) n

unfoldable pub good_tag : String × Octets → Bool
good_tag t = good_name (octets t.0) && good_value t.1

-- what the tests say
record Value (v : Octets) : Type 0 where
  no_mark : one_of v 59 ≡ false
  printable : all (between 32 126) v ≡ true
  trims : trim v ≡ v

record Name (n : Octets) : Type 0 where
  value : Value n
  some_letter : not (is_empty n) ≡ true
  letters : T (all is_letter n)
  low : lower n ≡ n

value_of : (v : Octets) → T (good_value v) → Value v
unfolding good_value
value_of v t =
    let marks = not (one_of v 59) in
    let range = all (between 32 126) v in
    let both = and_left (marks && range) (same (trim v) v) t in
    record {
      no_mark = not-true (one_of v 59) (T→true marks (and_left marks range both));
      printable = T→true range (and_right marks range both);
      trims = same→eq (trim v) v (and_right (marks && range) (same (trim v) v) t);
    }

name_of : (n : Octets) → T (good_name n) → Name n
unfolding good_name
name_of n t =
    let v = good_value n in
    let some = not (is_empty n) in
    let letters = all is_letter n in
    let three = and_left (v && some && letters) (same (lower n) n) t in
    let two = and_left (v && some) letters three in
    record {
      value = value_of n (and_left v some two);
      some_letter = T→true some (and_right v some two);
      letters = and_right (v && some) letters three;
      low = same→eq (lower n) n (and_right (v && some && letters) (same (lower n) n) t);
    }

-- ------------------------------------------------------------------ one tag

some_octet : (s : Octets) → is_empty s ≡ false → 0 < length s
some_octet [] e = absurd (true→T {b = false} (sym e))
some_octet (x ∷ s) e = omega arith

-- as it stands after `;`
unfoldable pub tag_part : (n v : Octets) → Octets
tag_part n v = 32 ∷ ((n ++ (61 ∷ [])) ++ v)

module _ (n v : Octets) (gn : Name n) (gv : Value v) (some : is_empty v ≡ false) where
  part_trims : trim (tag_part n v) ≡ n ++ (61 ∷ v)
  unfolding trim tag_part after is_blank one_of any
  part_trims =
      ap (after is_blank) (end_after v gv.trims (32 ∷ (n ++ (61 ∷ []))) (some_octet v some))
      ∙ ap (after is_blank) (append_assoc n (61 ∷ []) v)
      ∙ after_more is_blank n (61 ∷ v) (some_octet n (not-true (is_empty n) gn.some_letter)) (no_first n gn.value.trims)

  reads : name_and_value (trim (tag_part n v)) ≡ Some (n, v)
  unfolding name_and_value named after is_blank one_of any is_letter between
  reads = rw (part_trims, front_to is_letter 61 n v refl gn.letters, after_to is_letter 61 n v refl gn.letters, gn.low, no_first v gv.trims)

  tag_reads : (at : ℕ) → tag_of at (tag_part n v) (name_and_value (trim (tag_part n v)))
      ≡ Some (record { name = n; value = v; place = at + (length (trim_end (tag_part n v)) - length v) })
  unfolding tag_of well_formed
  tag_reads at = rw (reads, tag_of, gn.some_letter, some, gv.printable)

  -- no `;` in it
  part_whole : one_of (tag_part n v) 59 ≡ false
  unfolding one_of tag_part any
  part_whole = rw (any_append (eqb 59) (n ++ (61 ∷ [])) v, any_append (eqb 59) n (61 ∷ []), gn.value.no_mark, gv.no_mark)

-- ------------------------------------------------------------------ all tags

-- the parts that are written
unfoldable pub tag_parts : List (String × Octets) → List Octets
tag_parts [] = []
tag_parts (t ∷ ts) = elim (is_empty t.1) [ true ↦ tag_parts ts | false ↦ tag_part (octets t.0) t.1 ∷ tag_parts ts ]

-- and their tags, from a place on
unfoldable place_after : ℕ → String × Octets → ℕ
place_after at t = at + suc (length (tag_part (octets t.0) t.1))

unfoldable tag_at : ℕ → String × Octets → Tag
tag_at at t = record { name = octets t.0; value = t.1; place = at + (length (trim_end (tag_part (octets t.0) t.1)) - length t.1) }

unfoldable written_tags : ℕ → List (String × Octets) → List Tag
written_tags at [] = []
written_tags at (t ∷ ts) = elim (is_empty t.1) [ true ↦ written_tags at ts | false ↦ tag_at at t ∷ written_tags (place_after at t) ts ]

module _ (t : String × Octets) (ts : List (String × Octets)) (g : T (all good_tag (t ∷ ts))) where
  this_name : Name (octets t.0)
  unfolding all good_tag
  this_name = name_of (octets t.0) (and_left (good_name (octets t.0)) (good_value t.1) (and_left (good_tag t) (all good_tag ts) g))

  this_value : Value t.1
  unfolding all good_tag
  this_value = value_of t.1 (and_right (good_name (octets t.0)) (good_value t.1) (and_left (good_tag t) (all good_tag ts) g))

  others : T (all good_tag ts)
  unfolding all
  others = and_right (good_tag t) (all good_tag ts) g

pub parts_of : (ts : List (String × Octets)) (s : Octets) → T (all good_tag ts) → one_of s 59 ≡ false → split 59 (s ++ flatten (map tag_text ts)) ≡ s ∷ tag_parts ts
unfolding flatten tag_text tag_parts tag_part octets
parts_of [] s g c = rw (append-nil s) (split_none 59 s c)
parts_of (t ∷ ts) s g c = go (parts_of ts) (is_empty t.1) refl
  where
    part : Octets
    part = tag_part (octets t.0) t.1

    go : ((u : Octets) → T (all good_tag ts) → one_of u 59 ≡ false → split 59 (u ++ flatten (map tag_text ts)) ≡ u ∷ tag_parts ts)
        → (b : Bool) → is_empty t.1 ≡ b → split 59 (s ++ flatten (map tag_text (t ∷ ts))) ≡ s ∷ tag_parts (t ∷ ts)
    go later true e = rw (e, tag_parts) (later s (others t ts g) c)
    go later false e =
        rw (e, tag_parts)
        (split_at 59 s (part ++ flatten (map tag_text ts)) c
        ∙ ap (λ (ps : List Octets). s ∷ ps) (later part (others t ts g) (part_whole (octets t.0) t.1 (this_name t ts g) (this_value t ts g) e)))

tags_of : (at : ℕ) (ts : List (String × Octets)) → T (all good_tag ts) → tags_from at (tag_parts ts) ≡ written_tags at ts
unfolding tags_from tag_parts written_tags add_tag tag_at place_after
tags_of at [] g = refl
tags_of at (t ∷ ts) g = go (λ from. tags_of from ts (others t ts g)) (is_empty t.1) refl
  where
    go : ((from : ℕ) → tags_from from (tag_parts ts) ≡ written_tags from ts) → (b : Bool) → is_empty t.1 ≡ b → tags_from at (tag_parts (t ∷ ts)) ≡ written_tags at (t ∷ ts)
    go later true e = rw (e, tag_parts, written_tags) (later at)
    go later false e =
        rw (e, tag_parts, written_tags, tag_reads (octets t.0) t.1 (this_name t ts g) (this_value t ts g) e at)
        (ap (λ (l : List Tag). tag_at at t ∷ l) (later (place_after at t)))

-- ------------------------------------------------------------------ what they say

-- what the tag of a name says, or what holds where it is left out
unfoldable pub said : {A : Type 0} → A → (Octets → A) → Octets → List (String × Octets) → A
said absent f m [] = absent
said absent f m (t ∷ ts) = if same (octets t.0) m && not (is_empty t.1) then f t.1 else said absent f m ts

reads_said : {A : Type 0} (absent : A) (f : Octets → A) (m : Octets) (at : ℕ) (ts : List (String × Octets)) → read absent f (tag_named m (written_tags at ts)) ≡ said absent f m ts
unfolding read tag_named written_tags tag_at said
reads_said absent f m at [] = refl
reads_said absent f m at (t ∷ ts) = go (λ from. reads_said absent f m from ts) (is_empty t.1) (same (octets t.0) m) refl refl
  where
    go : ((from : ℕ) → read absent f (tag_named m (written_tags from ts)) ≡ said absent f m ts)
        → (b c : Bool) → is_empty t.1 ≡ b → same (octets t.0) m ≡ c → read absent f (tag_named m (written_tags at (t ∷ ts))) ≡ said absent f m (t ∷ ts)
    go later true c e d = rw (e, written_tags, and-false (same (octets t.0) m)) (later at)
    go later false true e d = rw (e, written_tags, d)
    go later false false e d = rw (e, written_tags, d) (later (place_after at t))

-- ------------------------------------------------------------------ their names

unfoldable pub names : List (String × Octets) → List Octets
names ts = map (λ t. octets t.0) ts

unfoldable tag_names : List Tag → List Octets
tag_names ts = map (λ t. t.name) ts

-- a left-out tag only makes the list shorter
none_written : (f : Octets → Bool) (at : ℕ) (ts : List (String × Octets)) → any f (names ts) ≡ false → any f (tag_names (written_tags at ts)) ≡ false
unfolding any names tag_names written_tags tag_at
none_written f at [] h = refl
none_written f at (t ∷ ts) h =
    let (first, rest) = neither (f (octets t.0)) (any f (names ts)) h in
    go first (λ from. none_written f from ts rest) (is_empty t.1) refl
  where
    go : f (octets t.0) ≡ false → ((from : ℕ) → any f (tag_names (written_tags from ts)) ≡ false) → (b : Bool) → is_empty t.1 ≡ b → any f (tag_names (written_tags at (t ∷ ts))) ≡ false
    go first later true e = rw (e, written_tags) (later at)
    go first later false e = rw (e, written_tags, first) (later (place_after at t))

no_repeats : (at : ℕ) (ts : List (String × Octets)) → repeats (names ts) ≡ false → repeats (tag_names (written_tags at ts)) ≡ false
unfolding repeats names tag_names written_tags tag_at
no_repeats at [] h = refl
no_repeats at (t ∷ ts) h =
    let (first, rest) = neither (any (same (octets t.0)) (names ts)) (repeats (names ts)) h in
    go first (λ from. no_repeats from ts rest) (is_empty t.1) refl
  where
    go : any (same (octets t.0)) (names ts) ≡ false → ((from : ℕ) → repeats (tag_names (written_tags from ts)) ≡ false) → (b : Bool) → is_empty t.1 ≡ b → repeats (tag_names (written_tags at (t ∷ ts))) ≡ false
    go first later true e = rw (e, written_tags) (later at)
    go first later false e = rw (e, written_tags, none_written (same (octets t.0)) (place_after at t) ts first) (later (place_after at t))

-- ------------------------------------------------------------------ read from the text

module _ (at : ℕ) (ts : List (String × Octets)) (g : T (all good_tag ts)) where
  pub said_back : {A : Type 0} (absent : A) (f : Octets → A) (m : Octets) → read absent f (tag_named m (tags_from at (tag_parts ts))) ≡ said absent f m ts
  said_back absent f m = rw (tags_of at ts g) (reads_said absent f m at ts)

  pub names_once : repeats (octets "v" ∷ names ts) ≡ false → repeats_name (tags_from at (tag_parts ts)) ≡ false
  unfolding repeats_name repeats tag_names
  names_once h =
      let (first, rest) = neither (any (same (octets "v")) (names ts)) (repeats (names ts)) h in
      rw (tags_of at ts g, none_written (same (octets "v")) at ts first) (no_repeats at ts rest)
