-- Laws of gathering the tags in one pass: what the whole says is what was found and what is left say together.
use mathlib.Core.Bool.{Bool, true, false, ◌||◌, not, or-true, or-false, or_assoc}
use mathlib.Core.List.{List, [], ◌∷◌, map}
use mathlib.Core.Path.{◌≡◌, refl, ap, sym, ◌∙◌}
use Prim.Native.Nat.{ℕ, zero, suc, ◌+◌, ◌-◌, ◌≤◌, ◌<◌}
use native.Mathlib.Omega.{arith}
use lib.Dec.{eqb}
use lib.ListN.{length, drop, set, get_or, replicate}
use lib.Seq.{get_or-set_same, get_or-set_other}
use borrow.Author.Tests.{eq-eqb, ne_eqb, eqb-true, eqb-false, lt-ltb, le-ltb}
use Rattle.std.specs.Prelude.{if◌then◌else◌}
use Rattle.octets.specs.Octets.{Octets, octets, any, same, split, front, trim_end, trim}
use Rattle.octets.proofs.ListLaws.{any_either}
use Rattle.octets.proofs.TextLaws.{same_true}
use Rattle.policy.specs.declared.Bounds.{Bounds}
use Rattle.policy.specs.Tags.{Tag, add_tag, repeats, tag_named}
use Rattle.policy_words.specs.code.Rows.{tag_names, tag_name, position, tag_number}
use Rattle.policy_words.proofs.TableLaws.{named_by_number}
use Rattle.policy_tags.specs.code.TagNames.{name_of, tag_value, names_of, is_known, known_names, unknown_names}
use Rattle.policy_tags.specs.code.TagValues.{tags_at}
use Rattle.policy_tags.proofs.TagLaws.{made_tag, tag_part, tag_some, tag_none, value_some, names_tags, tags_turn, tags_past}
use Rattle.policy_gather.specs.code.Gathering.{bounds_of}

-- ------------------------------------------------------------------ what was found, and what is left

abbrev pub names : List Tag → List Octets
names ts = map (λ t. t.name) ts

-- where a tag's value stands: as it was found, else as the tags that are left say
unfoldable pub place_left : List ℕ → List ℕ → List Tag → ℕ → Bounds
place_left begins lengths ts k = if eqb (get_or lengths k 0) 0 then bounds_of (tag_named (tag_name k) ts) else record { begin = get_or begins k 0; length = get_or lengths k 0 }

-- whether a name repeats: one that is left was found, or is left twice
unfoldable pub was_found : List ℕ → Octets → Bool
was_found lengths n = not (eqb (get_or lengths (tag_number n) 0) 0)

unfoldable pub repeats_left : List ℕ → List Octets → Bool
repeats_left lengths ns = any (was_found lengths) ns || repeats ns

-- what was found says together with the tags that are left what it said before with those that were left then
pub record Leaves (begins lengths : List ℕ) (others : ℕ) (ts : List Tag) (begins' lengths' : List ℕ) (others' : ℕ) (ts' : List Tag) : Type 0 where
  pub place : (k : ℕ) → k < 14 → place_left begins lengths ts k ≡ place_left begins' lengths' ts' k
  pub again : repeats_left lengths (known_names (names ts)) ≡ repeats_left lengths' (known_names (names ts'))
  pub count : others + length (unknown_names (names ts)) ≡ others' + length (unknown_names (names ts'))

pub leaves_both : {a b c d e f : List ℕ} {i j k : ℕ} {p q r : List Tag} → Leaves a b i p c d j q → Leaves c d j q e f k r → Leaves a b i p e f k r
leaves_both v w = record { place = λ k h. v.place k h ∙ w.place k h; again = v.again ∙ w.again; count = v.count ∙ w.count }

leaves_same : {b l : List ℕ} {o : ℕ} {ts ts' : List Tag} → ts ≡ ts' → Leaves b l o ts b l o ts'
leaves_same {b} {l} {o} e = record {
  place = λ k h. ap (λ (x : List Tag). place_left b l x k) e;
  again = ap (λ (x : List Tag). repeats_left l (known_names (names x))) e;
  count = ap (λ (x : List Tag). o + length (unknown_names (names x))) e;
}

-- no tag was found of a length of 0
abbrev pub Even : List ℕ → List ℕ → Type 0
Even begins lengths = (k : ℕ) → get_or lengths k 0 ≡ 0 → get_or begins k 0 ≡ 0

-- ------------------------------------------------------------------ repeated names

same_swap : (a b : Octets) → same a b ≡ same b a
same_swap a b = go (same a b) refl (same b a) refl
  where
    go : (x : Bool) → same a b ≡ x → (y : Bool) → same b a ≡ y → same a b ≡ same b a
    go true e y f = rw (same_true a b e)
    go false e true f = rw (same_true b a f)
    go false e false f = e ∙ sym f

module _ (lengths : List ℕ) (n : Octets) (e : ℕ) (known : tag_number n < 14) (fits : tag_number n < length lengths) (some : e ≡ 0 → ⊥) where
  found_more : (m : Octets) → was_found (set lengths (tag_number n) e) m ≡ (was_found lengths m || same n m)
  unfolding was_found
  found_more m = go (eqb (tag_number m) (tag_number n)) refl
    where
      j : ℕ
      j = tag_number n

      number : same n m ≡ eqb (tag_number m) j
      number = same_swap n m ∙ ap (same m) (same_true n (tag_name j) (named_by_number n j known ∙ eq-eqb j j refl)) ∙ named_by_number m j known

      go : (b : Bool) → eqb (tag_number m) j ≡ b → not (eqb (get_or (set lengths j e) (tag_number m) 0) 0) ≡ (not (eqb (get_or lengths (tag_number m) 0) 0) || same n m)
      go true q = rw (number, q, eqb-true (tag_number m) j q, get_or-set_same lengths j e 0 fits, ne_eqb e 0 some, or-true (not (eqb (get_or lengths j 0) 0)))
      go false q = rw (number, q, get_or-set_other lengths j (tag_number m) e 0 (eqb-false (tag_number m) j q), or-false (not (eqb (get_or lengths (tag_number m) 0) 0)))

  -- a name that was not found before is found
  repeats_found : (ns : List Octets) → get_or lengths (tag_number n) 0 ≡ 0 → repeats_left lengths (n ∷ ns) ≡ repeats_left (set lengths (tag_number n) e) ns
  unfolding repeats_left any repeats was_found
  repeats_found ns z =
      rw (z, any_either (was_found lengths) (same n) (was_found (set lengths (tag_number n) e)) found_more ns)
      (sym (or_assoc (any (was_found lengths) ns) (any (same n) ns) (repeats ns)))

-- ------------------------------------------------------------------ one tag more

module _ (begins lengths : List ℕ) (others : ℕ) (t : Tag) (ts : List Tag) where
  -- of a name that is not known
  unknown : (tag_number t.name < 14 → ⊥) → Leaves begins lengths others (t ∷ ts) begins lengths (others + 1) ts
  unfolding place_left tag_named known_names unknown_names is_known
  unknown u = record {
    place = λ k h. rw (named_by_number t.name k h, ne_eqb (tag_number t.name) k (λ q. u (omega arith)));
    again = rw (le-ltb (tag_number t.name) 14 (omega arith));
    count = rw (le-ltb (tag_number t.name) 14 (omega arith)) (omega arith);
  }

  -- of a known name that was found before
  found_before : tag_number t.name < 14 → (get_or lengths (tag_number t.name) 0 ≡ 0 → ⊥) → repeats_left lengths (known_names (names (t ∷ ts))) ≡ true
  unfolding repeats_left known_names is_known any was_found
  found_before h f = rw (lt-ltb (tag_number t.name) 14 h, ne_eqb (get_or lengths (tag_number t.name) 0) 0 f)

  -- of a known name that is new
  module _ (k : ℕ) (q : k ≡ tag_number t.name) (h : k < 14) (lb : length begins ≡ 14) (ll : length lengths ≡ 14) (z : get_or lengths k 0 ≡ 0) (b l : ℕ) (pb : b ≡ t.place) (pl : l ≡ length t.value) (some : l ≡ 0 → ⊥) where
    at_number : (i : ℕ) → i < 14 → (c : Bool) → eqb k i ≡ c → place_left begins lengths (t ∷ ts) i ≡ place_left (set begins k b) (set lengths k l) ts i
    unfolding place_left tag_named bounds_of
    at_number i j true c =
        let same_number : i ≡ k = sym (eqb-true k i c) in
        rw (same_number, z, named_by_number t.name k h, ← q, eq-eqb k k refl, get_or-set_same begins k b 0 (omega arith), get_or-set_same lengths k l 0 (omega arith), ne_eqb l 0 some, pb, pl)
    at_number i j false c =
        let differs : i ≡ k → ⊥ = λ s. eqb-false k i c (sym s) in
        rw (named_by_number t.name i j, ← q, c, get_or-set_other begins k i b 0 differs, get_or-set_other lengths k i l 0 differs)

    is_new : Leaves begins lengths others (t ∷ ts) (set begins k b) (set lengths k l) others ts
    unfolding known_names unknown_names is_known
    is_new = record {
      place = λ i j. at_number i j (eqb k i) refl;
      again = rw (lt-ltb (tag_number t.name) 14 (omega arith), q) (repeats_found lengths t.name l (omega arith) (omega arith) some (known_names (names ts)) (rw q at z));
      count = rw (lt-ltb (tag_number t.name) 14 (omega arith));
    }

pub even_set : (begins lengths : List ℕ) (k b l : ℕ) → k < length lengths → (l ≡ 0 → ⊥) → Even begins lengths → Even (set begins k b) (set lengths k l)
even_set begins lengths k b l h some e i = go (eqb k i) refl
  where
    go : (c : Bool) → eqb k i ≡ c → get_or (set lengths k l) i 0 ≡ 0 → get_or (set begins k b) i 0 ≡ 0
    go true c z = absurd (some (sym (get_or-set_same lengths k l 0 h) ∙ ap (λ (j : ℕ). get_or (set lengths k l) j 0) (eqb-true k i c) ∙ z))
    go false c z =
        let differs : i ≡ k → ⊥ = λ s. eqb-false k i c (sym s) in
        get_or-set_other begins k i b 0 differs ∙ e i (sym (get_or-set_other lengths k i l 0 differs) ∙ z)

-- ------------------------------------------------------------------ one part more

module _ (s : Octets) (begins lengths : List ℕ) (others at : ℕ) (p : Octets) (e : p ≡ front (λ x. not (eqb x 59)) (drop at s)) (v : Octets) (w : v ≡ tag_value (trim p)) where
  pub turn_ill : length v ≡ 0 → Leaves begins lengths others (tags_at at s) begins lengths others (tags_at (at + length p + 1) s)
  unfolding add_tag
  turn_ill h = leaves_same (tags_turn s at p e ∙ rw (tag_part at p, tag_none (trim p) v w h))

  module _ (h : length v ≡ 0 → ⊥) where
    one_tag : tags_at at s ≡ made_tag at p ∷ tags_at (at + length p + 1) s
    unfolding add_tag
    one_tag = tags_turn s at p e ∙ rw (tag_part at p, tag_some (trim p) v w h)

    pub turn_unknown : (k : ℕ) → k ≡ tag_number (name_of (trim p)) → 14 ≤ k → Leaves begins lengths others (tags_at at s) begins lengths (others + 1) (tags_at (at + length p + 1) s)
    unfolding made_tag
    turn_unknown k q u = leaves_both (leaves_same one_tag) (unknown begins lengths others (made_tag at p) (tags_at (at + length p + 1) s) (λ l. omega (arith, q, u, l)))

    pub turn_found : (k : ℕ) → k ≡ tag_number (name_of (trim p)) → k < 14 → (get_or lengths k 0 ≡ 0 → ⊥) → repeats_left lengths (known_names (names (tags_at at s))) ≡ true
    unfolding made_tag
    turn_found k q u f =
        ap (λ (ts : List Tag). repeats_left lengths (known_names (names ts))) one_tag
        ∙ found_before begins lengths others (made_tag at p) (tags_at (at + length p + 1) s) (omega (arith, q)) (λ z. f (ap (λ (i : ℕ). get_or lengths i 0) q ∙ z))

    pub turn_new : (k : ℕ) → k ≡ tag_number (name_of (trim p)) → k < 14 → length begins ≡ 14 → length lengths ≡ 14 → get_or lengths k 0 ≡ 0 → (kept : Octets) → kept ≡ trim_end p
        → Leaves begins lengths others (tags_at at s) (set begins k (at + (length kept - length v))) (set lengths k (length v)) others (tags_at (at + length p + 1) s)
    unfolding made_tag
    turn_new k q u lb ll z kept d =
        leaves_both (leaves_same one_tag)
        (is_new begins lengths others (made_tag at p) (tags_at (at + length p + 1) s) k q u lb ll z (at + (length kept - length v)) (length v) (rw (d, value_some (trim p) v w h)) (ap length (value_some (trim p) v w h)) h)

-- ------------------------------------------------------------------ the first and the last

-- no length was found yet but that of `v`
abbrev pub no_lengths : List ℕ
no_lengths = replicate 14 0

abbrev pub first_lengths : List ℕ
first_lengths = set no_lengths 8 1

zeros : (m i : ℕ) → ◌≡◌ {A = ℕ} (get_or (replicate m 0) i 0) 0
zeros zero i = refl
zeros (suc m) zero = refl
zeros (suc m) (suc i) = zeros m i

pub even_first : Even (replicate 14 0) first_lengths
even_first k z = zeros 14 k

nothing_found : (ns : List Octets) → any (was_found no_lengths) ns ≡ false
unfolding any was_found
nothing_found [] = refl
nothing_found (n ∷ ns) = rw (zeros 14 (tag_number n), nothing_found ns)

repeats_first : (ns : List Octets) → repeats_left first_lengths ns ≡ repeats (octets "v" ∷ ns)
unfolding repeats_left tag_number tag_names position octets same
repeats_first ns =
    sym (repeats_found no_lengths (octets "v") 1 (omega arith) (omega arith) (λ e. omega arith) ns refl)
    ∙ ap (λ b. b || repeats (octets "v" ∷ ns)) (nothing_found (octets "v" ∷ ns))

place_first : (begins : List ℕ) (ts : List Tag) (k : ℕ) → k < 8 → place_left begins first_lengths ts k ≡ bounds_of (tag_named (tag_name k) ts)
unfolding place_left
place_first begins ts k h =
    let other : k ≡ 8 → ⊥ = λ e. omega arith in
    rw (get_or-set_other no_lengths 8 k 1 0 other, zeros 14 k)

place_last : (begins lengths : List ℕ) → Even begins lengths → (k : ℕ) → place_left begins lengths [] k ≡ record { begin = get_or begins k 0; length = get_or lengths k 0 }
unfolding place_left tag_named bounds_of
place_last begins lengths e k = go (eqb (get_or lengths k 0) 0) refl
  where
    go : (b : Bool) → eqb (get_or lengths k 0) 0 ≡ b → place_left begins lengths [] k ≡ record { begin = get_or begins k 0; length = get_or lengths k 0 }
    go true q = rw (q, eqb-true (get_or lengths k 0) 0 q, e k (eqb-true (get_or lengths k 0) 0 q))
    go false q = rw q

module _ (s : Octets) (from : ℕ) (begins lengths : List ℕ) (others at : ℕ) (w : Leaves (replicate 14 0) first_lengths 0 (tags_at from s) begins lengths others (tags_at at s)) where
  -- a name of the parts that are left was found, or comes again
  pub repeats_some : repeats_left lengths (known_names (names (tags_at at s))) ≡ true → repeats (octets "v" ∷ known_names (names_of (split 59 (drop from s)))) ≡ true
  unfolding tags_at
  repeats_some h =
      ap (λ (ns : List Octets). repeats (octets "v" ∷ known_names ns)) (sym (names_tags from (split 59 (drop from s))))
      ∙ sym (repeats_first (known_names (names (tags_at from s)))) ∙ w.again ∙ h

  module _ (h : length s ≤ at) where
    pub repeats_none : repeats (octets "v" ∷ known_names (names_of (split 59 (drop from s)))) ≡ false
    unfolding tags_at repeats_left known_names any repeats
    repeats_none =
        ap (λ (ns : List Octets). repeats (octets "v" ∷ known_names ns)) (sym (names_tags from (split 59 (drop from s))))
        ∙ sym (repeats_first (known_names (names (tags_at from s)))) ∙ w.again
        ∙ ap (λ (ts : List Tag). repeats_left lengths (known_names (names ts))) (tags_past at s h)

    pub all_counted : others ≡ length (unknown_names (names_of (split 59 (drop from s))))
    unfolding tags_at unknown_names
    all_counted =
        let left : length (unknown_names (names (tags_at at s))) ≡ 0 = ap (λ (ts : List Tag). length (unknown_names (names ts))) (tags_past at s h) in
        let whole : length (unknown_names (names (tags_at from s))) ≡ others = omega (arith, w.count, left) in
        sym (ap (λ (ns : List Octets). length (unknown_names ns)) (sym (names_tags from (split 59 (drop from s)))) ∙ whole)

    pub all_placed : Even begins lengths → (k : ℕ) → k < 8 → record { begin = get_or begins k 0; length = get_or lengths k 0 } ≡ bounds_of (tag_named (tag_name k) (tags_at from s))
    all_placed e k l =
        sym (place_last begins lengths e k)
        ∙ sym (ap (λ (ts : List Tag). place_left begins lengths ts k) (tags_past at s h))
        ∙ sym (w.place k (omega arith))
        ∙ place_first (replicate 14 0) (tags_at from s) k l
