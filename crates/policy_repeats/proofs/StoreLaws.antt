-- Laws of the store of names: what the whole says is what is stored and what is left say together.
use mathlib.Core.Bool.{Bool, true, false, ◌||◌, or-true, or-false, or_assoc}
use mathlib.Core.List.{List, [], ◌∷◌}
use mathlib.Core.Path.{◌≡◌, refl, ap, ap₂, sym, ◌∙◌}
use Prim.Native.Nat.{ℕ, zero, suc, ◌+◌, ◌*◌, ◌%◌, ◌≤◌, ◌<◌}
use native.Mathlib.Nat.{add-mod_right}
use native.Mathlib.Numerals.{add-one}
use native.Mathlib.Omega.{arith}
use lib.Dec.{eqb}
use lib.ListN.{length, drop, set, get_or, replicate, drop_of_length-le, length-set, length-replicate}
use lib.Seq.{drop-cons, get_or-set_same, get_or-set_other}
use borrow.Author.Tests.{eqb-true, eqb-false}
use Rattle.octets.specs.Octets.{Octets, any, same, between, lower_octet, lower}
use Rattle.octets.proofs.ListLaws.{any_either}
use Rattle.octets.proofs.TextLaws.{same_true}
use Rattle.policy.specs.Tags.{repeats}
use Rattle.policy_repeats.specs.code.Storing.{names_left, name_at, part_after, Next, prime, key_from, key_of, Keyed, is_stored, repeats_left, Holds}
use Rattle.policy_repeats.proofs.UnknownLaws.{none_left}

-- ------------------------------------------------------------------ a name's key

lower_digit : (x : ℕ) → lower_octet x % 32 ≡ x % 32
unfolding lower_octet
lower_digit x = go (between 65 90 x) refl
  where
    go : (b : Bool) → between 65 90 x ≡ b → lower_octet x % 32 ≡ x % 32
    go true e = rw e (add-mod_right x 32)
    go false e = rw e

pub key_lower : (key : ℕ) (s : Octets) → key_from key (lower s) ≡ key_from key s
unfolding key_from lower
key_lower key [] = refl
key_lower key (x ∷ s) =
    ap (λ (d : ℕ). key_from ((key * 32 + d) % prime) (lower s)) (lower_digit x)
    ∙ key_lower ((key * 32 + x % 32) % prime) s

module _ (key : ℕ) (s : Octets) (i : ℕ) where
  pub key_next : i < length s → key_from key (drop i s) ≡ key_from ((key * 32 + get_or s i 0 % 32) % prime) (drop (i + 1) s)
  unfolding key_from
  key_next h = rw (add-one i, drop-cons s i 0 h)

  pub key_end : length s ≤ i → key_from key (drop i s) ≡ key
  unfolding key_from
  key_end h = rw (drop_of_length-le s {i = i} h)

-- names of different keys differ
keys_differ : (a b : Octets) → (key_of a ≡ key_of b → ⊥) → same a b ≡ false
keys_differ a b h = go (same a b) refl
  where
    go : (t : Bool) → same a b ≡ t → same a b ≡ false
    go true e = absurd (h (ap key_of (same_true a b e)))
    go false e = e

-- ------------------------------------------------------------------ the names stored

module _ (text : Octets) (places : List ℕ) (name : Octets) (left last : ℕ) (one : left ≡ suc last) where
  pub is_last : same (name_at text (get_or places last 0)) name ≡ true → is_stored text places left name ≡ true
  unfolding is_stored
  is_last e = rw (one, e, or-true)

  pub is_other : same (name_at text (get_or places last 0)) name ≡ false → is_stored text places left name ≡ is_stored text places last name
  unfolding is_stored
  is_other e = rw (one, e, or-false)

  pub has_other_key : (keys : List ℕ) (count key : ℕ) → Keyed text keys places count → last < count → key ≡ key_of name → (get_or keys last 0 ≡ key → ⊥) → is_stored text places left name ≡ is_stored text places last name
  unfolding Keyed
  has_other_key keys count key k h q d = is_other (keys_differ (name_at text (get_or places last 0)) name (λ e. d (k last h ∙ e ∙ sym q)))

pub none_stored_left : (text : Octets) (places : List ℕ) (name : Octets) (left : ℕ) → left ≤ 0 → is_stored text places left name ≡ false
unfolding is_stored
none_stored_left text places name zero h = refl
none_stored_left text places name (suc left) h = absurd (omega arith)

-- what is stored at a place further on says nothing of those before
stored_before : (text : Octets) (places : List ℕ) (at v count : ℕ) → count ≤ at → (name : Octets) → is_stored text (set places at v) count name ≡ is_stored text places count name
unfolding is_stored
stored_before text places at v zero h name = refl
stored_before text places at v (suc count) h name =
    let other : count ≡ at → ⊥ = λ e. omega arith in
    ap₂ ◌||◌ (stored_before text places at v count (omega arith) name) (ap (λ (k : ℕ). same (name_at text k) name) (get_or-set_other places at count v 0 other))

-- any of several names, one by one
module _ (f : Octets → Bool) {n : Octets} {l ns : List Octets} where
  pub any_here : l ≡ n ∷ ns → f n ≡ true → any f l ≡ true
  unfolding any
  any_here e t = rw (e, t)

  pub any_next : {m : List Octets} → l ≡ n ∷ ns → f n ≡ false → ns ≡ m → any f l ≡ any f m
  unfolding any
  any_next e t q = rw (e, t, q)

pub any_end : (f : Octets → Bool) {l : List Octets} → l ≡ [] → any f l ≡ false
unfolding any
any_end f e = rw e

module _ (text : Octets) (keys places : List ℕ) (count at : ℕ) where
  module _ (h : count < length places) where
    stored_more : (name : Octets) → is_stored text (set places count at) (suc count) name ≡ (is_stored text places count name || same (name_at text at) name)
    unfolding is_stored
    stored_more name = rw (get_or-set_same places count at 0 h, stored_before text places count at count (omega arith) name)

    -- a name that is not stored moves from those left to those stored
    pub store : (next : ℕ) → names_left text at ≡ name_at text at ∷ names_left text next → is_stored text places count (name_at text at) ≡ false → repeats_left text places count at ≡ repeats_left text (set places count at) (count + 1) next
    unfolding repeats_left any repeats
    store next e n =
        rw (e, n, add-one count, any_either (is_stored text places count) (same (name_at text at)) (is_stored text (set places count at) (suc count)) stored_more (names_left text next))
        (sym (or_assoc (any (is_stored text places count) (names_left text next)) (any (same (name_at text at)) (names_left text next)) (repeats (names_left text next))))

    pub keyed_more : count < length keys → (key : ℕ) → key ≡ key_of (name_at text at) → Keyed text keys places count → Keyed text (set keys count key) (set places count at) (count + 1)
    unfolding Keyed
    keyed_more l key q k i b = go (eqb i count) refl
      where
        go : (t : Bool) → eqb i count ≡ t → get_or (set keys count key) i 0 ≡ key_of (name_at text (get_or (set places count at) i 0))
        go true e = rw (eqb-true i count e, get_or-set_same keys count key 0 l, get_or-set_same places count at 0 h) q
        go false e = rw (get_or-set_other keys count i key 0 (eqb-false i count e), get_or-set_other places count i at 0 (eqb-false i count e)) (k i (omega (arith, eqb-false i count e)))

  -- a name that is stored
  pub stored_found : (next : ℕ) → names_left text at ≡ name_at text at ∷ names_left text next → is_stored text places count (name_at text at) ≡ true → repeats_left text places count at ≡ true
  unfolding repeats_left any
  stored_found next e n = rw (e, n)

  -- no name left
  pub none_repeats : names_left text at ≡ [] → repeats_left text places count at ≡ false
  unfolding repeats_left any repeats
  none_repeats e = rw e

  -- a stored name that is left
  pub left_again : any (is_stored text places count) (names_left text at) ≡ true → repeats_left text places count at ≡ true
  unfolding repeats_left
  left_again e = rw e

  -- stored names of which none is left
  pub forget : any (is_stored text places count) (names_left text at) ≡ false → repeats_left text places count at ≡ repeats (names_left text at)
  unfolding repeats_left
  forget e = rw e

none_stored : (text : Octets) (places : List ℕ) (ns : List Octets) → any (is_stored text places 0) ns ≡ false
unfolding any is_stored
none_stored text places [] = refl
none_stored text places (n ∷ ns) = none_stored text places ns

-- nothing stored
pub starts : (text : Octets) (places : List ℕ) (at : ℕ) → repeats_left text places 0 at ≡ repeats (names_left text at)
unfolding repeats_left
starts text places at = rw (none_stored text places (names_left text at))

pub none_keyed : (text : Octets) (keys places : List ℕ) → Keyed text keys places 0
unfolding Keyed
none_keyed text keys places i h = absurd (omega arith)

-- ------------------------------------------------------------------ the turns of the search

pub begins : {text : Octets} {from at : ℕ} → Next text from at → Holds text from (replicate 1024 0) (replicate 1024 0) 0 at
begins {text} {from} {at} n = record {
  keys_room = length-replicate {A = ℕ} 1024 0;
  places_room = length-replicate {A = ℕ} 1024 0;
  keyed = none_keyed text (replicate 1024 0) (replicate 1024 0);
  first = n.first;
  whole = ap repeats n.left ∙ sym (starts text (replicate 1024 0) at);
}

module _ {text : Octets} {from : ℕ} {keys places : List ℕ} {count at : ℕ} (w : Holds text from keys places count at) where
  -- a name that is not stored, by what the calls of a turn promise
  pub stores : count < 1024 → at < length text → {r : Bool} → r ≡ is_stored text places count (name_at text at) → r ≡ false → {name : Octets} → name ≡ name_at text at
      → {key : ℕ} → key ≡ key_of name → {n : ℕ} → n ≡ part_after text at → {next : ℕ} → Next text n next → Holds text from (set keys count key) (set places count at) (count + 1) next
  stores h l e f a {key} k p {next} x =
      let fits : count < length places = omega (arith, w.places_room) in
      let left = w.first l ∙ ap (λ (ns : List Octets). name_at text at ∷ ns) (ap (names_left text) (sym p) ∙ x.left) in
      record {
        keys_room = length-set keys count key ∙ w.keys_room;
        places_room = length-set places count at ∙ w.places_room;
        keyed = keyed_more text keys places count at fits (omega (arith, w.keys_room)) key (k ∙ ap key_of a) w.keyed;
        first = x.first;
        whole = w.whole ∙ store text keys places count at fits next left (sym e ∙ f);
      }

  pub found : at < length text → is_stored text places count (name_at text at) ≡ true → repeats (names_left text from) ≡ true
  found l n = w.whole ∙ stored_found text keys places count at (part_after text at) (w.first l) n

  pub ended : length text ≤ at → repeats (names_left text from) ≡ false
  ended l = w.whole ∙ none_repeats text keys places count at (none_left text at l)

  pub again : any (is_stored text places count) (names_left text at) ≡ true → repeats (names_left text from) ≡ true
  again e = w.whole ∙ left_again text keys places count at e

  pub forgets : any (is_stored text places count) (names_left text at) ≡ false → Holds text from keys places 0 at
  forgets e = record {
    keys_room = w.keys_room;
    places_room = w.places_room;
    keyed = none_keyed text keys places;
    first = w.first;
    whole = w.whole ∙ forget text keys places count at e ∙ sym (starts text places at);
  }
