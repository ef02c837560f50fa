-- The rules of the small tables, each a test that is computed at every row.
use mathlib.Core.Bool.{Bool, true, false, ◌&&◌}
use mathlib.Core.List.{List, [], ◌∷◌, ◌++◌, map, flatten}
use mathlib.Core.Path.{◌≡◌, refl, ap, sym, ◌∙◌, subst}
use Prim.Native.Nat.{ℕ, zero, suc, ◌+◌, ◌-◌, ◌≤◌, ◌<◌}
use Prim.Native.String.{String}
use native.Mathlib.Nat.{add-zero, zero-add, add-suc, suc-add, le_of_suc-le-suc, not-suc-le-zero}
use native.Mathlib.Numerals.{add-one}
use native.Mathlib.Omega.{arith}
use lib.Dec.{T, eqb, eqb→eq}
use lib.ListN.{length, get_or, length-map}
use borrow.Author.Tests.{eq-eqb, ne_eqb}
use Rattle.octets.specs.Octets.{Octets, octets, same, lower, same_text}
use Rattle.octets.proofs.TextLaws.{and_left, and_right, true→T, same_true}
use Rattle.octets_pieces.specs.code.Pieces.{piece, pieces, starts}
use Rattle.octets_pieces.proofs.PieceLaws.{word_piece, word_pieces}
use Rattle.policy.specs.declared.Policy.{Policy}
use Rattle.policy.specs.Records.{word}
use Rattle.force.specs.InForce.{step_down}
use Rattle.policy_words.specs.code.Rows.{tag_names, tag_name, policy_number, policy_at, tag_number, record_words, words_of, words_from, position, word_place}

-- ------------------------------------------------------------------ any table

-- a test passes at each entry and its row, counted from i
abbrev pub every : {A : Type 0} → (ℕ → A → Bool) → ℕ → List A → Bool
every f i [] = true
every f i (x ∷ xs) = f i x && every f (suc i) xs

from : {A : Type 0} (f : ℕ → A → Bool) (d : A) (xs : List A) (i : ℕ) → T (every f i xs) → (k : ℕ) → k < length xs → T (f (i + k) (get_or xs k d))
from f d [] i t k h = absurd (not-suc-le-zero h)
from f d (x ∷ xs) i t zero h = subst (λ (m : ℕ). T (f m x)) (sym (add-zero i)) (and_left (f i x) (every f (suc i) xs) t)
from f d (x ∷ xs) i t (suc k) h =
    subst (λ (m : ℕ). T (f m (get_or xs k d))) (suc-add i k ∙ sym (add-suc i k))
    (from f d xs (suc i) (and_right (f i x) (every f (suc i) xs) t) k (le_of_suc-le-suc h))

at : {A : Type 0} (f : ℕ → A → Bool) (d : A) (xs : List A) → T (every f 0 xs) → (k : ℕ) → k < length xs → T (f k (get_or xs k d))
at f d xs t k h = subst (λ (m : ℕ). T (f m (get_or xs k d))) (zero-add k) (from f d xs 0 t k h)

-- ------------------------------------------------------------------ policies by their number

pub policy_fits : (p : Policy) → policy_number p < 3
unfolding policy_number
policy_fits Policy.None = omega arith
policy_fits Policy.Quarantine = omega arith
policy_fits Policy.Reject = omega arith

back : (p : Policy) → policy_at (policy_number p) ≡ p
unfolding policy_at policy_number
back Policy.None = refl
back Policy.Quarantine = refl
back Policy.Reject = refl

-- an entry is the step down from the policy of its row
abbrev pub is_step : ℕ → Policy → Bool
is_step k p = eqb (policy_number p) (policy_number (step_down (policy_at k)))

pub steps : (table : List Policy) → T (every is_step 0 table) → (d p : Policy) → policy_number p < length table → get_or table (policy_number p) d ≡ step_down p
steps table t d p h =
    sym (back (get_or table (policy_number p) d))
    ∙ ap policy_at (eqb→eq _ _ (at is_step d table t (policy_number p) h))
    ∙ back (step_down (policy_at (policy_number p)))
    ∙ ap step_down (back p)

-- ------------------------------------------------------------------ the place of a text in a list

module _ (s w : Octets) (ws : List Octets) where
  position_here : same s w ≡ true → position s (w ∷ ws) ≡ 0
  unfolding position
  position_here e = rw (e, position)

  position_next : same s w ≡ false → position s (w ∷ ws) ≡ suc (position s ws)
  unfolding position
  position_next e = rw (e, position)

position_fits : (s : Octets) (ws : List Octets) → position s ws ≤ length ws
unfolding position
position_fits s [] = omega arith
position_fits s (w ∷ ws) = go (position_fits s ws) (same s w) refl
  where
    go : position s ws ≤ length ws → (b : Bool) → same s w ≡ b → position s (w ∷ ws) ≤ suc (length ws)
    go ih true e = rw (position_here s w ws e) (omega arith)
    go ih false e = rw (position_next s w ws e) (omega arith)

position_found : (s : Octets) (ws : List Octets) → position s ws < length ws → same s (get_or ws (position s ws) []) ≡ true
position_found s [] h = absurd (not-suc-le-zero h)
position_found s (w ∷ ws) h = go (position_found s ws) (same s w) refl h
  where
    go : (position s ws < length ws → same s (get_or ws (position s ws) []) ≡ true) → (b : Bool) → same s w ≡ b → position s (w ∷ ws) < suc (length ws) → same s (get_or (w ∷ ws) (position s (w ∷ ws)) []) ≡ true
    go ih true e h = rw (position_here s w ws e) e
    go ih false e h = rw (position_next s w ws e) (ih (omega (arith, position_next s w ws e)))

-- ------------------------------------------------------------------ the numbers of the tag names

number_of_name : (k : ℕ) → k < 14 → tag_number (tag_name k) ≡ k
unfolding tag_number tag_name tag_names position octets same
number_of_name k h = eqb→eq _ _ (at (λ i s. eqb (tag_number s) i) [] (map octets tag_names) tt k h)

-- a name is that of its number
name_of_number : (n : Octets) (k : ℕ) → k < 14 → tag_number n ≡ k → same n (tag_name k) ≡ true
unfolding tag_number tag_name tag_names
name_of_number n k h q = ap (λ (i : ℕ). same n (get_or (map octets tag_names) i [])) (sym q) ∙ position_found n (map octets tag_names) (omega (arith, q))

pub named_by_number : (n : Octets) (k : ℕ) → k < 14 → same n (tag_name k) ≡ eqb (tag_number n) k
named_by_number n k h = go (same n (tag_name k)) refl
  where
    go : (b : Bool) → same n (tag_name k) ≡ b → same n (tag_name k) ≡ eqb (tag_number n) k
    go true e = e ∙ sym (eq-eqb (tag_number n) k (ap tag_number (same_true n (tag_name k) e) ∙ number_of_name k h))
    go false e = e ∙ sym (ne_eqb (tag_number n) k (λ q. true→T {b = false} (sym e ∙ name_of_number n k h q)))

-- ------------------------------------------------------------------ the words from one number to before another

-- the words of a table by their numbers, as the code finds them
pub word_is : (n : ℕ) → piece (flatten record_words) (starts 0 record_words) n ≡ get_or record_words n []
word_is n = word_piece record_words n

pub words_are : (ns : List ℕ) → pieces (flatten record_words) (starts 0 record_words) ns ≡ words_of ns
unfolding words_of
words_are ns = word_pieces record_words ns

module _ (s : Octets) (i last : ℕ) where
  more : i < last → words_from i (last - i) ≡ get_or record_words i [] ∷ words_from (i + 1) (last - (i + 1))
  unfolding words_from
  more h = let size : last - i ≡ suc (last - (i + 1)) = omega arith in rw (size, add-one i)

  pub place_here : i < last → same_text s (get_or record_words i []) ≡ true → word_place s i last ≡ 0
  unfolding word_place same_text
  place_here h e = rw (more h) (position_here (lower s) (lower (get_or record_words i [])) (map lower (words_from (i + 1) (last - (i + 1)))) e)

  pub place_next : i < last → same_text s (get_or record_words i []) ≡ false → word_place s i last ≡ suc (word_place s (i + 1) last)
  unfolding word_place same_text
  place_next h e = rw (more h) (position_next (lower s) (lower (get_or record_words i [])) (map lower (words_from (i + 1) (last - (i + 1)))) e)

  pub place_past : last ≤ i → word_place s i last ≡ 0
  unfolding word_place words_from position
  place_past h = let none : last - i ≡ 0 = omega arith in rw none

-- ------------------------------------------------------------------ what a word says

-- what a table of words gives: the entry of the word's place
word_at : {A : Type 0} (rows : List (String × A)) (other : A) (v : Octets) → word rows other v ≡ get_or (map (λ r. r.1) rows) (position (lower v) (map (λ r. octets r.0) rows)) other
unfolding word
word_at [] other v = refl
word_at (row ∷ rows) other v = go (word_at rows other v) (same (lower v) (octets row.0)) refl
  where
    go : word rows other v ≡ get_or (map (λ r. r.1) rows) (position (lower v) (map (λ r. octets r.0) rows)) other → (b : Bool) → same (lower v) (octets row.0) ≡ b
        → word (row ∷ rows) other v ≡ get_or (map (λ r. r.1) (row ∷ rows)) (position (lower v) (octets row.0 ∷ map (λ r. octets r.0) rows)) other
    go ih true e = rw (position_here (lower v) (octets row.0) (map (λ r. octets r.0) rows) e, e)
    go ih false e = rw (position_next (lower v) (octets row.0) (map (λ r. octets r.0) rows) e, e) ih

last_entry : {A : Type 0} (xs : List A) (a d : A) (n : ℕ) → n ≤ length xs → get_or (xs ++ (a ∷ [])) n d ≡ get_or xs n a
last_entry [] a d zero h = refl
last_entry [] a d (suc n) h = absurd (omega arith)
last_entry (x ∷ xs) a d zero h = refl
last_entry (x ∷ xs) a d (suc n) h = last_entry xs a d n (omega arith)

words_count : (first count : ℕ) → length (words_from first count) ≡ count
unfolding words_from
words_count first zero = refl
words_count first (suc count) = ap suc (words_count (suc first) count)

-- a table of entries beside the words from one number to before another: the entry of a word, and last what holds of any other value
module _ (v : Octets) (first last n : ℕ) (h : n ≡ word_place v first last) where
  size : length (map lower (words_from first (last - first))) ≡ last - first
  size = length-map (words_from first (last - first)) lower ∙ words_count first (last - first)

  pub entry_fits : n ≤ last - first
  unfolding word_place
  entry_fits = omega (arith, position_fits (lower v) (map lower (words_from first (last - first))), size)

  -- if the words are those of the rows
  pub entry_word : {A : Type 0} (rows : List (String × A)) (other : A) → map lower (words_from first (last - first)) ≡ map (λ r. octets r.0) rows → (d : A) → get_or (map (λ r. r.1) rows ++ (other ∷ [])) n d ≡ word rows other v
  unfolding word_place
  entry_word rows other e d =
      last_entry (map (λ r. r.1) rows) other d n (omega (arith, entry_fits, size, ap length e, length-map rows (λ r. octets r.0), length-map rows (λ r. r.1)))
      ∙ ap (λ (i : ℕ). get_or (map (λ r. r.1) rows) i other) (h ∙ ap (position (lower v)) e)
      ∙ sym (word_at rows other v)
