-- Laws of report addresses.
use mathlib.Core.Bool.{Bool, true, false, ◌&&◌, ◌||◌, not, and-true, and-false, and_assoc}
use mathlib.Core.List.{List, [], ◌∷◌}
use mathlib.Core.Path.{◌≡◌, refl, ap, sym, ◌∙◌}
use Prim.Native.Nat.{ℕ, zero, suc, ◌+◌, ◌-◌, ◌≤◌, ◌<◌}
use native.Mathlib.Omega.{arith}
use lib.Dec.{eqb}
use lib.ListN.{length, take, drop, get_or, drop_of_length-le}
use borrow.Author.Tests.{eq-eqb, ne_eqb, eqb-true}
use Rattle.std.specs.List as List
use Rattle.std.specs.List.{slice_split, list_any, list_all}
use Rattle.std.specs.Char.{is_ascii_hexdigit}
use lib.Seq.{drop-cons}
use Rattle.octets.proofs.LentLaws.{rest_of}
use Rattle.text_class.specs.code.Classes.{in_class}
use Rattle.text_class.specs.declared.Class.{Class}
use native.Mathlib.Numerals.{add-one}
use Rattle.octets.specs.Octets.{Octets, octets, is_empty, all, any, between, is_letter, is_digit, one_of, onto_first, split, after}
use Rattle.policy.specs.Reports.{scheme_octet, hex_digit, uri_octet, uri_octets, after_scheme, valid_entry}

-- ------------------------------------------------------------------ the characters of a URI

-- `%` alone is no URI octet
percent : (x : ℕ) → eqb x 37 ≡ true → uri_octet x ≡ false
unfolding uri_octet is_letter is_digit between one_of any octets
percent x e = rw (eqb-true x 37 e)

-- a character of three octets or more from the end, by whether it begins with `%`
by_first : (x y z : ℕ) (s : Octets) (b : Bool) → eqb x 37 ≡ b
    → uri_octets (x ∷ y ∷ z ∷ s) ≡ elim b as (λ _. Bool) [ true ↦ hex_digit y && hex_digit z && uri_octets s | false ↦ uri_octet x && uri_octets (y ∷ z ∷ s) ]
unfolding uri_octets
by_first x y z s b e = ap (λ (c : Bool). elim c as (λ _. Bool) [ true ↦ hex_digit y && hex_digit z && uri_octets s | false ↦ uri_octet x && uri_octets (y ∷ z ∷ s) ]) e

-- what is left of a URI where so many hex digits are due
abbrev pub owing : ℕ → Octets → Bool
owing zero s = uri_octets s
owing (suc n) [] = false
owing (suc n) (x ∷ s) = hex_digit x && owing n s

module _ (x : ℕ) where
  escaped : eqb x 37 ≡ true → (s : Octets) → uri_octets (x ∷ s) ≡ owing 2 s
  unfolding uri_octets
  escaped e [] = percent x e
  escaped e (y ∷ []) = rw (percent x e) (sym (and-false (hex_digit y)))
  escaped e (y ∷ z ∷ s) = by_first x y z s true e ∙ and_assoc (hex_digit y) (hex_digit z) (uri_octets s)

  plain : eqb x 37 ≡ false → (s : Octets) → uri_octets (x ∷ s) ≡ (uri_octet x && uri_octets s)
  unfolding uri_octets
  plain e [] = sym (and-true (uri_octet x))
  plain e (y ∷ []) = refl
  plain e (y ∷ z ∷ s) = by_first x y z s false e

-- an octet of a URI more
module _ (s : Octets) (i : ℕ) (h : i < length s) where
  next : drop i s ≡ get_or s i 0 ∷ drop (i + 1) s
  next = rw (add-one i) (drop-cons s i 0 h)

  pub begins : get_or s i 0 ≡ 37 → owing 0 (drop i s) ≡ owing 2 (drop (i + 1) s)
  begins e = rw next (escaped (get_or s i 0) (eq-eqb _ _ e) (drop (i + 1) s))

  pub passes : (get_or s i 0 ≡ 37 → ⊥) → owing 0 (drop i s) ≡ (uri_octet (get_or s i 0) && owing 0 (drop (i + 1) s))
  passes e = rw next (plain (get_or s i 0) (ne_eqb _ _ e) (drop (i + 1) s))

  pub owes : (n : ℕ) → 0 < n → owing n (drop i s) ≡ (hex_digit (get_or s i 0) && owing (n - 1) (drop (i + 1) s))
  owes zero k = absurd (omega arith)
  owes (suc n) k = let one : suc n - 1 ≡ n = omega arith in rw (next, one)

pub hex : (x : ℕ) → hex_digit x ≡ is_ascii_hexdigit x
unfolding hex_digit is_digit between
hex x = refl

pub ends : (n : ℕ) (s : Octets) (i : ℕ) → length s ≤ i → owing n (drop i s) ≡ eqb n 0
unfolding uri_octets
ends zero s i h = rw (drop_of_length-le s h)
ends (suc n) s i h = rw (drop_of_length-le s h) (sym (ne_eqb (suc n) 0 (omega arith)))

-- ------------------------------------------------------------------ an entry

-- all but the first octet, as a pattern has it
rest_all : (x : ℕ) (s : Octets) → take (length (x ∷ s) - 1) (drop 1 (x ∷ s)) ≡ s
rest_all x s = rest_of (x ∷ s) 1

pub scheme_none : (s : Octets) → length s < 1 → after_scheme s ≡ false
unfolding after_scheme
scheme_none [] h = refl
scheme_none (x ∷ s) h = absurd (omega arith)

pub scheme_first : (s : Octets) → 1 ≤ length s
    → after_scheme s ≡ (eqb (get_or s 0 0) 58 && not (eqb (length (take (length s - 1) (drop 1 s))) 0) && uri_octets (take (length s - 1) (drop 1 s)))
unfolding after_scheme
scheme_first [] h = absurd (omega arith)
scheme_first (x ∷ s) h = rw (rest_all x s, empty s)
  where
    empty : (t : Octets) → is_empty t ≡ eqb (length t) 0
    empty [] = refl
    empty (y ∷ t) = sym (ne_eqb (suc (length t)) 0 (omega arith))

pub entry_none : (s : Octets) → length s < 1 → valid_entry s ≡ false
unfolding valid_entry
entry_none [] h = refl
entry_none (x ∷ s) h = absurd (omega arith)

pub entry_first : (s : Octets) → 1 ≤ length s
    → valid_entry s ≡ (is_letter (get_or s 0 0) && after_scheme (after (in_class (Class.Word 43 45 46)) (take (length s - 1) (drop 1 s))))
unfolding valid_entry scheme_octet octets
entry_first [] h = absurd (omega arith)
entry_first (x ∷ s) h = rw (rest_all x s)

-- ------------------------------------------------------------------ a list of entries

-- the entries are the parts that std's `split` gives
same_first : (x : ℕ) (l : List Octets) → onto_first x l ≡ List.onto_first x l
unfolding onto_first
same_first x [] = refl
same_first x (p ∷ l) = refl

parts : (s : Octets) → split 44 s ≡ slice_split (λ b. eqb b 44) s
unfolding split
parts [] = refl
parts (x ∷ s) = go (parts s) (eqb x 44) refl
  where
    go : split 44 s ≡ slice_split (λ b. eqb b 44) s → (b : Bool) → eqb x 44 ≡ b → split 44 (x ∷ s) ≡ slice_split (λ c. eqb c 44) (x ∷ s)
    go ih true e = rw (e, split, ih)
    go ih false e = rw (e, split, ih, same_first)

any_part : (f : Octets → Bool) (l : List Octets) → any f l ≡ list_any f l
unfolding any
any_part f [] = refl
any_part f (x ∷ l) = ap (λ b. f x || b) (any_part f l)

pub an_entry : (f : Octets → Bool) (s : Octets) → any f (split 44 s) ≡ list_any f (slice_split (λ b. eqb b 44) s)
an_entry f s = rw (parts s) (any_part f (slice_split (λ b. eqb b 44) s))

all_parts : (f : Octets → Bool) (l : List Octets) → all f l ≡ list_all f l
unfolding all
all_parts f [] = refl
all_parts f (x ∷ l) = ap (λ b. f x && b) (all_parts f l)

pub every_entry : (f : Octets → Bool) (s : Octets) → all f (split 44 s) ≡ list_all f (slice_split (λ b. eqb b 44) s)
every_entry f s = rw (parts s) (all_parts f (slice_split (λ b. eqb b 44) s))
