-- Laws of pieces.
use Rattle.std.proofs.Common.{◌≡◌, ℕ, zero, suc, ◌+◌, ◌-◌, ◌<◌, ◌≤◌, List, [], ◌∷◌, ◌++◌, map, length, get_or, take, sym, refl, ap, ◌∙◌, ap₂, append_assoc, append-nil, add-one, arith, length-append, take-suc, take_at, drop_at}
use mathlib.Core.List.{flatten}
use Rattle.octets.specs.Octets.{Octets, part_of}
use Rattle.octets_pieces.specs.code.Pieces.{piece, pieces, starts}

-- past the end of a list
past : (ns : List ℕ) (i : ℕ) → length ns ≤ i → get_or ns i 0 ≡ 0
past [] i h = refl
past (n ∷ ns) zero h = absurd (omega arith)
past (n ∷ ns) (suc i) h = past ns i (omega arith)

-- past the last
pub no_piece : (texts : Octets) (begins : List ℕ) (n : ℕ) → length begins ≤ n + 1 → piece texts begins n ≡ []
unfolding piece part_of
no_piece texts begins n h = let none : 0 - get_or begins n 0 ≡ 0 = omega arith in rw (past begins (n + 1) h, none)

module _ {A : Type 0} (f : A → Octets) where
  one_after : (xs : List A) (x : A) → flatten (map f (xs ++ (x ∷ []))) ≡ flatten (map f xs) ++ f x
  unfolding flatten
  one_after [] x = append-nil (f x)
  one_after (y ∷ xs) x = ap (λ (t : Octets). f y ++ t) (one_after xs x) ∙ sym (append_assoc (f y) (flatten (map f xs)) (f x))

  -- one text more
  pub one_more : (xs : List A) (i : ℕ) (d : A) → i < length xs → flatten (map f (take (i + 1) xs)) ≡ flatten (map f (take i xs)) ++ f (get_or xs i d)
  one_more xs i d h = rw (add-one i, take-suc xs i d h) (one_after (take i xs) (get_or xs i d))

-- ------------------------------------------------------------------ a table of words

first_start : (at : ℕ) (ws : List Octets) → get_or (starts at ws) 0 0 ≡ at
unfolding starts
first_start at [] = refl
first_start at (w ∷ ws) = refl

-- the words, after whatever stands before them
after_front : (ws : List Octets) (front : Octets) (n : ℕ) → piece (front ++ flatten ws) (starts (length front) ws) n ≡ get_or ws n []
unfolding piece part_of starts flatten
after_front [] front n = no_piece (front ++ []) (length front ∷ []) n (omega arith)
after_front (w ∷ ws) front zero =
    let size : length front + length w - length front ≡ length w = omega arith in
    rw (first_start (length front + length w) ws, size, drop_at front (w ++ flatten ws) (length front) refl) (take_at w (flatten ws) (length w) refl)
after_front (w ∷ ws) front (suc n) =
    let next : suc n + 1 ≡ suc (n + 1) = omega arith in
    rw (next, ← append_assoc front w (flatten ws), ← length-append front w) (after_front ws (front ++ w) n)

-- the pieces of a table of words are its words
pub word_piece : (ws : List Octets) (n : ℕ) → piece (flatten ws) (starts 0 ws) n ≡ get_or ws n []
word_piece ws n = after_front ws [] n

pub word_pieces : (ws : List Octets) (ns : List ℕ) → pieces (flatten ws) (starts 0 ws) ns ≡ flatten (map (λ n. get_or ws n []) ns)
unfolding pieces flatten
word_pieces ws [] = refl
word_pieces ws (n ∷ ns) = ap₂ ◌++◌ (word_piece ws n) (word_pieces ws ns)
