-- Laws of the record at the front of a text, as code takes it.
use mathlib.Core.Path.{◌≡◌, sym, ◌∙◌}
use mathlib.Core.List.{[], ◌∷◌}
use mathlib.Core.Bool.{Bool, true, false, ◌&&◌, and-true}
use Prim.Native.Nat.{ℕ, ◌+◌, ◌-◌, ◌≤◌, ◌<◌}
use native.Mathlib.Omega.{arith}
use lib.Dec.{eqb}
use lib.ListN.{length, drop, get_or, length-drop}
use lib.Seq.{length-take-le, get_or-take, get_or-drop}
use borrow.Author.Tests.{le-leb, lt-leb, leb-true}
use Rattle.octets.specs.Octets.{Octets, same, part_of}
use Rattle.octets.specs.Framing.{mark_of, size_of, body_of, after_record, is_whole}

-- ------------------------------------------------------------------ its parts

-- a mark, as code compares it
pub mark_is : (t w : Octets) {m : Octets} {r : Bool} → m ≡ part_of t 0 2 → r ≡ same m w → same (mark_of t) w ≡ r
unfolding part_of mark_of
mark_is t w e f = rw e at (sym f)

-- and octet by octet
pub mark_octets : (t : Octets) (a b : ℕ) → 2 ≤ length t → same (mark_of t) (a ∷ b ∷ []) ≡ (eqb (get_or t 0 0) a && eqb (get_or t 1 0) b)
unfolding mark_of same
mark_octets [] a b h = absurd (omega arith)
mark_octets (x ∷ []) a b h = absurd (omega arith)
mark_octets (x ∷ y ∷ t) a b h = rw and-true

module _ (t : Octets) where
  pub body_part : (size : ℕ) → size ≡ size_of t → part_of t 4 (4 + size) ≡ body_of t
  unfolding part_of body_of
  body_part size e = let f : 4 + size - 4 ≡ size = omega arith in rw (f, e)

  pub rest_part : (size : ℕ) → size ≡ size_of t → drop (4 + size) t ≡ after_record t
  unfolding after_record
  rest_part size e = rw e

  -- whether it is whole, and how long its body is then
  pub whole : 4 + size_of t ≤ length t → is_whole t ≡ true
  unfolding is_whole
  whole h = le-leb (4 + size_of t) (length t) h

  pub not_whole : length t < 4 + size_of t → is_whole t ≡ false
  unfolding is_whole
  not_whole h = lt-leb (4 + size_of t) (length t) h

  pub whole_fits : is_whole t ≡ true → 4 + size_of t ≤ length t
  unfolding is_whole
  whole_fits e = leb-true (4 + size_of t) (length t) e

  pub body_size : 4 + size_of t ≤ length t → length (body_of t) ≡ size_of t
  unfolding body_of
  body_size h = length-take-le (size_of t) (drop 4 t) (rw length-drop (omega arith))

  -- how much follows
  pub after_length : length (after_record t) ≡ length t - (4 + size_of t)
  unfolding after_record
  after_length = length-drop (4 + size_of t) t

  -- an octet of a body
  pub body_octet : (i : ℕ) → i < size_of t → get_or (body_of t) i 0 ≡ get_or t (4 + i) 0
  unfolding body_of
  body_octet i h = get_or-take (size_of t) (drop 4 t) i 0 h ∙ get_or-drop 4 t i 0

pub after_shorter : (x : ℕ) (xs : Octets) → length (after_record (x ∷ xs)) ≤ length xs
after_shorter x xs = omega (arith, after_length (x ∷ xs))
