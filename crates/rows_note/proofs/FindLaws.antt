-- Rows by their places, on the list and among those lent; and the search for one, row by row.
use Prim.Native.Nat.{ℕ, zero, suc, ◌≤◌, ◌<◌}
use mathlib.Core.Bool.{Bool, true}
use Rattle.std.specs.Prelude.{Option, None, Some, drop, length}
use Rattle.std.specs.Option.{option_or}
use Rattle.std.specs.List.{position, position_from}
use Rattle.std.proofs.lemmas.List.{drop_more, drop_all}
use Rattle.std.proofs.lemmas.Iterator.Adapters.{position_from-zero}
use native.Mathlib.Nat.{not-suc-le-zero, le_of_suc-le-suc}
use mathlib.Core.Path.{◌≡◌, refl, sym}
use mathlib.Core.List.{List, [], ◌∷◌}
use lib.ListN.{get_or, take}
use Rattle.rows.specs.declared.Row.{Row}

-- what stands where there is no row, as the goals of the functions have it
abbrev pub no_row : Row
no_row = record { seen = record { source = []; disposition = 0; dkim = 0; spf = 0; spare = 0; author = 0; set = 0 }; count = 0 }

pub get_d_take : (n : ℕ) (rs : List Row) (i : ℕ) (d : Row) → i < n → get_or (take n rs) i d ≡ get_or rs i d
get_d_take zero rs i d l = absurd (not-suc-le-zero l)
get_d_take (suc n) [] i d l = refl
get_d_take (suc n) (r ∷ rs) zero d l = refl
get_d_take (suc n) (r ∷ rs) (suc i) d l = get_d_take n rs i d (le_of_suc-le-suc l)

-- ------------------------------------------------------------------ a search, row by row

module _ (p : Row → Bool) (rs : List Row) where
  pub begun : position_from p 0 rs ≡ position p rs
  begun = sym (position_from-zero p rs)

  pub here : (i : ℕ) → i < length rs → p (get_or rs i no_row) ≡ true → position_from p i (drop i rs) ≡ Some i
  here i h e = rw (drop_more rs i no_row h, e) refl

  pub past : (i : ℕ) → length rs ≤ i → position_from p i (drop i rs) ≡ None
  past i h = rw (drop_all i rs h) refl

pub or_none : (free : Option ℕ) → free ≡ option_or free None
or_none None = refl
or_none (Some at) = refl
