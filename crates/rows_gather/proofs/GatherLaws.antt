-- Laws of rows as octets.
--     puts-row         a row's parts, one after the other, are its octets
--     row_back         a row's octets are read as the row
--     adds             one row more is read behind those that were there
use mathlib.Core.Path.{◌≡◌, refl, sym, ◌∙◌, ap}
use mathlib.Core.Bool.{true}
use mathlib.Core.List.{List, [], ◌∷◌, ◌++◌, append_assoc}
use Prim.Native.Nat.{ℕ, zero, suc, ◌+◌, ◌*◌, ◌/◌, ◌-◌, ◌^◌, ◌<◌, ◌≤◌, min}
use native.Mathlib.Omega.{arith}
use lib.Dec.{leb}
use lib.ListN.{take, drop, get_or, length, length-append}
use lib.Seq.{take-take, take_at, drop_at, drop-drop, get_or-take, get_or-drop, length-take-le}
use borrow.Author.Tests.{le-leb, lt-leb}
use Rattle.std.specs.Int.{w32, to_le_bytes}
use Rattle.octets.specs.Octets.{Octets}
use Rattle.octets.specs.Lent.{over}
use Rattle.octets.proofs.ListLaws.{drop_take}
use Rattle.octets_append.specs.code.Appending.{fits_at, Appends}
use Rattle.octets_append.proofs.AppendLaws.{appends_both}
use Rattle.rows.specs.declared.Row.{Row}
use Rattle.rows_gather.specs.declared.Gathered.{Gathered}
use Rattle.rows_gather.specs.code.Gathered.{number_from, row_of, rows_of, rows_in, number_octets, row_octets, no_rows, with_row}

-- ------------------------------------------------------------------ a row

-- what the type of a row says of it
pub record Sized (r : Row) : Type 0 where
  pub source : length r.seen.source ≡ 16
  pub author : r.seen.author < 2 ^ 32
  pub set : r.seen.set < 2 ^ 32
  pub count : r.count < 2 ^ 32

pub row_size : (r : Row) → length r.seen.source ≡ 16 → length (row_octets r) ≡ 32
unfolding row_octets number_octets
row_size r e = rw (length-append, length-append, length-append, length-append, e) refl

-- written part by part
pub puts_row : (r : Row) (before : Octets) (at : ℕ) → length r.seen.source ≡ 16 → at + 32 ≤ length before → {a b c d e : ℕ} {o₁ o₂ o₃ o₄ o₅ : Octets}
    → Appends r.seen.source at before a o₁ → Appends (r.seen.disposition ∷ r.seen.dkim ∷ r.seen.spf ∷ r.seen.spare ∷ []) a o₁ b o₂
    → Appends (number_octets r.seen.author) b o₂ c o₃ → Appends (number_octets r.seen.set) c o₃ d o₄ → Appends (number_octets r.count) d o₄ e o₅
    → Appends (row_octets r) at before e o₅
unfolding row_octets number_octets
puts_row r before at z room p q s t u =
    let v : Octets = r.seen.source in
    let w : Octets = r.seen.disposition ∷ r.seen.dkim ∷ r.seen.spf ∷ r.seen.spare ∷ [] in
    let x : Octets = number_octets r.seen.author in
    let y : Octets = number_octets r.seen.set in
    let two : length (v ++ w) ≡ 20 = rw (length-append, z) refl in
    let three : length (v ++ w ++ x) ≡ 24 = rw (length-append (v ++ w) x, two) refl in
    let four : length (v ++ w ++ x ++ y) ≡ 28 = rw (length-append (v ++ w ++ x) y, three) refl in
    appends_both (v ++ w ++ x ++ y) (number_octets r.count) before at (omega (arith, row_size r z))
    (appends_both (v ++ w ++ x) y before at (omega (arith, four)) (appends_both (v ++ w) x before at (omega (arith, three)) (appends_both v w before at (omega (arith, two)) p q) s) t) u

-- a number is written as the library writes it
pub number_bytes : (n : ℕ) → to_le_bytes w32 n ≡ number_octets n
unfolding number_octets
number_bytes n =
    let third : n / 65536 ≡ n / 256 / 256 = omega arith in
    let fourth : n / 16777216 ≡ n / 256 / 256 / 256 = omega arith in
    rw (third, fourth)

number_back : (n : ℕ) (rest : Octets) → n < 2 ^ 32 → number_from (number_octets n ++ rest) ≡ n
unfolding number_from number_octets
number_back n rest h = omega arith

-- what stands behind a row's source
unfoldable behind : Row → Octets → Octets
behind r rest =
    r.seen.disposition ∷ r.seen.dkim ∷ r.seen.spf ∷ r.seen.spare ∷ (number_octets r.seen.author ++ (number_octets r.seen.set ++ (number_octets r.count ++ rest)))

row_parts : (r : Row) (rest : Octets) → row_octets r ++ rest ≡ r.seen.source ++ behind r rest
unfolding row_octets behind
row_parts r rest = rw (append_assoc, append_assoc, append_assoc, append_assoc) refl

module _ (s t : Octets) (e : length s ≡ 16) where
  octet_behind : (k : ℕ) → get_or (s ++ t) (16 + k) 0 ≡ get_or t k 0
  octet_behind k = sym (get_or-drop 16 (s ++ t) k 0) ∙ ap (λ (l : Octets). get_or l k 0) (drop_at s t 16 e)

  number_behind : (k : ℕ) → number_from (drop (16 + k) (s ++ t)) ≡ number_from (drop k t)
  number_behind k = ap number_from (sym (drop-drop k 16 (s ++ t)) ∙ ap (drop k) (drop_at s t 16 e))

pub row_back : (r : Row) (rest : Octets) → Sized r → row_of (row_octets r ++ rest) ≡ r
unfolding row_of behind number_octets
row_back r rest z =
    let s : Octets = r.seen.source in
    let t : Octets = behind r rest in
    rw (
      row_parts r rest,
      take_at s t 16 z.source,
      octet_behind s t z.source 0,
      octet_behind s t z.source 1,
      octet_behind s t z.source 2,
      octet_behind s t z.source 3,
      number_behind s t z.source 4,
      number_behind s t z.source 8,
      number_behind s t z.source 12,
      number_back r.seen.author (number_octets r.seen.set ++ (number_octets r.count ++ rest)) z.author,
      number_back r.seen.set (number_octets r.count ++ rest) z.set,
      number_back r.count rest z.count,
    ) refl

-- ------------------------------------------------------------------ rows

module _ (m : ℕ) (t : Octets) (h : 32 ≤ m) where
  octet_take : (k : ℕ) → k < 32 → get_or (take m t) k 0 ≡ get_or t k 0
  octet_take k l = get_or-take m t k 0 (omega arith)

  octet_in : (k i : ℕ) → k + i < 32 → get_or (drop k (take m t)) i 0 ≡ get_or (drop k t) i 0
  octet_in k i l = get_or-drop k (take m t) i 0 ∙ octet_take (k + i) l ∙ sym (get_or-drop k t i 0)

  number_take : (k : ℕ) → k < 29 → number_from (drop k (take m t)) ≡ number_from (drop k t)
  unfolding number_from
  number_take k l = rw (octet_in k 0 (omega arith), octet_in k 1 (omega arith), octet_in k 2 (omega arith), octet_in k 3 (omega arith)) refl

  row_take : row_of (take m t) ≡ row_of t
  unfolding row_of
  row_take =
      rw (
        take-take 16 m t (omega arith),
        octet_take 16 (omega arith),
        octet_take 17 (omega arith),
        octet_take 18 (omega arith),
        octet_take 19 (omega arith),
        number_take 20 (omega arith),
        number_take 24 (omega arith),
        number_take 28 (omega arith),
      ) refl

-- only so many octets are read
rows_take : (n m : ℕ) (t : Octets) → 32 * n ≤ m → rows_of n (take m t) ≡ rows_of n t
unfolding rows_of
rows_take zero m t h = refl
rows_take (suc n) m t h =
    rw (row_take m t (omega arith), drop_take 32 m t, rows_take n (m - 32) (drop 32 t) (omega arith)) refl

rows_snoc : (n : ℕ) (t : Octets) → rows_of (suc n) t ≡ rows_of n t ++ (row_of (drop (32 * n) t) ∷ [])
unfolding rows_of
rows_snoc zero t = refl
rows_snoc (suc n) t = ap (λ (l : List Row). row_of t ∷ l) (rows_snoc n (drop 32 t) ∙ rw (drop-drop (32 * n) 32 t, next))
  where
    next : 32 + 32 * n ≡ 32 * suc n
    next = omega arith

module _ (r : Row) (g : Gathered) (z : Sized r) (full : length g.octets ≡ 8192) (l : g.count < 256) where
  front : Octets
  front = take (32 * g.count) g.octets

  front_size : length front ≡ 32 * g.count
  unfolding front
  front_size = length-take-le (32 * g.count) g.octets (omega (arith, full))

  pub adds : rows_in (with_row r g) ≡ rows_in g ++ (r ∷ [])
  unfolding rows_in with_row over front
  adds =
      let c : ℕ = g.count in
      let rest : Octets = drop (length (row_octets r)) (drop (32 * c) g.octets) in
      let now : Octets = front ++ (row_octets r ++ rest) in
      let raised : min (c + 1) 256 ≡ suc c = omega arith in
      let held : min c 256 ≡ c = omega arith in
      let kept : rows_of c now ≡ rows_of c g.octets =
      sym (rows_take c (32 * c) now (omega arith)) ∙ ap (rows_of c) (take_at front (row_octets r ++ rest) (32 * c) front_size) ∙ rows_take c (32 * c) g.octets (omega arith) in
      rw (lt-leb 256 c l, raised, held, rows_snoc c now, kept, drop_at front (row_octets r ++ rest) (32 * c) front_size, row_back r rest z) refl

-- ------------------------------------------------------------------ what `add` does

module _ (r : Row) (g : Gathered) where
  pub is_full : 256 ≤ g.count → g ≡ with_row r g
  unfolding with_row
  is_full h = rw (le-leb 256 g.count h)

  pub has_room : length r.seen.source ≡ 16 → length g.octets ≡ 8192 → g.count < 256 → {next : ℕ} {after : Octets} → Appends (row_octets r) (32 * g.count) g.octets next after
      → record { count = g.count + 1; octets = after } ≡ with_row r g
  unfolding with_row fits_at
  has_room e full l p =
      let fits : leb (32 * g.count + length (row_octets r)) (length g.octets) ≡ true = le-leb (32 * g.count + length (row_octets r)) (length g.octets) (omega (arith, row_size r e)) in
      rw (lt-leb 256 g.count l, p.leaves, fits) refl

pub none_yet : rows_in no_rows ≡ []
unfolding rows_in rows_of no_rows
none_yet = refl

pub none_counted : no_rows.count ≡ 0
unfolding no_rows
none_counted = refl
