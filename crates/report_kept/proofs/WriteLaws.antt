-- Laws of what is written into a row.
use mathlib.Core.Path.{◌≡◌, refl, sym, ap, ◌∙◌}
use mathlib.Core.List.{[], ◌∷◌, ◌++◌}
use Prim.Native.Nat.{ℕ, zero, suc, ◌+◌, ◌*◌, ◌≤◌, ◌<◌}
use native.Mathlib.Omega.{arith}
use lib.Dec.{eqb}
use lib.ListN.{length, take, drop, get_or}
use Rattle.std.specs.Prelude.{if◌then◌else◌}
use Rattle.octets.specs.Octets.{Octets}
use Rattle.report_kept.specs.Layout.{name_in, base, identifier_at, listed, singles, pairs, source_in}
use Rattle.report_kept.specs.code.View.{laid, laid_at}
use Rattle.report_form.specs.ReportForm.{mapped, group_octets}

-- ------------------------------------------------------------------ before and behind what is written

take_laid : (n at : ℕ) (ws row : Octets) → n ≤ at → take n (laid_at at ws row) ≡ take n row
unfolding laid_at
take_laid zero at ws row h = refl
take_laid (suc n) zero ws row h = absurd (omega (arith, h))
take_laid (suc n) (suc at) ws [] h = refl
take_laid (suc n) (suc at) ws (x ∷ row) h = ap (λ l. x ∷ l) (take_laid n at ws row (omega (arith, h)))

drop_over : (n : ℕ) (ws row : Octets) → length ws ≤ n → drop n (laid ws row) ≡ drop n row
unfolding laid
drop_over n [] row h = refl
drop_over zero (w ∷ ws) row h = absurd (omega (arith, h))
drop_over (suc n) (w ∷ ws) [] h = refl
drop_over (suc n) (w ∷ ws) (x ∷ row) h = drop_over n ws row (omega (arith, h))

drop_laid : (n at : ℕ) (ws row : Octets) → at + length ws ≤ n → drop n (laid_at at ws row) ≡ drop n row
unfolding laid_at
drop_laid n zero ws row h = drop_over n ws row (omega (arith, h))
drop_laid zero (suc at) ws row h = absurd (omega (arith, h))
drop_laid (suc n) (suc at) ws [] h = refl
drop_laid (suc n) (suc at) ws (x ∷ row) h = drop_laid n at ws row (omega (arith, h))

-- a part in front
front_laid : (m n at : ℕ) (ws row : Octets) → n + m ≤ at → take m (drop n (laid_at at ws row)) ≡ take m (drop n row)
unfolding laid_at
front_laid m zero at ws row h = take_laid m at ws row (omega (arith, h))
front_laid m (suc n) zero ws row h = absurd (omega (arith, h))
front_laid m (suc n) (suc at) ws [] h = refl
front_laid m (suc n) (suc at) ws (x ∷ row) h = front_laid m n at ws row (omega (arith, h))

get_d_front : (i at : ℕ) (ws row : Octets) → i < at → get_or (laid_at at ws row) i 0 ≡ get_or row i 0
unfolding laid_at
get_d_front i zero ws row h = absurd (omega (arith, h))
get_d_front i (suc at) ws [] h = refl
get_d_front zero (suc at) ws (x ∷ row) h = refl
get_d_front (suc i) (suc at) ws (x ∷ row) h = get_d_front i at ws row (omega (arith, h))

getD_back_over : (i : ℕ) (ws row : Octets) → length ws ≤ i → get_or (laid ws row) i 0 ≡ get_or row i 0
unfolding laid
getD_back_over i [] row h = refl
getD_back_over zero (w ∷ ws) row h = absurd (omega (arith, h))
getD_back_over (suc i) (w ∷ ws) [] h = refl
getD_back_over (suc i) (w ∷ ws) (x ∷ row) h = getD_back_over i ws row (omega (arith, h))

getD_back : (i at : ℕ) (ws row : Octets) → at + length ws ≤ i → get_or (laid_at at ws row) i 0 ≡ get_or row i 0
unfolding laid_at
getD_back i zero ws row h = getD_back_over i ws row (omega (arith, h))
getD_back zero (suc at) ws row h = absurd (omega (arith, h))
getD_back (suc i) (suc at) ws [] h = refl
getD_back (suc i) (suc at) ws (x ∷ row) h = getD_back i at ws row (omega (arith, h))

-- what is written
get_d_over : (i : ℕ) (ws row : Octets) → i < length ws → length ws ≤ length row → get_or (laid ws row) i 0 ≡ get_or ws i 0
unfolding laid
get_d_over i [] row h l = absurd (omega (arith, h))
get_d_over i (w ∷ ws) [] h l = absurd (omega (arith, l))
get_d_over zero (w ∷ ws) (x ∷ row) h l = refl
get_d_over (suc i) (w ∷ ws) (x ∷ row) h l = get_d_over i ws row (omega (arith, h)) (omega (arith, l))

pub getD_there : (i at to : ℕ) (ws row : Octets) → to ≡ at + i → i < length ws → at + length ws ≤ length row → get_or (laid_at at ws row) to 0 ≡ get_or ws i 0
unfolding laid_at
getD_there i zero to ws row e h l = let same : to ≡ i = omega (arith, e) in ap (λ k. get_or (laid ws row) k 0) same ∙ get_d_over i ws row h (omega (arith, l))
getD_there i (suc at) to ws [] e h l = absurd (omega (arith, l))
getD_there i (suc at) zero ws (x ∷ row) e h l = absurd (omega (arith, e))
getD_there i (suc at) (suc to) ws (x ∷ row) e h l = getD_there i at to ws row (omega (arith, e)) h (omega (arith, l))

length_over : (ws row : Octets) → length (laid ws row) ≡ length row
unfolding laid
length_over [] row = refl
length_over (w ∷ ws) [] = refl
length_over (w ∷ ws) (x ∷ row) = ap suc (length_over ws row)

pub length_laid : (at : ℕ) (ws row : Octets) → length (laid_at at ws row) ≡ length row
unfolding laid_at
length_laid zero ws row = length_over ws row
length_laid (suc at) ws [] = refl
length_laid (suc at) ws (x ∷ row) = ap suc (length_laid at ws row)

-- ------------------------------------------------------------------ the parts of a row

-- a name in front of what is written, or behind it
pub name_front : (at n to : ℕ) (ws row : Octets) → at + 253 ≤ to → name_in at n (laid_at to ws row) ≡ name_in at n row
unfolding name_in
name_front at n to ws row h = ap (take n) (front_laid 253 at to ws row h)

pub name_back : (at n to : ℕ) (ws row : Octets) → to + length ws ≤ at → name_in at n (laid_at to ws row) ≡ name_in at n row
unfolding name_in
name_back at n to ws row h = ap (λ l. take n (take 253 l)) (drop_laid at to ws row h)

-- an octet more of a name
more_taken : (n m : ℕ) (x : ℕ) (row : Octets) → n < m → n < length row → take (suc n) (take m (laid_at n (x ∷ []) row)) ≡ take n (take m row) ++ (x ∷ [])
unfolding laid_at laid
more_taken zero zero x row h l = absurd (omega (arith, h))
more_taken zero (suc m) x [] h l = absurd (omega (arith, l))
more_taken zero (suc m) x (y ∷ row) h l = refl
more_taken (suc n) zero x row h l = absurd (omega (arith, h))
more_taken (suc n) (suc m) x [] h l = absurd (omega (arith, l))
more_taken (suc n) (suc m) x (y ∷ row) h l = ap (λ k. y ∷ k) (more_taken n m x row (omega (arith, h)) (omega (arith, l)))

laid_none : (n : ℕ) (ws : Octets) → laid_at n ws [] ≡ []
unfolding laid_at laid
laid_none zero [] = refl
laid_none zero (w ∷ ws) = refl
laid_none (suc n) ws = refl

drop_into : (at n to : ℕ) (ws row : Octets) → to ≡ at + n → drop at (laid_at to ws row) ≡ laid_at n ws (drop at row)
unfolding laid_at
drop_into zero n to ws row e = let same : to ≡ n = omega (arith, e) in ap (λ k. laid_at k ws row) same
drop_into (suc at) n zero ws row e = absurd (omega (arith, e))
drop_into (suc at) n (suc to) ws [] e = sym (laid_none n ws)
drop_into (suc at) n (suc to) ws (x ∷ row) e = drop_into at n to ws row (omega (arith, e))

length_drop : (at : ℕ) (row : Octets) → at + 253 ≤ length row → 253 ≤ length (drop at row)
length_drop zero row h = omega (arith, h)
length_drop (suc at) [] h = absurd (omega (arith, h))
length_drop (suc at) (x ∷ row) h = length_drop at row (omega (arith, h))

pub name_more : (at n x : ℕ) (row : Octets) → n < 253 → at + 253 ≤ length row → name_in at (n + 1) (laid_at (at + n) (x ∷ []) row) ≡ name_in at n row ++ (x ∷ [])
unfolding name_in
name_more at n x row h l =
    let long = length_drop at row l in
    let one : n + 1 ≡ suc n = omega arith in
    (λ j. take (one j) (take 253 (drop_into at n (at + n) (x ∷ []) row refl j))) ∙ more_taken n 253 x (drop at row) h (omega (arith, h, long))

identifier_front : (at to : ℕ) (ws row : Octets) → at + 510 ≤ to → identifier_at at (laid_at to ws row) ≡ identifier_at at row
unfolding identifier_at
identifier_front at to ws row h =
    let kind = get_d_front (at + 509) to ws row (omega (arith, h)) in
    let outcome = get_d_front (at + 508) to ws row (omega (arith, h)) in
    let slong = get_d_front (at + 507) to ws row (omega (arith, h)) in
    let dlong = get_d_front (at + 506) to ws row (omega (arith, h)) in
    λ j. record {
      kind = kind j;
      outcome = outcome j;
      selector = if eqb (kind j) 1 then (name_front (at + 253) (slong j) to ws row (omega (arith, h))) j else [];
      domain = (name_front at (dlong j) to ws row (omega (arith, h))) j;
    }

identifier_back : (at to : ℕ) (ws row : Octets) → to + length ws ≤ at → identifier_at at (laid_at to ws row) ≡ identifier_at at row
unfolding identifier_at
identifier_back at to ws row h =
    let kind = getD_back (at + 509) to ws row (omega (arith, h)) in
    let outcome = getD_back (at + 508) to ws row (omega (arith, h)) in
    let slong = getD_back (at + 507) to ws row (omega (arith, h)) in
    let dlong = getD_back (at + 506) to ws row (omega (arith, h)) in
    λ j. record {
      kind = kind j;
      outcome = outcome j;
      selector = if eqb (kind j) 1 then (name_back (at + 253) (slong j) to ws row (omega (arith, h))) j else [];
      domain = (name_back at (dlong j) to ws row (omega (arith, h))) j;
    }

-- identifiers in front of what is written, or all behind it
pub listed_front : (n to : ℕ) (ws row : Octets) → base n ≤ to → listed n (laid_at to ws row) ≡ listed n row
unfolding listed base
listed_front zero to ws row h = refl
listed_front (suc n) to ws row h = λ j. listed_front n to ws row (omega (arith, h)) j ++ (identifier_front (base n) to ws row (omega (arith, h)) j ∷ [])

pub listed_back : (n to : ℕ) (ws row : Octets) → to + length ws ≤ 272 → listed n (laid_at to ws row) ≡ listed n row
unfolding listed base
listed_back zero to ws row h = refl
listed_back (suc n) to ws row h = λ j. listed_back n to ws row h j ++ (identifier_back (base n) to ws row (omega (arith, h)) j ∷ [])

-- an address in front of what is written
singles_front : (n to : ℕ) (ws row : Octets) → 12 + n ≤ to → singles n (laid_at to ws row) ≡ singles n row
unfolding singles
singles_front zero to ws row h = refl
singles_front (suc n) to ws row h = λ j. singles_front n to ws row (omega (arith, h)) j ++ (get_d_front (12 + n) to ws row (omega (arith, h)) j ∷ [])

pairs_front : (n to : ℕ) (ws row : Octets) → 2 * n ≤ to → pairs n (laid_at to ws row) ≡ pairs n row
unfolding pairs
pairs_front zero to ws row h = refl
pairs_front (suc n) to ws row h =
    λ j. pairs_front n to ws row (omega (arith, h)) j ++ ((get_d_front (2 * n) to ws row (omega (arith, h)) j * 256 + get_d_front (2 * n + 1) to ws row (omega (arith, h)) j) ∷ [])

pub source_front : (kind to : ℕ) (ws row : Octets) → 16 ≤ to → source_in kind (laid_at to ws row) ≡ source_in kind row
unfolding source_in
source_front kind to ws row h = λ j. if eqb kind 1 then mapped ++ singles_front 4 to ws row h j else group_octets (pairs_front 8 to ws row h j)

-- a number more
pub single_more : (n v : ℕ) (row : Octets) → 12 + n < length row → singles (suc n) (laid_at (12 + n) (v ∷ []) row) ≡ singles n row ++ (v ∷ [])
unfolding singles
single_more n v row h =
    let there = getD_there 0 (12 + n) (12 + n) (v ∷ []) row (omega arith) (omega arith) (omega (arith, h)) in
    λ j. singles_front n (12 + n) (v ∷ []) row (omega arith) j ++ (there j ∷ [])

pub pair_more : (n a b : ℕ) (row : Octets) → 2 * n + 1 < length row → pairs (suc n) (laid_at (2 * n) (a ∷ b ∷ []) row) ≡ pairs n row ++ ((a * 256 + b) ∷ [])
unfolding pairs
pair_more n a b row h =
    let first = getD_there 0 (2 * n) (2 * n) (a ∷ b ∷ []) row (omega arith) (omega arith) (omega (arith, h)) in
    let second = getD_there 1 (2 * n) (2 * n + 1) (a ∷ b ∷ []) row (omega arith) (omega arith) (omega (arith, h)) in
    λ j. pairs_front n (2 * n) (a ∷ b ∷ []) row (omega arith) j ++ ((first j * 256 + second j) ∷ [])

-- ------------------------------------------------------------------ an identifier more

module _ (n domain selector outcome kind : ℕ) (row : Octets) (h : base n + 510 ≤ length row) where
  abbrev ends : Octets
  ends = domain ∷ selector ∷ outcome ∷ kind ∷ []

  abbrev after : Octets
  after = laid_at (base n + 506) ends row

  there : (i to : ℕ) → to ≡ base n + 506 + i → i < 4 → get_or after to 0 ≡ get_or ends i 0
  there i to e l = getD_there i (base n + 506) to ends row e l (omega (arith, h))

  pub identifier_more : identifier_at (base n) after
      ≡ record { kind = kind; outcome = outcome; selector = if eqb kind 1 then name_in (base n + 253) selector row else []; domain = name_in (base n) domain row }
  unfolding identifier_at
  identifier_more =
      let k = there 3 (base n + 509) (omega arith) (omega arith) in
      let o = there 2 (base n + 508) (omega arith) (omega arith) in
      let s = there 1 (base n + 507) (omega arith) (omega arith) in
      let d = there 0 (base n + 506) (omega arith) (omega arith) in
      λ j. record {
        kind = k j;
        outcome = o j;
        selector = if eqb (k j) 1 then (ap (λ m. name_in (base n + 253) m after) s ∙ name_front (base n + 253) selector (base n + 506) ends row (omega arith)) j else [];
        domain = (ap (λ m. name_in (base n) m after) d ∙ name_front (base n) domain (base n + 506) ends row (omega arith)) j;
      }

  pub listed_more : listed (n + 1) after
      ≡ listed n row ++ (record { kind = kind; outcome = outcome; selector = if eqb kind 1 then name_in (base n + 253) selector row else []; domain = name_in (base n) domain row } ∷ [])
  unfolding listed
  listed_more =
      let one : n + 1 ≡ suc n = omega arith in
      ap (λ m. listed m after) one ∙ (λ j. listed_front n (base n + 506) ends row (omega arith) j ++ (identifier_more j ∷ []))
