-- Rows as octets: 32 a row. Every text is read.
use Rattle.std.specs.Prelude.{List, [], ◌∷◌, ◌++◌, ℕ, zero, suc, ◌+◌, ◌*◌, ◌/◌, ◌%◌, min, leb, take, drop, get_or, replicate, if◌then◌else◌}
use Rattle.octets.specs.Octets.{Octets}
use Rattle.octets.specs.Lent.{over}
use Rattle.rows.specs.declared.Row.{Row}
use Rattle.rows_gather.specs.declared.Gathered.{Gathered}

-- a number of four octets, the low one first
unfoldable pub number_from : Octets → ℕ
number_from t = get_or t 0 0 + get_or t 1 0 * 256 + get_or t 2 0 * 65536 + get_or t 3 0 * 16777216

-- a row: source, disposition, DKIM, SPF, what is spare, author, set and count
unfoldable pub row_of : Octets → Row
row_of t = record {
  seen = record {
    source = take 16 t;
    disposition = get_or t 16 0;
    dkim = get_or t 17 0;
    spf = get_or t 18 0;
    spare = get_or t 19 0;
    author = number_from (drop 20 t);
    set = number_from (drop 24 t);
  };
  count = number_from (drop 28 t);
}

-- so many rows
unfoldable pub rows_of : ℕ → Octets → List Row
rows_of zero t = []
rows_of (suc n) t = row_of t ∷ rows_of n (drop 32 t)

-- 256 at most
unfoldable pub rows_in : Gathered → List Row
rows_in g = rows_of (min g.count 256) g.octets

-- ------------------------------------------------------------------ one row more

-- a number as `number_of_lem` reads it
unfoldable pub number_octets : ℕ → Octets
number_octets n = n % 256 ∷ n / 256 % 256 ∷ n / 256 / 256 % 256 ∷ n / 256 / 256 / 256 % 256 ∷ []

-- a row as `row_of` reads it
unfoldable pub row_octets : Row → Octets
row_octets r =
    r.seen.source
    ++ (r.seen.disposition ∷ r.seen.dkim ∷ r.seen.spf ∷ r.seen.spare ∷ [])
    ++ number_octets r.seen.author
    ++ number_octets r.seen.set
    ++ number_octets r.count

unfoldable pub no_rows : Gathered
no_rows = record { count = 0; octets = replicate 8192 0 }

-- 256 are full
unfoldable pub with_row : Row → Gathered → Gathered
with_row r g =
    if leb 256 g.count
    then g
    else record { count = g.count + 1; octets = take (32 * g.count) g.octets ++ over (row_octets r) (drop (32 * g.count) g.octets) }
