-- The octets of the row that is read: its source address in 16, its author domain in 253, and from 272 on 510 for each of 16 identifiers: its domain in
-- 253, its selector in 253, how long each is, its outcome and its kind.
use Rattle.std.specs.Prelude.{List, [], ◌∷◌, ◌++◌, ℕ, zero, suc, ◌+◌, ◌*◌, eqb, take, drop, get_or, if◌then◌else◌}
use Rattle.octets.specs.Octets.{Octets}
use Rattle.domain.specs.Domain.{Domain}
use Rattle.rows.specs.Lists.{Reported}
use Rattle.report_form.specs.ReportForm.{mapped, group_octets}

-- so many of the 253 octets of a name
unfoldable pub name_in : (at length : ℕ) → Octets → Domain
name_in at length row = take length (take 253 (drop at row))

unfoldable pub base : ℕ → ℕ
base n = 272 + 510 * n

-- SPF has no selector
unfoldable pub identifier_at : (at : ℕ) → Octets → Reported
identifier_at at row = record {
  kind = get_or row (at + 509) 0;
  outcome = get_or row (at + 508) 0;
  selector = if eqb (get_or row (at + 509) 0) 1 then name_in (at + 253) (get_or row (at + 507) 0) row else [];
  domain = name_in at (get_or row (at + 506) 0) row;
}

-- the first n
unfoldable pub listed : ℕ → Octets → List Reported
listed zero row = []
listed (suc n) row = listed n row ++ (identifier_at (base n) row ∷ [])

-- the first n octets of a dotted address, and the first n groups
unfoldable pub singles : ℕ → Octets → List ℕ
singles zero row = []
singles (suc n) row = singles n row ++ (get_or row (12 + n) 0 ∷ [])

unfoldable pub pairs : ℕ → Octets → List ℕ
pairs zero row = []
pairs (suc n) row = pairs n row ++ ((get_or row (2 * n) 0 * 256 + get_or row (2 * n + 1) 0) ∷ [])

-- dotted, or of groups
unfoldable pub source_in : (kind : ℕ) → Octets → Octets
source_in kind row = if eqb kind 1 then mapped ++ singles 4 row else group_octets (pairs 8 row)
