-- Laws of alignments by what is stored, and of tallies.
use Rattle.std.specs.Prelude.{None, Some}
use mathlib.Core.Path.{◌≡◌, refl}
use mathlib.Core.List.{List, map}
use Prim.Native.Nat.{ℕ, zero, suc, ◌+◌, ◌*◌, ◌-◌, ◌≤◌, ◌<◌, min}
use native.Mathlib.Decide.{dec_le}
use native.Mathlib.Omega.{arith}
use lib.ListN.{drop}
use borrow.Author.Tests.{ne_eqb}
use Rattle.octets.specs.Octets.{Octets}
use Rattle.domain.specs.Domain.{Domain}
use Rattle.policy.specs.declared.Settings.{Settings}
use Rattle.walk_progress.specs.code.Stored.{stored_domain}
use Rattle.walk_progress.specs.code.Stops.{stored_of}
use Rattle.alignment.specs.declared.Alignment.{Alignment}
use Rattle.alignment_settle.specs.declared.Tally.{Tally}
use Rattle.alignment.specs.Alignments.{compared}
use Rattle.alignment_stored.specs.code.Stored.{slot, outcome_at, identifier_at}
use Rattle.alignment_settle.specs.code.Tallies.{alignment_code, no_tally, tally_with, tally_of}
use Rattle.verdict_cursor.specs.code.Cursor.{read_by, read_alignment}
use Rattle.verdict_cursor.specs.code.Standing.{stored_at, passed_from}

-- ------------------------------------------------------------------ the number stored of a walk

-- of a walk that is open or had an error
domain_unknown : (d : Domain) (n : ℕ) → n < 2 → stored_domain d (stored_of n) ≡ None
unfolding stored_domain stored_of
domain_unknown d zero h = refl
domain_unknown d (suc zero) h = refl
domain_unknown d (suc (suc n)) h = absurd (omega arith)

-- of one that ended
domain_known : (d : Domain) (n : ℕ) → 2 ≤ n → stored_domain d (stored_of n) ≡ Some (drop (n - 2) d)
unfolding stored_domain stored_of
domain_known d n h = rw (ne_eqb n 0 (λ e. omega arith), ne_eqb n 1 (λ e. omega arith))

-- the author's, and an identifier's own
module _ (author d : Domain) (first own : ℕ) where
  pub read_unknown : min first own < 2 → read_by None (stored_domain author (stored_of first)) (stored_domain d (stored_of own)) ≡ Alignment.Unknown
  unfolding read_by compared
  read_unknown h = go (dec_le 2 first)
    where
      go : Dec (2 ≤ first) → read_by None (stored_domain author (stored_of first)) (stored_domain d (stored_of own)) ≡ Alignment.Unknown
      go (yes k) = rw (domain_known author first k, domain_unknown d own (omega arith))
      go (no k) = rw (domain_unknown author first (omega arith))

  pub read_known : 2 ≤ min first own → read_by None (stored_domain author (stored_of first)) (stored_domain d (stored_of own)) ≡ compared (drop (first - 2) author) (Some (drop (own - 2) d))
  unfolding read_by
  read_known h = rw (domain_known author first (omega arith), domain_known d own (omega arith))

-- ------------------------------------------------------------------ digits

code_small : (a : Alignment) → alignment_code a < 4
unfolding alignment_code
code_small Alignment.NotJudged = omega arith
code_small Alignment.Aligned = omega arith
code_small Alignment.NotAligned = omega arith
code_small Alignment.Unknown = omega arith

unfoldable fourfold : ℕ → ℕ
fourfold zero = 1
fourfold (suc n) = 4 * fourfold n

fourfold_below : (k n : ℕ) → n + k ≡ 16 → fourfold n ≤ 4294967296
unfolding fourfold
fourfold_below zero n e =
    let f : n ≡ 16 = omega arith in
    let g : fourfold 16 ≡ 4294967296 = refl in
    rw (f, g) (omega arith)
fourfold_below (suc k) n e = omega (arith, fourfold_below k (suc n) (omega arith))

fourfold_small : (n : ℕ) → n ≤ 16 → fourfold n ≤ 4294967296
fourfold_small n h = fourfold_below (16 - n) n (omega arith)

-- ------------------------------------------------------------------ one identifier after another

module _ (s : Settings) (domains : Octets) (numbers stored : List ℕ) where
  -- of so many identifiers, from a walk's on
  abbrev pub tally_from : (walk count : ℕ) → Tally
  tally_from walk count = tally_of (map (λ w. (w.0, read_alignment s (slot domains numbers 0) (stored_at stored 0) w)) (passed_from domains numbers stored walk count))

  -- n identifiers make n digits
  tally_digits : (walk count : ℕ) → (tally_from walk count).digits < fourfold count
  unfolding fourfold tally_of no_tally tally_with passed_from
  tally_digits walk zero = omega arith
  tally_digits walk (suc n) = omega (arith, code_small (read_alignment s (slot domains numbers 0) (stored_at stored 0) (identifier_at domains numbers walk, stored_at stored walk)), tally_digits (walk + 1) n)

  module _ (count walk : ℕ) where
    -- one more in front
    pub tally_step : 0 < walk → walk ≤ count
        → tally_with (outcome_at numbers walk) (read_alignment s (slot domains numbers 0) (stored_at stored 0) (identifier_at domains numbers walk, stored_at stored walk)) (tally_from (walk + 1) (count - walk)) ≡ tally_from (walk - 1 + 1) (count - (walk - 1))
    unfolding tally_of passed_from identifier_at
    tally_step h k =
        let here : walk - 1 + 1 ≡ walk = omega arith in
        let more : count - (walk - 1) ≡ suc (count - walk) = omega arith in
        rw (here, more)

    -- room for one digit more
    pub tally_room : count ≤ 16 → (tally_from (walk + 1) (count - walk)).digits < 4294967296
    tally_room h = omega (arith, tally_digits (walk + 1) (count - walk), fourfold_small (count - walk) (omega arith))
