-- Where a literal leads, by its number and what is known.
use Rattle.std.specs.Prelude.{◌≡◌, List, [], ◌∷◌, false, ◌||◌, ℕ, ◌+◌, ◌<◌, eqb, leb, ltb, get_or, if◌then◌else◌, Result, Ok, Err}
use Rattle.octets.specs.Octets.{is_set}
use Rattle.report_states.specs.Standing.{Literal, l_feedback, literal_goes}
use Rattle.report_words.specs.code.Table.{literals}
use Rattle.report_steps.specs.declared.Refusal.{Refusal}
use Rattle.report_kept.specs.declared.ReaderState.{ReaderState}
use Rattle.report_kept.specs.declared.Turn.{Turn}
use Rattle.report_kept.specs.code.View.{is_broken, Turned, Leaves, arrived, one_more, flagged, closing}

unfoldable pub literal_of : ℕ → Literal
literal_of n = get_or literals n l_feedback

-- where most literals lead
unfoldable pub nexts : List ℕ
nexts =
    52 ∷ 53 ∷ 36 ∷ 55 ∷ 56 ∷ 57 ∷ 59 ∷ 37 ∷ 38 ∷ 40 ∷ 42 ∷ 43 ∷ 44 ∷ 14 ∷ 64 ∷ 58 ∷ 45 ∷ 46 ∷ 19 ∷ 47 ∷ 22 ∷ 22 ∷ 60 ∷ 24 ∷ 48 ∷ 61 ∷ 62 ∷ 49 ∷
    24 ∷ 63 ∷ 50 ∷ 33 ∷ 33 ∷ 34 ∷ 51 ∷ 65 ∷ []

-- dispositions: 0 pass, 1 none, 2 quarantine, 3 reject
unfoldable pub dkim_number : (disposition : ℕ) → ℕ
dkim_number d = if eqb d 1 then 18 else 46

unfoldable pub spf_number : (disposition dkim : ℕ) → ℕ
spf_number d k = if eqb d 1 then 20 else if eqb d 2 || eqb d 3 then 47 else if is_set k then 47 else 21

unfoldable pub results_number : (identifiers : ℕ) → ℕ
results_number n = if ltb n 16 then 24 else 32

unfoldable pub next_number_of : (node disposition dkim identifiers left : ℕ) → ℕ
next_number_of n d k i left =
    if eqb n 17 then dkim_number d
    else if eqb n 19 then spf_number d k
    else if eqb n 23 then results_number i
    else if eqb n 33 then (if eqb left 0 then 35 else 34)
    else get_or nexts n 0

unfoldable pub flagged_by : (node : ℕ) → ReaderState → ReaderState
flagged_by n s = if eqb n 18 then flagged 0 s.spf s else if eqb n 20 then flagged s.dkim 0 s else if eqb n 21 then flagged s.dkim 1 s else s

unfoldable pub closed : (kind node : ℕ) → ReaderState → Turn
closed kind node s = record { gives = false; state = arrived node (one_more s); written = closing s kind }

-- behind an identifier of a kind
unfoldable pub behind_number : (kind identifiers : ℕ) → ℕ
behind_number kind n = if eqb kind 1 then results_number n else 33

unfoldable pub closed_if : (kind : ℕ) → ReaderState → Result Turn Refusal
closed_if kind s = if leb 16 s.identifiers then Err Refusal.Outside else Ok (closed kind (behind_number kind (s.identifiers + 1)) s)

-- behind a literal, and an octet of one
abbrev pub LeavesLiteral : ReaderState → Result Turn Refusal → Type 0
LeavesLiteral s r = s.node < 36 → is_broken s.node s.identifiers ≡ false → Leaves s (literal_goes (literal_of s.node)) r

abbrev pub TurnsLiteral : ReaderState → (x : ℕ) → Result Turn Refusal → Type 0
TurnsLiteral s x r = s.node < 36 → is_broken s.node s.identifiers ≡ false → Turned s false x r
