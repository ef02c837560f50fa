-- What an octet of a text, an id, a number or a name says to a reader's state.
use Rattle.std.specs.Prelude.{◌≡◌, false, ℕ, ◌-◌, ◌≤◌, ◌<◌, ◌^◌, eqb, if◌then◌else◌, Option, None, Some, Result}
use Rattle.octets.specs.Octets.{is_set}
use Rattle.report_steps.specs.declared.Refusal.{Refusal}
use Rattle.report_kept.specs.declared.ReaderState.{ReaderState}
use Rattle.report_kept.specs.declared.Turn.{Turn}
use Rattle.report_kept.specs.code.View.{Turned, arrived, valued}

abbrev pub TurnsText : ReaderState → (x : ℕ) → Result Turn Refusal → Type 0
TurnsText s x r = 52 ≤ s.node → s.node < 55 → Turned s false x r

abbrev pub TurnsId : ReaderState → (x : ℕ) → Result Turn Refusal → Type 0
TurnsId s x r = s.node ≡ 55 → Turned s false x r

abbrev pub TurnsNumber : ReaderState → (x : ℕ) → Result Turn Refusal → Type 0
TurnsNumber s x r = 56 ≤ s.node → s.node < 59 → Turned s false x r

-- begin, end and count
unfoldable pub least_of : ℕ → ℕ
least_of n = if eqb n 58 then 1 else 0

unfoldable pub most_of : ℕ → ℕ
most_of n = if eqb n 58 then 2 ^ 32 - 1 else 2 ^ 64 - 1

unfoldable pub floor_of : ReaderState → ℕ
floor_of s = if eqb s.node 57 then s.begin else 0

-- what is read of it
unfoldable pub read_in : ReaderState → Option ℕ
read_in s = if is_set s.some then Some s.value else None

-- behind a number
unfoldable pub number_left_at : ReaderState → (value : ℕ) → ReaderState
number_left_at s v =
    if eqb s.node 56 then arrived 5 (valued v s.count s)
    else if eqb s.node 57 then arrived 6 s
    else arrived 16 (valued s.begin v s)
