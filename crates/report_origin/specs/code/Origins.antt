-- What an octet of a source address says to a reader's state.
use Rattle.std.specs.Prelude.{◌≡◌, Bool, ℕ, ◌+◌, ◌*◌, ◌/◌, ◌%◌, eqb, leb, if◌then◌else◌, false, Result, Ok, Err}
use Rattle.report_steps.specs.declared.Refusal.{Refusal}
use Rattle.report_kept.specs.declared.Written.{Written}
use Rattle.report_kept.specs.declared.ReaderState.{ReaderState}
use Rattle.report_kept.specs.declared.Turn.{Turn}
use Rattle.report_kept.specs.code.View.{Turned, arrived, on_source}

abbrev pub TurnsSource : ReaderState → (five : Bool) → (x : ℕ) → Result Turn Refusal → Type 0
TurnsSource s five x r = s.node ≡ 64 → Turned s five x r

-- a number of a dotted address, and a group
unfoldable pub octet_put : ReaderState → (at value : ℕ) → Turn
octet_put s at v = record { gives = false; state = s; written = Written.One at (v % 256) }

unfoldable pub group_put : ReaderState → (at value : ℕ) → Turn
group_put s at v = record { gives = false; state = s; written = Written.Two at (v / 256) (v % 256) }

-- behind the address, and behind a number of it
unfoldable pub source_ended : ReaderState → Turn
source_ended s = if eqb s.kind 1 then octet_put (arrived 15 s) 15 s.ten else group_put (arrived 15 s) 14 s.sixteen

unfoldable pub source_next : ReaderState → (kind value : ℕ) → Result Turn Refusal
source_next s kind v =
    if leb 7 s.numbers then Err Refusal.Outside
    else if eqb kind 1 then Ok (octet_put (on_source 1 (s.numbers + 1) 0 0 0 s) (12 + s.numbers) v)
    else Ok (group_put (on_source 2 (s.numbers + 1) 0 0 0 s) (2 * s.numbers) v)
