-- What an octet of a name says to a reader's state.
use Rattle.std.specs.Prelude.{◌≡◌, ◌⊎◌, false, ℕ, ◌≤◌, ◌<◌, eqb, leb, if◌then◌else◌, Result}
use Rattle.report_steps.specs.declared.Refusal.{Refusal}
use Rattle.report_kept.specs.declared.ReaderState.{ReaderState}
use Rattle.report_kept.specs.declared.Turn.{Turn}
use Rattle.report_kept.specs.code.View.{name_at, is_broken, Turned, arrived, named}

abbrev pub TurnsName : ReaderState → (x : ℕ) → Result Turn Refusal → Type 0
TurnsName s x r = 59 ≤ s.node → s.node < 64 → is_broken s.node s.identifiers ≡ false → Turned s false x r

-- at most 253 octets
unfoldable pub fitting : ℕ → ℕ
fitting n = if leb 253 n then 253 else n

-- behind a name
unfoldable pub name_left_at : ReaderState → ReaderState
name_left_at s =
    if eqb s.node 59 then arrived 7 s
    else if eqb s.node 60 then arrived 23 (named (fitting s.length) 0 0 0 0 s)
    else if eqb s.node 61 then arrived 26 (named s.author s.identifiers (fitting s.length) s.selector s.outcome s)
    else if eqb s.node 62 then arrived 27 (named s.author s.identifiers s.domain (fitting s.length) s.outcome s)
    else arrived 30 (named s.author s.identifiers (fitting s.length) s.selector s.outcome s)

-- where the open name stands
abbrev pub NamePlace : (node identifiers place : ℕ) → Type 0
NamePlace node identifiers place = (place ≤ 8179) × (node ≡ 60 ⊎ identifiers < 16 → place ≡ name_at node identifiers)
