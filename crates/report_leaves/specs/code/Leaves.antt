-- What an octet of a value says, as a step of the program that reads it.
use Rattle.std.specs.Prelude.{◌≡◌, [], ◌∷◌, ◌++◌, ℕ, ◌+◌, ◌-◌, ◌<◌, eqb, if◌then◌else◌, Option, None, Some, Result, Ok, Err}
use Rattle.octets.specs.Octets.{Octets}
use Rattle.parsing.specs.Reads.{Reads, done}
use Rattle.parsing_steps.specs.Stepping.{Step, on, refused, step_of}
use Rattle.report_form.specs.ReportForm.{Said}
use Rattle.report_steps.specs.declared.Leaf.{Leaf}
use Rattle.report_steps.specs.declared.Refusal.{Refusal}
use Rattle.report_steps.specs.code.Steps.{refusal_number}
use Rattle.report_states.specs.Standing.{in_entity, text_left, name_left}
use Rattle.report_leaves.specs.declared.TextPlace.{TextPlace}
use Rattle.report_leaves.specs.declared.NamePlace.{NamePlace}

-- the program goes on as what is left where so much is read, it is done with this value, or it is refused
unfoldable pub said : {R A P : Type 0} → (P → Reads R A) → A → Result (Leaf P) Refusal → Step R A
said left a (Ok (Leaf.More p)) = on (left p)
said left a (Ok Leaf.Ended) = on (done a)
said left a (Err r) = refused (refusal_number r)

-- within an entity: 0 behind its end, else where it is; none refused
unfoldable pub entity_meant : Option ℕ → Step Said (Unit {0})
entity_meant None = refused 20
entity_meant (Some at) = if eqb at 0 then on (done tt) else on (in_entity (at - 1))

unfoldable pub text_at : TextPlace → Reads Said (Unit {0})
text_at p = text_left p.length p.at

-- an octet of a name, whatever was read of it
abbrev pub Names : (length label x : ℕ) → Result (Leaf NamePlace) Refusal → Type 0
Names length label x r =
    (so_far : Octets) → step_of (name_left {R = Said} length label so_far) x ≡ said (λ p. name_left p.length p.label (so_far ++ (x ∷ []))) so_far r

-- and where it goes on, it has room for the octet, and is one longer
abbrev pub NameTurns : (length label x : ℕ) → Result (Leaf NamePlace) Refusal → Type 0
NameTurns length label x r = Names length label x r × ((p : NamePlace) → r ≡ Ok (Leaf.More p) → (p.length ≡ length + 1) × (length < 253))
