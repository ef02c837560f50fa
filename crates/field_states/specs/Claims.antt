-- What is claimed of the fields that are read: as what, and where refusal 25 is given (document 02, Ask 12).
use Rattle.std.specs.Prelude.{◌≡◌, ◌↔◌, Bool, ℕ, ◌<◌, length, get_or}
use Rattle.octets.specs.Octets.{Octets}
use Rattle.octets.specs.Refusing.{ok, not_ok, refusal}
use Rattle.grammar.specs.Grammar.{Text}
use Rattle.field.specs.Field.{field_naming}
use Rattle.field.specs.code.Reading.{read_field}

-- "What is accepted is exactly that grammar within that depth, read as the methods it names"
abbrev pub Exactly : Octets → Type 0
Exactly text = (d s : Bool) → (read_field text ≡ ok (record { dkim = d; spf = s })) ↔ Text (field_naming 8 d s) text

-- "25 at the ninth parenthesis open at once": the octet there is a parenthesis
abbrev pub AtParenthesis : Octets → Type 0
AtParenthesis text = (p : ℕ) → read_field text ≡ not_ok (refusal 25 p) → (p < length text) × (get_or text p 0 ≡ 40)
