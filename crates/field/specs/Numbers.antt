-- What a reader of the field answers: what is read, and the same by numbers, for programs in other languages.
use Rattle.std.specs.Prelude.{◌≡◌, eqb, if◌then◌else◌, Result, Ok, Err}
use Rattle.octets.specs.Octets.{Octets, is_set, flag}
use Rattle.octets.specs.Refusing.{OrRefused, ok, not_ok, refusal}
use Rattle.field.specs.declared.FieldNumbers.{FieldNumbers}
use Rattle.field.specs.declared.NamedMethods.{NamedMethods}
use Rattle.field.specs.code.Reading.{read_field}
use Rattle.octets.specs.declared.Refusal.{Refusal}

-- the methods, or the refusal
unfoldable pub field_answer : OrRefused NamedMethods → Result NamedMethods Refusal
field_answer (ok m) = Ok m
field_answer (not_ok r) = Err r

unfoldable pub field_read : Octets → Result NamedMethods Refusal
field_read s = field_answer (read_field s)

-- ------------------------------------------------------------------ by numbers

-- refusal 0 is none. A refused field names both methods: `none` would say that all that were tried aligned
unfoldable pub field_read_numbers : Result NamedMethods Refusal → FieldNumbers
field_read_numbers (Ok m) = record { refusal = refusal 0 0; dkim = flag m.dkim; spf = flag m.spf }
field_read_numbers (Err r) = record { refusal = r; dkim = 1; spf = 1 }

-- what the numbers say
unfoldable pub field_read_said : FieldNumbers → Result NamedMethods Refusal
field_read_said n =
    if eqb n.refusal.number 0 then Ok (record { dkim = is_set n.dkim; spf = is_set n.spf })
    else Err n.refusal

-- nothing is lost: the numbers of what is read say it again
abbrev pub SaidAgain : Octets → Type 0
SaidAgain s = field_read_said (field_read_numbers (field_read s)) ≡ field_read s
