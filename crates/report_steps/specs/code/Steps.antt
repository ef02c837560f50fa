-- What an octet says, by the program that reads the form (`report_form`'s `ReportReading`).
use Rattle.std.specs.Prelude.{Bool, ℕ, ◌+◌, ◌-◌, ◌*◌, eqb, leb, if◌then◌else◌, Option, None, Some, Result, Ok, Err}
use Rattle.report_form.specs.code.ReportReading.{number_refused}
use Rattle.report_steps.specs.declared.Leaf.{Leaf}
use Rattle.report_steps.specs.declared.Refusal.{Refusal}

-- the refusals' numbers
unfoldable pub refusal_number : Refusal → ℕ
refusal_number Refusal.Outside = 20
refusal_number Refusal.Over = 21
refusal_number Refusal.Early = 22

-- a number: refused with its number; at the `<` after it ended; else with a digit more
unfoldable pub turn_by : Option ℕ → (value : ℕ) → ℕ → Result (Leaf ℕ) Refusal
turn_by (Some n) value x = if eqb n 21 then Err Refusal.Over else Err Refusal.Outside
turn_by None value x = if eqb x 60 then Ok Leaf.Ended else Ok (Leaf.More (value * 10 + (x - 48)))

unfoldable pub number_turn : (least most floor value : ℕ) → (some : Bool) → ℕ → Result (Leaf ℕ) Refusal
number_turn least most floor value some x = turn_by (number_refused least most (leb floor) value some x) value x
