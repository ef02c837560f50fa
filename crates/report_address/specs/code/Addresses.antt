-- The tests of an open address, by its numbers (`report_form`'s `ReportReading`).
use Rattle.std.specs.Prelude.{List, Bool, ◌&&◌, ◌||◌, not, ℕ, ◌+◌, ◌*◌, eqb, leb, ltb, if◌then◌else◌}
use Rattle.octets.specs.Octets.{is_digit}
use Rattle.report_form.specs.code.ReportReading.{Kind, either, dotted, grouped, can_be_dotted, can_be_grouped, Address, digit_value, lower_hex, is_last}

unfoldable pub kind_of : ℕ → Kind
kind_of k = if eqb k 0 then either else if eqb k 1 then dotted else grouped

-- an open address, by the numbers before it
unfoldable pub address_of : (kind digits ten sixteen : ℕ) → (before : List ℕ) → Address
address_of kind digits ten sixteen before = record { kind = kind_of kind; before = before; digits = digits; ten = ten; sixteen = sixteen }

unfoldable pub only_zero_in : (digits sixteen : ℕ) → Bool
only_zero_in digits sixteen = ltb 0 digits && eqb sixteen 0

unfoldable pub dotted_on : (kind digits ten sixteen x : ℕ) → Bool
dotted_on kind digits ten sixteen x = can_be_dotted (kind_of kind) && is_digit x && not (only_zero_in digits sixteen) && leb (ten * 10 + digit_value x) 255

unfoldable pub grouped_on : (kind : ℕ) → (five : Bool) → (digits sixteen x : ℕ) → Bool
grouped_on kind five digits sixteen x = can_be_grouped (kind_of kind) && lower_hex x && not (only_zero_in digits sixteen) && not (five && eqb (sixteen * 16 + digit_value x) 65535)

unfoldable pub ends_in : (kind numbers digits x : ℕ) → Bool
ends_in kind numbers digits x =
    ltb 0 digits
    && (eqb x 60 && is_last (kind_of kind) numbers
    || eqb x 46 && can_be_dotted (kind_of kind) && ltb numbers 3
    || eqb x 58 && can_be_grouped (kind_of kind) && ltb numbers 7)
