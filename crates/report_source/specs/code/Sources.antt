-- An open address by its numbers, every value of which is read: those that no text leads to take no octet.
use Rattle.std.specs.Prelude.{◌≡◌, List, [], ◌∷◌, ◌++◌, ◌⊎◌, Bool, true, false, ◌&&◌, ℕ, ◌+◌, ◌*◌, ◌≤◌, ◌<◌, eqb, leb, ltb, length, get_or, if◌then◌else◌, Result, Ok, Err}
use Rattle.octets.specs.Octets.{Octets, same}
use Rattle.parsing.specs.Reads.{Reads, done, octet_where}
use Rattle.parsing_steps.specs.Stepping.{Step, on, refused, step_of}
use Rattle.report_form.specs.ReportForm.{Said}
use Rattle.report_form.specs.code.ReportReading.{digit_value, is_last, source_of}
use Rattle.report_states.specs.Standing.{address_left}
use Rattle.report_address.specs.code.Addresses.{kind_of, address_of}
use Rattle.report_steps.specs.declared.Refusal.{Refusal}
use Rattle.report_steps.specs.code.Steps.{refusal_number}
use Rattle.report_source.specs.declared.SourceTurn.{SourceTurn}

-- a number of so many hexadecimal digits is below this
unfoldable pub limit : ℕ → ℕ
limit digits = get_or (1 ∷ 16 ∷ 256 ∷ 4096 ∷ 65536 ∷ []) digits 0

-- so many numbers can stand before the open one, and one of a dotted address is an octet
unfoldable pub fits_kind : (kind numbers ten : ℕ) → Bool
fits_kind kind numbers ten =
    if eqb kind 0 then eqb numbers 0 && leb ten 255
    else if eqb kind 1 then leb numbers 3 && leb ten 255
    else leb numbers 7

unfoldable pub is_sound : (kind numbers digits ten sixteen : ℕ) → Bool
is_sound kind numbers digits ten sixteen = fits_kind kind numbers ten && ltb sixteen (limit digits) && ltb ten (limit digits)

-- a program that takes no octet
unfoldable pub no_octet : Reads Said Octets
no_octet = octet_where (λ x. false) (λ x. done [])

unfoldable pub source_left : (kind digits ten sixteen : ℕ) → (before : List ℕ) → Reads Said Octets
source_left kind digits ten sixteen before =
    if is_sound kind (length before) digits ten sixteen then address_left (address_of kind digits ten sixteen before) else no_octet

unfoldable pub five_zeros : List ℕ → Bool
five_zeros before = same before (0 ∷ 0 ∷ 0 ∷ 0 ∷ 0 ∷ [])

unfoldable pub grown : (kind digits ten sixteen x : ℕ) → SourceTurn
grown kind digits ten sixteen x = SourceTurn.More (record {
  kind = kind;
  digits = digits + 1;
  ten = ten * 10 + digit_value x;
  sixteen = sixteen * 16 + digit_value x;
})

unfoldable pub number_ended : (ten sixteen x : ℕ) → SourceTurn
number_ended ten sixteen x =
    if eqb x 60 then SourceTurn.Ended
    else if eqb x 46 then SourceTurn.Number 1 ten
    else SourceTurn.Number 2 sixteen

-- what an octet says: 0 a digit more, 1 the address has ended, 2 a number has, 20 refused; the kind, and either the open number then or the one that has ended
unfoldable pub source_turn : (says kind digits ten sixteen value : ℕ) → (source : Octets) → (before : List ℕ) → Step Said Octets
source_turn says kind digits ten sixteen value source before =
    if eqb says 0 then on (source_left kind digits ten sixteen before)
    else if eqb says 1 then on (done source)
    else if eqb says 2 then on (source_left kind 0 0 0 (before ++ (value ∷ [])))
    else refused says

-- an octet of an address, behind any numbers that are so many, the first five zeros or not
abbrev pub Sources : (kind numbers : ℕ) → (five : Bool) → (digits ten sixteen x says kind' digits' ten' sixteen' value : ℕ) → Type 0
Sources kind numbers five digits ten sixteen x says kind' digits' ten' sixteen' value =
    (before : List ℕ) → length before ≡ numbers → five_zeros before ≡ five
    → step_of (source_left kind digits ten sixteen before) x
    ≡ source_turn says kind' digits' ten' sixteen' value (source_of (address_of kind digits ten sixteen before)) before

-- where a number ends, by the kind then: one of a dotted address is an octet, and all before it are of one kind
unfoldable pub number_told : (kind numbers ten sixteen kind' value : ℕ) → Type 0
number_told kind numbers ten sixteen kind' value =
    ((kind' ≡ 1) × (value ≡ ten) × (ten ≤ 255) × (numbers < 3) × ((kind ≡ 1) ⊎ (numbers ≡ 0)))
    ⊎ ((kind' ≡ 2) × (value ≡ sixteen) × (numbers < 7) × (kind ≡ 1 → ⊥))

-- by a turn: a digit more leaves the numbers before as they are, and an address ends behind its last number
unfoldable pub Turns : (kind numbers : ℕ) → (five : Bool) → (digits ten sixteen x : ℕ) → Result SourceTurn Refusal → Type 0
Turns kind numbers five digits ten sixteen x (Ok (SourceTurn.More n)) =
    Sources kind numbers five digits ten sixteen x 0 n.kind n.digits n.ten n.sixteen 0 × (eqb n.kind 1 ≡ eqb kind 1)
Turns kind numbers five digits ten sixteen x (Ok SourceTurn.Ended) =
    Sources kind numbers five digits ten sixteen x 1 0 0 0 0 0 × (is_last (kind_of kind) numbers ≡ true) × (kind ≡ 1 → ten ≤ 255)
Turns kind numbers five digits ten sixteen x (Ok (SourceTurn.Number kind' value)) =
    Sources kind numbers five digits ten sixteen x 2 kind' 0 0 0 value × number_told kind numbers ten sixteen kind' value
Turns kind numbers five digits ten sixteen x (Err r) = Sources kind numbers five digits ten sixteen x (refusal_number r) 0 0 0 0 0
