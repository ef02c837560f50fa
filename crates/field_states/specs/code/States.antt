-- A reader of the Identity-Alignment field: a state, and a step for each octet.
use Rattle.std.specs.Prelude.{[], ◌∷◌, Bool, true, false, ◌&&◌, ◌||◌, not, ℕ, suc, ◌+◌, ◌-◌, eqb, leb, length, drop, if◌then◌else◌}
use Rattle.octets.specs.Octets.{Octets, octets, is_empty, between, lower_octet, is_blank}
use Rattle.octets.specs.Refusing.{OrRefused, ok, not_ok, refusal}
use Rattle.octets.specs.declared.Refusal.{Refusal}
use Rattle.field.specs.declared.NamedMethods.{NamedMethods}
use Rattle.field_states.specs.declared.Word.{Word}
use Rattle.field_states.specs.declared.Side.{Side}
use Rattle.field_states.specs.declared.Blanks.{Blanks}
use Rattle.field_states.specs.declared.State.{State}
use Rattle.field_states.specs.declared.Reader.{Reader}
use Rattle.field_states.specs.declared.Spelled.{Spelled}
use Rattle.field_states.specs.declared.Misread.{Misread}
use Rattle.std.specs.Prelude.{Result, Ok, Err}

-- ------------------------------------------------------------------ words

unfoldable pub word_text : Word → Octets
word_text Word.Name = octets "identity-alignment:"
word_text Word.None = octets "none"
word_text Word.Dkim = octets "dkim"
word_text Word.Spf = octets "spf"

-- an octet, where these letters of a word are left
unfoldable pub spelled : Octets → ℕ → Spelled
spelled [] x = Spelled.Wrong
spelled (c ∷ w) x = if eqb (lower_octet x) c then (if is_empty w then Spelled.Whole else Spelled.Further) else Spelled.Wrong

unfoldable pub reader : State → (dkim spf : Bool) → Reader
reader t d s = record { state = t; dkim = d; spf = s }

unfoldable pub wrong : State
wrong = State.Between Side.Before Blanks.Wrong 0

-- behind a whole word
unfoldable pub behind : Word → (dkim spf : Bool) → Reader
behind Word.Name d s = reader (State.Between Side.Before Blanks.Fresh 0) d s
behind Word.None d s = reader (State.Between Side.After Blanks.Fresh 0) d s
behind Word.Dkim d s = reader (State.Between Side.After Blanks.Fresh 0) true s
behind Word.Spf d s = reader (State.Between Side.After Blanks.Fresh 0) d true

unfoldable pub spelling_step : Spelled → Word → ℕ → (dkim spf : Bool) → Reader
spelling_step Spelled.Wrong w k d s = reader wrong d s
spelling_step Spelled.Further w k d s = reader (State.Spelling w (k + 1)) d s
spelling_step Spelled.Whole w k d s = behind w d s

-- ------------------------------------------------------------------ between words

unfoldable pub after_blank : Blanks → Blanks
after_blank Blanks.Fresh = Blanks.Blank
after_blank Blanks.Blank = Blanks.Blank
after_blank Blanks.Cr = Blanks.Wrong
after_blank Blanks.Line = Blanks.Folded
after_blank Blanks.Folded = Blanks.Folded
after_blank Blanks.Escaped = Blanks.Fresh
after_blank Blanks.Ending = Blanks.Wrong
after_blank Blanks.Ended = Blanks.Wrong
after_blank Blanks.Wrong = Blanks.Wrong

unfoldable pub after_cr : (closing : Bool) → Blanks → Blanks
after_cr closing Blanks.Fresh = Blanks.Cr
after_cr closing Blanks.Blank = Blanks.Cr
after_cr closing Blanks.Cr = Blanks.Wrong
after_cr closing Blanks.Line = Blanks.Wrong
after_cr closing Blanks.Folded = if closing then Blanks.Ending else Blanks.Wrong
after_cr closing Blanks.Escaped = Blanks.Wrong
after_cr closing Blanks.Ending = Blanks.Wrong
after_cr closing Blanks.Ended = Blanks.Wrong
after_cr closing Blanks.Wrong = Blanks.Wrong

unfoldable pub after_lf : Blanks → Blanks
after_lf Blanks.Fresh = Blanks.Wrong
after_lf Blanks.Blank = Blanks.Wrong
after_lf Blanks.Cr = Blanks.Line
after_lf Blanks.Line = Blanks.Wrong
after_lf Blanks.Folded = Blanks.Wrong
after_lf Blanks.Escaped = Blanks.Wrong
after_lf Blanks.Ending = Blanks.Ended
after_lf Blanks.Ended = Blanks.Wrong
after_lf Blanks.Wrong = Blanks.Wrong

-- whether a CR LF may end the field there
unfoldable pub closes : Side → (depth : ℕ) → Bool
closes Side.Before depth = false
closes Side.After depth = eqb depth 0

-- in a comment
unfoldable pub inside_comment : Side → (depth x : ℕ) → State
inside_comment side depth x =
    if eqb x 41 then State.Between side Blanks.Fresh (depth - 1)
    else if eqb x 92 then State.Between side Blanks.Escaped depth
    else if between 33 126 x then State.Between side Blanks.Fresh depth
    else wrong

-- in no comment
unfoldable pub outside_comment : Side → (dkim spf : Bool) (x : ℕ) → State
outside_comment Side.Before d s x =
    if eqb (lower_octet x) 100 then State.Spelling Word.Dkim 1
    else if eqb (lower_octet x) 115 then State.Spelling Word.Spf 1
    else if eqb (lower_octet x) 110 && not (d || s) then State.Spelling Word.None 1
    else wrong
outside_comment Side.After d s x = if eqb x 44 && (d || s) then State.Between Side.Before Blanks.Fresh 0 else wrong

-- an octet that is no blank, CR or LF, where blanks may end
unfoldable pub token : Side → (depth : ℕ) (dkim spf : Bool) (x : ℕ) → State
token side depth d s x =
    if eqb x 40 then State.Between side Blanks.Fresh (depth + 1)
    else if eqb depth 0 then outside_comment side d s x
    else inside_comment side depth x

unfoldable pub escaped : Side → (depth x : ℕ) → State
escaped side depth x = if between 33 126 x then State.Between side Blanks.Fresh depth else wrong

unfoldable pub after_other : Blanks → Side → (depth : ℕ) (dkim spf : Bool) (x : ℕ) → State
after_other Blanks.Fresh side depth d s x = token side depth d s x
after_other Blanks.Blank side depth d s x = token side depth d s x
after_other Blanks.Cr side depth d s x = wrong
after_other Blanks.Line side depth d s x = wrong
after_other Blanks.Folded side depth d s x = token side depth d s x
after_other Blanks.Escaped side depth d s x = escaped side depth x
after_other Blanks.Ending side depth d s x = wrong
after_other Blanks.Ended side depth d s x = wrong
after_other Blanks.Wrong side depth d s x = wrong

unfoldable pub between_step : Side → Blanks → (depth : ℕ) (dkim spf : Bool) (x : ℕ) → State
between_step side b depth d s x =
    if is_blank x then State.Between side (after_blank b) depth
    else if eqb x 13 then State.Between side (after_cr (closes side depth) b) depth
    else if eqb x 10 then State.Between side (after_lf b) depth
    else after_other b side depth d s x

-- ------------------------------------------------------------------ one octet

unfoldable pub step_from : State → (dkim spf : Bool) (x : ℕ) → Reader
step_from (State.Spelling w k) d s x = spelling_step (spelled (drop k (word_text w)) x) w k d s
step_from (State.Between side b depth) d s x = reader (between_step side b depth d s x) d s

unfoldable pub step : Reader → ℕ → Reader
step r x = step_from r.state r.dkim r.spf x

-- whether blanks may end there
unfoldable pub is_open : Blanks → Bool
is_open Blanks.Fresh = true
is_open Blanks.Blank = true
is_open Blanks.Cr = false
is_open Blanks.Line = false
is_open Blanks.Folded = true
is_open Blanks.Escaped = false
is_open Blanks.Ending = false
is_open Blanks.Ended = false
is_open Blanks.Wrong = false

-- a parenthesis where a comment may begin; the comments open
unfoldable pub opens : State → ℕ → Bool
opens (State.Spelling w k) x = false
opens (State.Between side b depth) x = is_open b && eqb x 40

unfoldable pub depth_of : State → ℕ
depth_of (State.Spelling w k) = 0
depth_of (State.Between side b depth) = depth

-- refusal 25: a parenthesis, and eight or more are open
unfoldable pub ninth : State → ℕ → Bool
ninth q x = opens q x && leb 8 (depth_of q)

-- refusal 24
unfoldable pub is_shut : Blanks → Bool
is_shut Blanks.Fresh = false
is_shut Blanks.Blank = false
is_shut Blanks.Cr = false
is_shut Blanks.Line = false
is_shut Blanks.Folded = false
is_shut Blanks.Escaped = false
is_shut Blanks.Ending = false
is_shut Blanks.Ended = false
is_shut Blanks.Wrong = true

unfoldable pub is_wrong : State → Bool
is_wrong (State.Spelling w k) = false
is_wrong (State.Between side b depth) = is_shut b

-- refusal 26: a method is whole that was read before
unfoldable pub read_before : Word → (dkim spf : Bool) → Bool
read_before Word.Name d s = false
read_before Word.None d s = false
read_before Word.Dkim d s = d
read_before Word.Spf d s = s

unfoldable pub is_spelled : Spelled → Bool
is_spelled Spelled.Wrong = false
is_spelled Spelled.Further = false
is_spelled Spelled.Whole = true

unfoldable pub again : State → (dkim spf : Bool) (x : ℕ) → Bool
again (State.Spelling w k) d s x = is_spelled (spelled (drop k (word_text w)) x) && read_before w d s
again (State.Between side b depth) d s x = false

-- the octets of the word that is read
unfoldable pub word_size : State → ℕ
word_size (State.Spelling w k) = length (word_text w)
word_size (State.Between side b depth) = 0

unfoldable pub turn : Reader → ℕ → Result Reader Misread
turn r x =
    if ninth r.state x then (Err Misread.TooDeep)
    else if is_wrong (step r x).state then (Err Misread.Wrong)
    else if again r.state r.dkim r.spf x then Err (Misread.Again (word_size r.state))
    else Ok (step r x)

-- ------------------------------------------------------------------ a whole text

unfoldable pub is_ended : Blanks → (closing : Bool) → Bool
is_ended Blanks.Fresh c = false
is_ended Blanks.Blank c = false
is_ended Blanks.Cr c = false
is_ended Blanks.Line c = c
is_ended Blanks.Folded c = false
is_ended Blanks.Escaped c = false
is_ended Blanks.Ending c = false
is_ended Blanks.Ended c = true
is_ended Blanks.Wrong c = false

unfoldable pub ends : State → Bool
ends (State.Spelling w k) = false
ends (State.Between side b depth) = is_ended b (closes side depth)

unfoldable pub ended : (at : ℕ) → Reader → OrRefused NamedMethods
ended at r = if ends r.state then ok (record { dkim = r.dkim; spf = r.spf }) else not_ok (refusal 24 at)

-- the refusal for an octet at a place
unfoldable pub misread : (at : ℕ) → Misread → Refusal
misread at Misread.Wrong = refusal 24 at
misread at Misread.TooDeep = refusal 25 at
misread at (Misread.Again n) = refusal 26 (at + 1 - n)

unfoldable pub run_reader : (at : ℕ) → Reader → Octets → OrRefused NamedMethods
run_reader at r [] = ended at r
run_reader at r (x ∷ s) = elim (turn r x) [ Ok q ↦ run_reader (suc at) q s | Err m ↦ not_ok (misread at m) ]

unfoldable pub start : Reader
start = reader (State.Spelling Word.Name 0) false false
