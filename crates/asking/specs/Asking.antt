-- A run by calls: a lookup program, asked and answered name by name (document 01, "Demand 3's book ..").
use Rattle.std.specs.Prelude.{List, [], ◌∷◌, ◌++◌, map, ℕ, leb, length, if◌then◌else◌, Option, None, Some}
use Rattle.octets.specs.Octets.{Octets, same_text}
use Rattle.octets.specs.Refusing.{refusal}
use Rattle.octets.specs.declared.Refusal.{Refusal}
use Rattle.lookup.specs.Lookup.{Name, Lookups, Answers, names, Standing, needs, has, run_over}
use Rattle.domain.specs.Domain.{without_dot}
use Rattle.txt.specs.declared.Reply.{Reply}
use Rattle.txt.specs.Answers.{Answer, texts, reply, scratch_after}

-- ------------------------------------------------------------------ what a call gives

-- back, where A is what the run comes to: "Out: the names to ask, one at a time", and in the end that with the count
pub data Back (A : Type 0) : Type 0 where
  ask_name : Name → Back A
  verdict : A → (count : ℕ) → Back A
  accepted : Back A
  wrote : (octets : ℕ) → Back A
  refused : Refusal → Back A

-- and the lent memory that it leaves (none where none was lent)
pub record Given (A : Type 0) : Type 0 where
  pub back : Back A
  pub memory : Octets

abbrev pub given : {A : Type 0} → Back A → Octets → Given A
given b m = record { back = b; memory = m }

-- ------------------------------------------------------------------ what a run holds

-- beside its program: "accepted answers and the name now asked"; R is what is kept of an answer
pub record Asking (R : Type 0) : Type 0 where
  pub taken : Answers R
  pub asked : Option Name

-- "the last two start empty"
unfoldable pub begun : {R : Type 0} → Asking R
begun = record { taken = []; asked = None }

unfoldable pub with_asked : {R : Type 0} → Asking R → Name → Asking R
with_asked s n = record { taken = s.taken; asked = Some n }

-- "kept, .. no name asked"
unfoldable pub kept : {R : Type 0} → Asking R → Name → R → Asking R
kept s n r = record { taken = s.taken ++ ((n, r) ∷ []); asked = None }

-- "separate walks run over its answers to the first name without one"
unfoldable pub standing : {R A : Type 0} → Lookups R A → Asking R → Standing A
standing t s = run_over s.taken t

-- the names asked: those answered, and the one now asked; "given again before its answer, it still counts as asked once"
unfoldable pub now_asked : Option Name → List Name
now_asked None = []
now_asked (Some n) = n ∷ []

unfoldable pub asked_names : {R : Type 0} → Asking R → List Name
asked_names s = names s.taken ++ now_asked s.asked

-- "count asked": it is "the list's length" at the verdict
unfoldable pub count : {R : Type 0} → Asking R → ℕ
count s = length (asked_names s)

-- ------------------------------------------------------------------ next step

-- "the first name without one, which is given and now asked; .. if none lacks one, the verdict"
unfoldable pub next_by : {R A : Type 0} → Asking R → Standing A → Asking R × Given A
next_by s (needs n) = (with_asked s n, given (ask_name n) [])
next_by s (has a) = (s, given (verdict a (count s)) [])

unfoldable pub next_step : {R A : Type 0} → Lookups R A → Asking R → Asking R × Given A
next_step t s = next_by s (standing t s)

-- ------------------------------------------------------------------ answer

-- "Answer: 5, 6, 10; else kept, scratch as above"
unfoldable pub take_texts : {R A : Type 0} → Asking R → Name → R → (scratch : Octets) → Option (List Octets) → Asking R × Given A
take_texts s n r scratch None = (s, given (refused (refusal 6 0)) scratch)
take_texts s n r scratch (Some ts) =
    if leb 4096 (length scratch)
    then (kept s n r, given accepted (scratch_after ts scratch))
    else (s, given (refused (refusal 10 4096)) scratch)

-- "answer for a name not now asked, or none is asked"; the name "in either case", and with a final dot or without
unfoldable pub take_asked : {R A : Type 0} → Asking R → (name : Octets) → Answer → R → (scratch : Octets) → Option Name → Asking R × Given A
take_asked s name a r scratch None = (s, given (refused (refusal 5 0)) scratch)
take_asked s name a r scratch (Some n) =
    if same_text (without_dot name) n then take_texts s n r scratch (texts a) else (s, given (refused (refusal 5 0)) scratch)

-- an answer, and what is kept of it
unfoldable pub take : {R A : Type 0} → Asking R → (name : Octets) → Answer → R → (scratch : Octets) → Asking R × Given A
take s name a r scratch = take_asked s name a r scratch s.asked

-- accepted answers, each read
unfoldable pub replies : Answers Answer → Answers Reply
replies β = map (λ p. (p.0, reply p.1)) β

-- ------------------------------------------------------------------ result

-- "Result: 7 while a name lacks an answer, else the verdict; like the next step it has no lent output"
unfoldable pub result_by : {R A : Type 0} → Asking R → Standing A → Given A
result_by s (needs n) = given (refused (refusal 7 0)) []
result_by s (has a) = given (verdict a (count s)) []

unfoldable pub result_of : {R A : Type 0} → Lookups R A → Asking R → Given A
result_of t s = result_by s (standing t s)

-- ------------------------------------------------------------------ lists of calls

-- what a list of calls gives, one after the other, whatever keeps the state
unfoldable pub transcript : {S C G : Type 0} → (S → C → S × G) → S → List C → List G
transcript step s [] = []
transcript step s (c ∷ cs) = (step s c).1 ∷ transcript step (step s c).0 cs

-- and the state that it leaves
unfoldable pub leaves : {S C G : Type 0} → (S → C → S × G) → S → List C → S
leaves step s [] = s
leaves step s (c ∷ cs) = leaves step (step s c).0 cs
